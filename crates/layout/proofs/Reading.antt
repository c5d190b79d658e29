-- What is read from frames: the bytes of the text, and the fields around them.
use Rattle.std.proofs.Common.{◌≡◌, ℕ, ◌+◌, ◌-◌, ◌*◌, ◌/◌, ◌%◌, ◌^◌, ◌<◌, ◌≤◌, eqb, ltb, List, length, get_or, sym, ap, ◌∙◌, subst, ap₂, ⊎_elim, mod-lt, add-mul, one-mul, div-add-mod', le-div_iff_mul-le, zero-add, div-mul-le_self, arith, pow_pos, pow_mono}
use native.Mathlib.Nat.{zero-div, zero-mod}
use lib.Arith.{digits_div, digits_mod}
use Rattle.std.proofs.lemmas.Bool.{cases_lt, lt-ltb, le-ltb, ne_eqb, cond-true, cond-false, cond_both}
use Rattle.std.proofs.lemmas.List.{get_or_past, ext_get_or}
use Rattle.std.proofs.lemmas.List.FromFn.{get_or-map-range_with_len, length-map-range_with_len}
use Rattle.layout.specs.declared.layout.FrameLayout.{FrameLayout}
use Rattle.layout.specs.declared.layout.FrameFields.{FrameFields}
use Rattle.layout.specs.Frames.{with_bytes, byte_of, frame_count, leading_of, frame_of, place_of, bytes_in, byte_at, text_in, FitBits, FitLayout}
use Rattle.layout.proofs.Packing.{within, before}
use Rattle.layout.proofs.Leading.{leading_later, bytes_later}

pub place_after : (s : FrameLayout) (d : ℕ) → place_of s (1 + d) ≡ s.first_bytes + d * s.later_bytes
place_after s d =
    let e : 1 + d - 1 ≡ d = omega arith in
    cond-false (eqb (1 + d) 0) 0 (s.first_bytes + (1 + d - 1) * s.later_bytes) (ne_eqb (1 + d) 0 (λ z. omega arith)) ∙ ap (λ (x : ℕ). s.first_bytes + x * s.later_bytes) e

-- the frame of byte j is there
pub in_frames : (s : FrameLayout) (n j : ℕ) → FitLayout s → s.first_bytes ≤ j → j < n → 1 + (j - s.first_bytes) / s.later_bytes < frame_count s n
in_frames s n j ok f l =
    let d = (j - s.first_bytes) / s.later_bytes in
    let a : d * s.later_bytes ≤ j - s.first_bytes = div-mul-le_self (j - s.first_bytes) s.later_bytes in
    let b : (d + 1) * s.later_bytes ≡ d * s.later_bytes + s.later_bytes = add-mul d 1 s.later_bytes ∙ ap (λ (x : ℕ). d * s.later_bytes + x) (one-mul s.later_bytes) in
    let lp = ok.later_some in
    let h : d + 1 ≤ (n - s.first_bytes + (s.later_bytes - 1)) / s.later_bytes = (le-div_iff_mul-le lp).1 (omega (arith, a, b, lp, f, l)) in
    omega (arith, h)

-- frames that hold the bytes of t behind fields of their own
abbrev pub Holds : FrameLayout → List ℕ → List ℕ → Type 0
Holds s t xs = (i : ℕ) → i < frame_count s (length t) → (n : ℕ) × (get_or xs i 0 / 2 ^ s.trailing_bits ≡ with_bytes n s.byte_bits t (place_of s i) (bytes_in s i))

zero_byte : (w k j n : ℕ) → byte_of w k j (0 / 2 ^ n) ≡ 0
zero_byte w k j n = ap (byte_of w k j) (zero-div (2 ^ n)) ∙ ap (λ (x : ℕ). x % 2 ^ w) (zero-div (2 ^ (w * (k - 1 - j)))) ∙ zero-mod (2 ^ w)

pub byte_read : (s : FrameLayout) (t xs : List ℕ) (j : ℕ) → FitLayout s → FitBits s.byte_bits t → length xs ≡ frame_count s (length t) → Holds s t xs → byte_at s xs j ≡ get_or t j 0
byte_read s t xs j ok small all h =
    ⊎_elim
    (λ (b : j < s.first_bytes).
    let z : 0 < frame_count s (length t) = omega arith in
    let k = h 0 z in
    cond-true (ltb j s.first_bytes) _ _ (lt-ltb j s.first_bytes b)
    ∙ ap (byte_of s.byte_bits s.first_bytes j) k.1
    ∙ within k.0 s.byte_bits t 0 s.first_bytes j small b
    ∙ ap (λ (x : ℕ). get_or t x 0) (zero-add j))
    (λ (a : s.first_bytes ≤ j).
    let d = (j - s.first_bytes) / s.later_bytes in
    let m = (j - s.first_bytes) % s.later_bytes in
    let lp = ok.later_some in
    let e : s.first_bytes + d * s.later_bytes + m ≡ j = omega (arith, div-add-mod' (j - s.first_bytes) s.later_bytes, a) in
    cond-false (ltb j s.first_bytes) _ _ (le-ltb j s.first_bytes a)
    ∙ ⊎_elim
    (λ (here : 1 + d < frame_count s (length t)).
    let k = h (1 + d) here in
    ap (byte_of s.byte_bits s.later_bytes m) (k.1 ∙ ap₂ (with_bytes k.0 s.byte_bits t) (place_after s d) (bytes_later s (1 + d) (λ z. omega arith)))
    ∙ within k.0 s.byte_bits t (s.first_bytes + d * s.later_bytes) s.later_bytes m small (mod-lt (j - s.first_bytes) lp)
    ∙ ap (λ (x : ℕ). get_or t x 0) e)
    (λ (absent : frame_count s (length t) ≤ 1 + d).
    let past : length t ≤ j = ⊎_elim (λ (l : j < length t). absurd (let i = in_frames s (length t) j ok a l in omega (arith, i, absent))) (λ (g : length t ≤ j). g) (cases_lt j (length t)) in
    ap (λ (x : ℕ). byte_of s.byte_bits s.later_bytes m (x / 2 ^ s.trailing_bits)) (get_or_past {X = ℕ} xs (1 + d) 0 (omega (arith, all, absent)))
    ∙ zero_byte s.byte_bits s.later_bytes m s.trailing_bits ∙ sym (get_or_past {X = ℕ} t j 0 past))
    (cases_lt (1 + d) (frame_count s (length t))))
    (cases_lt j s.first_bytes)

-- the text again
pub text_read : (s : FrameLayout) (t xs : List ℕ) → FitLayout s → FitBits s.byte_bits t → length xs ≡ frame_count s (length t) → Holds s t xs → text_in s xs (length t) ≡ t
text_read s t xs ok small all h =
    let e = length-map-range_with_len (byte_at s xs) 0 (length t) in
    ext_get_or 0 _ t e (λ i l. let m : i < length t = omega (arith, e, l) in get_or-map-range_with_len (byte_at s xs) 0 (length t) i i 0 m (zero-add i) ∙ byte_read s t xs i ok small all h)

-- a byte that is read is small
pub byte_small : (s : FrameLayout) (xs : List ℕ) (j : ℕ) → FitLayout s → byte_at s xs j < 256
byte_small s xs j ok =
    let p : 2 ^ s.byte_bits ≤ 2 ^ 8 = pow_mono ok.byte_bits_few in
    let q : (x : ℕ) → x % 2 ^ s.byte_bits < 256 = λ x. let r = mod-lt x (pow_pos s.byte_bits) in omega (arith, p, r) in
    cond_both (ltb j s.first_bytes) _ _ (λ (x : ℕ). x < 256) (λ e. q _) (λ e. q _)

pub text_small : (s : FrameLayout) (xs : List ℕ) (n j : ℕ) → FitLayout s → get_or (text_in s xs n) j 0 < 256
text_small s xs n j ok =
    let e = length-map-range_with_len (byte_at s xs) 0 n in
    ⊎_elim
    (λ (l : j < n). subst (λ (x : ℕ). x < 256) (sym (get_or-map-range_with_len (byte_at s xs) 0 n j j 0 l (zero-add j))) (byte_small s xs j ok))
    (λ (a : n ≤ j). subst (λ (x : ℕ). x < 256) (sym (get_or_past {X = ℕ} (text_in s xs n) j 0 (omega (arith, e, a)))) (omega arith))
    (cases_lt j n)

-- the fields of a frame again
pub leading_read : (s : FrameLayout) (f : FrameFields) (t : List ℕ) (i : ℕ) → FitBits s.byte_bits t → f.trailing < 2 ^ s.trailing_bits → frame_of s f t i / 2 ^ s.trailing_bits / 2 ^ (s.byte_bits * bytes_in s i) ≡ leading_of f i
leading_read s f t i small r =
    ap (λ (x : ℕ). x / 2 ^ (s.byte_bits * bytes_in s i)) (digits_div (with_bytes (leading_of f i) s.byte_bits t (place_of s i) (bytes_in s i)) r) ∙ before (leading_of f i) s.byte_bits t (place_of s i) (bytes_in s i) small

pub trailing_read : (s : FrameLayout) (f : FrameFields) (t : List ℕ) (i : ℕ) → f.trailing < 2 ^ s.trailing_bits → frame_of s f t i % 2 ^ s.trailing_bits ≡ f.trailing
trailing_read s f t i r = digits_mod (with_bytes (leading_of f i) s.byte_bits t (place_of s i) (bytes_in s i)) r

-- of frame 0, and of a later frame
pub first_read : (s : FrameLayout) (f : FrameFields) (t : List ℕ) → FitBits s.byte_bits t → f.trailing < 2 ^ s.trailing_bits → frame_of s f t 0 / 2 ^ s.trailing_bits / 2 ^ (s.byte_bits * s.first_bytes) ≡ f.first_leading
first_read s f t small r = leading_read s f t 0 small r

pub later_read : (s : FrameLayout) (f : FrameFields) (t : List ℕ) (i : ℕ) → (i ≡ 0 → ⊥) → FitBits s.byte_bits t → f.trailing < 2 ^ s.trailing_bits → frame_of s f t i / 2 ^ s.trailing_bits / 2 ^ (s.byte_bits * s.later_bytes) ≡ f.later_leading + i * f.number_unit
later_read s f t i z small r =
    ap (λ (w : ℕ). frame_of s f t i / 2 ^ s.trailing_bits / 2 ^ (s.byte_bits * w)) (sym (bytes_later s i z))
    ∙ leading_read s f t i small r ∙ leading_later f i z
