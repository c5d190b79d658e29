-- The layout of the station name is sound.
use Rattle.std.specs.Prelude.{◌≡◌, ℕ, zero, suc, ◌+◌, ◌-◌, ◌*◌, ◌/◌, ◌%◌, ◌^◌, ◌<◌, ◌≤◌, true, List, [], ◌∷◌, length, None, ◌==◌, slice_index, slice_index_or, refl}
use Rattle.std.proofs.Common.{sym, ap, ◌∙◌, ⊎_elim, arith}
use Rattle.std.proofs.lemmas.Bool.{cases_lt, cases_eq, and_parts, and_from, leb-true, ltb-true, lt-ltb, le-leb, eq-eqb, ne_eqb, cond-true, cond-false, cond_both}
use Rattle.std.proofs.lemmas.List.{get_or_past}
use Rattle.std.proofs.lemmas.Bool.Decides.{nat_tests}
use Rattle.layout.specs.Frames.{frame_count, leading_of, frame_of, bytes_in, byte_at, FitBits, FitLayout, FitFields}
use Rattle.family.specs.Family.{record_cut}
use Rattle.name.specs.Name.{name_layout, frame_layout, fields_of, text_refusal, characters, until_zero, number_in, last_in}
use Rattle.layout.proofs.Reading.{leading_read, trailing_read, byte_read}
use Rattle.family.specs.Sound.{SoundLayout, cut_long, cut_holds}

pub layout_fits : FitLayout frame_layout
layout_fits = record { byte_bits_few = omega arith; trailing_bits_few = omega arith; first_some = omega arith; first_few = omega arith; later_some = omega arith; later_few = omega arith }

pub record Lawful (t : List ℕ) : Type 0 where
  pub some : 1 ≤ length t
  pub few : length t ≤ 56
  pub spelled : characters t ≡ true

pub lawful : (t : List ℕ) → text_refusal t ≡ None → Lawful t
lawful t h = record { some = grind (arith, nat_tests); few = grind (arith, nat_tests); spelled = grind (arith, nat_tests) }

character : (t : List ℕ) (j : ℕ) → characters t ≡ true → j < length t → (1 ≤ slice_index t j) × (slice_index t j ≤ 127)
character [] j e l = absurd (omega arith)
character (b ∷ bs) zero e l = let p = and_parts _ _ (and_parts _ _ e).0 in (leb-true 1 b p.0, leb-true b 127 p.1)
character (b ∷ bs) (suc j) e l = character bs j (and_parts _ _ e).1 (omega arith)

pub small : (t : List ℕ) → text_refusal t ≡ None → FitBits 7 t
small t h j =
    ⊎_elim (λ (l : j < length t). let c = character t j (lawful t h).spelled l in omega (arith, c.1)) (λ (g : length t ≤ j). let e = get_or_past {X = ℕ} t j 0 g in omega (arith, e)) (cases_lt j (length t))

pub room : (n q : ℕ) → n ≤ 56 → q < 8 → FitFields frame_layout (fields_of n q)
room n q h k = record { first_fits = omega arith; later_fits = omega arith; leading_fits = omega arith; unit_some = omega arith; trailing_fits = omega arith }

pub until_zero_read : (f : ℕ → ℕ) (j k n : ℕ) → j ≤ n → n ≤ j + k → ((i : ℕ) → i < n → 1 ≤ f i) → (n < j + k → f n ≡ 0) → until_zero f j k ≡ n
until_zero_read f j zero n a b some none = omega arith
until_zero_read f j (suc k) n a b some none =
    ⊎_elim
    (λ (l : j < n). let p = some j l in cond-false (f j == 0) j (until_zero f (j + 1) k) (ne_eqb (f j) 0 (λ z. omega (arith, p, z))) ∙ until_zero_read f (j + 1) k n (omega arith) (omega arith) some (λ h. none (omega (arith, h))))
    (λ (g : n ≤ j). let e : j ≡ n = omega arith in cond-true (f j == 0) j (until_zero f (j + 1) k) (eq-eqb (f j) 0 (ap f e ∙ none (omega arith))) ∙ e)
    (cases_lt j n)

-- the fields of a name's frame
leading_is : (n q i : ℕ) → leading_of (fields_of n q) i ≡ (frame_count frame_layout n - 1) * 8 + i
leading_is n q i = ⊎_elim (λ (e : i ≡ 0). rw e (omega arith)) (λ (z : i ≡ 0 → ⊥). cond-false (i == 0) _ _ (ne_eqb i 0 z) ∙ omega arith) (cases_eq i 0)

seven : (i : ℕ) → bytes_in frame_layout i ≡ 7
seven i = cond_both (i == 0) 7 7 (λ (x : ℕ). x ≡ 7) (λ _. refl) (λ _. refl)

leading_in : (t : List ℕ) (q i : ℕ) → text_refusal t ≡ None → q < 8 → frame_of frame_layout (fields_of (length t) q) t i / 8 / 2 ^ 49 ≡ (frame_count frame_layout (length t) - 1) * 8 + i
leading_in t q i h k =
    ap (λ (w : ℕ). frame_of frame_layout (fields_of (length t) q) t i / 8 / 2 ^ (7 * w)) (sym (seven i))
    ∙ leading_read frame_layout (fields_of (length t) q) t i (small t h) k
    ∙ leading_is (length t) q i

trailing_in : (t : List ℕ) (q i : ℕ) → q < 8 → frame_of frame_layout (fields_of (length t) q) t i % 8 ≡ q
trailing_in t q i k = trailing_read frame_layout (fields_of (length t) q) t i k

-- of any number x with these fields
number_in_lem : (x a i : ℕ) → x / 8 / 2 ^ 49 ≡ a * 8 + i → i < 8 → number_in x ≡ i
number_in_lem x a i e h = omega arith

last_in_lem : (x a i : ℕ) → x / 8 / 2 ^ 49 ≡ a * 8 + i → i < 8 → a < 8 → last_in x ≡ a
last_in_lem x a i e h k = omega arith

fits_in : (x a i : ℕ) → x / 8 / 2 ^ 49 ≡ a * 8 + i → i < 8 → a < 8 → x < 2 ^ 58
fits_in x a i e h k = omega arith

pub few : (t : List ℕ) → text_refusal t ≡ None → frame_count frame_layout (length t) ≤ 8
few t h = let l = (lawful t h).few in omega (arith, l)

pub sound : SoundLayout name_layout
sound = record {
  modulus_low = omega arith;
  modulus_high = omega arith;
  layout_fits = layout_fits;
  cuttable = λ s r q f. record {
    layout_fits = layout_fits;
    fields_fit = room (length r.text) q (lawful r.text f.record_fits).few f.sequence_fits;
    bytes_fit = small r.text f.record_fits;
    few_frames = let k = few r.text f.record_fits in omega (arith, k);
  };
  cut_lawful = λ s r q i f h.
      let t = r.text in
      let x = frame_of frame_layout (fields_of (length t) q) t i in
      let a = frame_count frame_layout (length t) - 1 in
      let k = few t f.record_fits in
      let e = leading_in t q i f.record_fits f.sequence_fits in
      let below : i < 8 = omega (arith, h, k) in
      let small_last : a < 8 = omega (arith, k) in
      let n = number_in_lem x a i e below in
      let m = last_in_lem x a i e below small_last in
      and_from _ _ (lt-ltb x (2 ^ 58) (fits_in x a i e below small_last)) (le-leb (number_in x) (last_in x) (omega (arith, n, m, h)));
  cut_numbered = λ s r q i f h. let k = few r.text f.record_fits in number_in_lem _ _ i (leading_in r.text q i f.record_fits f.sequence_fits) (omega (arith, h, k));
  cut_in_sequence = λ s r q i f h. trailing_in r.text q i f.sequence_fits;
  cut_tells_last = λ s r q f.
      let k = few r.text f.record_fits in
      let m = last_in_lem _ (frame_count frame_layout (length r.text) - 1) 0 (leading_in r.text q 0 f.record_fits f.sequence_fits) (omega arith) (omega (arith, k)) in
      ap (λ (x : ℕ). x + 1) m ∙ omega arith;
  cut_tells_head = λ s r q f. refl;
  cut_tells_length = λ s r q f.
      let t = r.text in
      let xs = record_cut name_layout s r q in
      let ok = lawful t f.record_fits in
      let b : (j : ℕ) → byte_at frame_layout xs j ≡ slice_index_or t j 0 = λ j. byte_read frame_layout t xs j layout_fits (small t f.record_fits) (cut_long name_layout s r q) (cut_holds name_layout s r q f.sequence_fits) in
      until_zero_read (byte_at frame_layout xs) 0 56 (length t) (omega arith) (omega (arith, ok.few))
      (λ i l. let c = character t i ok.spelled l in let e = b i in omega (arith, e, c.0)) (λ h. b (length t) ∙ get_or_past {X = ℕ} t (length t) 0 (omega arith));
  frame_small = λ s x h. ltb-true x (2 ^ 58) (and_parts _ _ h).0;
  number_small = λ s x h. omega arith;
  last_small = λ s x h z. omega arith;
  sequence_small = λ s x. omega arith;
}
