-- Long division gives the remainder, and there is no other.
use Rattle.std.proofs.Common.{min, ◌≡◌, ℕ, suc, ◌+◌, ◌-◌, ◌*◌, ◌/◌, ◌^◌, ◌<◌, ◌≤◌, cond, ltb, ◌⊎◌, List, [], ◌∷◌, length, sym, refl, ap, ◌∙◌, subst, ap₂, inl, inr, ⊎_elim, add-zero, one-mul, pow-suc, le-div_iff_mul-le, zero-mul, arith, pow_pos}
use native.Mathlib.Nat.{div-eq_of_lt}
use lib.Bits.{bit_xor, xor_block, xor_lt, xor_zero_r, xor_assoc, xor_comm, xor_self, xor_shr}
use Rattle.std.proofs.lemmas.Bool.{cases_lt, cases_eq, lt-ltb, le-ltb}
use Rattle.pdu.specs.Division.{Coefficients, followed_by, plus_multiple, lowered, divided, remainder, Remainder, OnlyRemainder}

mid : (a b c d : ℕ) → bit_xor (bit_xor a b) (bit_xor c d) ≡ bit_xor (bit_xor a c) (bit_xor b d)
mid a b c d =
    xor_assoc a b (bit_xor c d)
    ∙ ap (bit_xor a) (sym (xor_assoc b c d) ∙ ap (λ (t : ℕ). bit_xor t d) (xor_comm b c) ∙ xor_assoc c b d)
    ∙ sym (xor_assoc a c (bit_xor b d))

-- one bit more
twice : (t r b : ℕ) → b < 2 → bit_xor t r * 2 + b ≡ bit_xor (t * 2) (r * 2 + b)
twice t r b h = sym (ap (λ (x : ℕ). bit_xor x (r * 2 + b)) (sym (add-zero (t * 2))) ∙ xor_block 1 t r 0 b (omega arith) h ∙ ap (λ (x : ℕ). bit_xor t r * 2 + x) (xor_comm 0 b ∙ xor_zero_r b))

-- the top of n goes
pub top_lowered : (d g n : ℕ) → g < 2 ^ d → 2 ^ d ≤ n → n < 2 ^ d * 2 → bit_xor n (2 ^ d + g) < 2 ^ d
top_lowered d g n h a b =
    let m = n - 2 ^ d in
    let e : n ≡ 1 * 2 ^ d + m = omega arith in
    let f : 2 ^ d + g ≡ 1 * 2 ^ d + g = omega arith in
    let x : bit_xor n (2 ^ d + g) ≡ bit_xor m g = ap₂ bit_xor e f ∙ xor_block d 1 1 m g (omega arith) h ∙ omega arith in
    let l = xor_lt d m g (omega arith) h in
    omega (arith, x, l)

-- below 2 ^ d, n would get a top
top_set : (d g n : ℕ) → g < 2 ^ d → n < 2 ^ d → 2 ^ d ≤ bit_xor n (2 ^ d + g)
top_set d g n h l =
    let e : n ≡ 0 * 2 ^ d + n = omega arith in
    let f : 2 ^ d + g ≡ 1 * 2 ^ d + g = omega arith in
    let x : bit_xor n (2 ^ d + g) ≡ bit_xor 0 1 * 2 ^ d + bit_xor n g = ap₂ bit_xor e f ∙ xor_block d 0 1 n g l h in
    omega (arith, x)

-- so the smaller of the two is n lowered
pub smaller_lowered : (d g n : ℕ) → g < 2 ^ d → n < 2 ^ d * 2 → min n (bit_xor n (2 ^ d + g)) ≡ lowered d (2 ^ d + g) n
smaller_lowered d g n h b =
    ⊎_elim (λ (l : n < 2 ^ d). let k = top_set d g n h l in rw (lt-ltb n (2 ^ d) l) (omega (arith, k, l))) (λ (a : 2 ^ d ≤ n). let k = top_lowered d g n h a b in rw (le-ltb n (2 ^ d) a) (omega (arith, k, a))) (cases_lt n (2 ^ d))

pub lowered_low : (d g n : ℕ) → g < 2 ^ d → n < 2 ^ d * 2 → lowered d (2 ^ d + g) n < 2 ^ d
lowered_low d g n h b =
    ⊎_elim (λ (l : n < 2 ^ d). rw (lt-ltb n (2 ^ d) l) l) (λ (a : 2 ^ d ≤ n). rw (le-ltb n (2 ^ d) a) (top_lowered d g n h a b)) (cases_lt n (2 ^ d))

divided_low : (d g r : ℕ) (bs : List ℕ) → g < 2 ^ d → r < 2 ^ d → Coefficients bs → divided d (2 ^ d + g) r bs < 2 ^ d
unfolding divided
divided_low d g r [] h l k = l
divided_low d g r (b ∷ bs) h l k = let k0 = k.0 in divided_low d g (lowered d (2 ^ d + g) (r * 2 + b)) bs h (lowered_low d g (r * 2 + b) h (omega (arith, k0, l))) k.1

quotient : ℕ → ℕ → ℕ → List ℕ → List ℕ
quotient d g r [] = []
quotient d g r (b ∷ bs) = cond (ltb (r * 2 + b) (2 ^ d)) 0 1 ∷ quotient d g (lowered d g (r * 2 + b)) bs

quotient_bits : (d g r : ℕ) (bs : List ℕ) → Coefficients (quotient d g r bs)
unfolding quotient
quotient_bits d g r [] = tt
quotient_bits d g r (b ∷ bs) = (⊎_elim (λ (l : r * 2 + b < 2 ^ d). rw (lt-ltb (r * 2 + b) (2 ^ d) l) (omega arith)) (λ (a : 2 ^ d ≤ r * 2 + b). rw (le-ltb (r * 2 + b) (2 ^ d) a) (omega arith)) (cases_lt (r * 2 + b) (2 ^ d)), quotient_bits d g (lowered d g (r * 2 + b)) bs)

quotient_long : (d g r : ℕ) (bs : List ℕ) → length (quotient d g r bs) ≡ length bs
unfolding quotient
quotient_long d g r [] = refl
quotient_long d g r (b ∷ bs) = ap (λ (x : ℕ). suc x) (quotient_long d g (lowered d g (r * 2 + b)) bs)

long_division : (d g v t r : ℕ) (bs : List ℕ) → Coefficients bs → v ≡ bit_xor t r → followed_by v bs ≡ bit_xor (plus_multiple g t (quotient d g r bs)) (divided d g r bs)
unfolding followed_by plus_multiple divided quotient
long_division d g v t r [] k e = e
long_division d g v t r (b ∷ bs) k e =
    let n = r * 2 + b in
    let w : v * 2 + b ≡ bit_xor (t * 2) n = ap (λ (x : ℕ). x * 2 + b) e ∙ twice t r b k.0 in
    ⊎_elim
    (λ (l : n < 2 ^ d).
    let z : bit_xor (t * 2) (0 * g) ≡ t * 2 = ap (bit_xor (t * 2)) (zero-mul g) ∙ xor_zero_r (t * 2) in
    rw (lt-ltb n (2 ^ d) l) (long_division d g (v * 2 + b) (bit_xor (t * 2) (0 * g)) n bs k.1 (w ∙ ap (λ (x : ℕ). bit_xor x n) (sym z))))
    (λ (a : 2 ^ d ≤ n).
    let z : bit_xor (bit_xor (t * 2) (1 * g)) (bit_xor n g) ≡ bit_xor (t * 2) n =
    ap (λ (x : ℕ). bit_xor (bit_xor (t * 2) x) (bit_xor n g)) (one-mul g) ∙ mid (t * 2) g n g ∙ ap (bit_xor (bit_xor (t * 2) n)) (xor_self g) ∙ xor_zero_r (bit_xor (t * 2) n) in
    rw (le-ltb n (2 ^ d) a) (long_division d g (v * 2 + b) (bit_xor (t * 2) (1 * g)) (bit_xor n g) bs k.1 (w ∙ sym z)))
    (cases_lt n (2 ^ d))

pub divides : (d g : ℕ) (bs : List ℕ) → g < 2 ^ d → Coefficients bs → Remainder d g bs (remainder d g bs)
divides d g bs h k = record {
  low = divided_low d g 0 bs h (pow_pos d) k;
  quotient = quotient d (2 ^ d + g) 0 bs;
  binary = quotient_bits d (2 ^ d + g) 0 bs;
  as_long = quotient_long d (2 ^ d + g) 0 bs;
  divides = long_division d (2 ^ d + g) 0 0 0 bs k (sym (xor_self 0));
}

-- a difference of two products is nothing, or of degree d at least
abbrev Far : ℕ → ℕ → Type 0
Far d x = (x ≡ 0) ⊎ (2 ^ d ≤ x)

far_twice : (d x : ℕ) → Far d x → Far d (x * 2)
far_twice d x f = ⊎_elim (λ (z : x ≡ 0). inl (omega arith)) (λ (l : 2 ^ d ≤ x). inr (omega arith)) f

far_less : (d g x : ℕ) → g < 2 ^ d → Far d x → Far d (bit_xor (x * 2) (2 ^ d + g))
far_less d g x h f =
    ⊎_elim
    (λ (z : x ≡ 0).
    let y : x * 2 ≡ 0 = omega arith in
    let e : bit_xor (x * 2) (2 ^ d + g) ≡ 2 ^ d + g = ap (λ (k : ℕ). bit_xor k (2 ^ d + g)) y ∙ xor_comm 0 (2 ^ d + g) ∙ xor_zero_r (2 ^ d + g) in
    inr (omega (arith, e)))
    (λ (l : 2 ^ d ≤ x).
    let p = 2 ^ suc d in
    let e : p ≡ 2 ^ d * 2 = pow-suc 2 d in
    let z : (2 ^ d + g) / p ≡ 0 = div-eq_of_lt (let b : 2 ^ d + g < p = omega (arith, e) in b) in
    let k : bit_xor (x * 2) (2 ^ d + g) / p ≡ x * 2 / p = xor_shr (x * 2) (2 ^ d + g) (suc d) ∙ ap (bit_xor (x * 2 / p)) z ∙ xor_zero_r (x * 2 / p) in
    let one : 1 ≤ x * 2 / p = (le-div_iff_mul-le (pow_pos (suc d))).1 (omega (arith, e)) in
    let top : 1 * p ≤ bit_xor (x * 2) (2 ^ d + g) = (le-div_iff_mul-le (pow_pos (suc d))).0 (omega (arith, one, k)) in
    inr (omega (arith, top, e)))
    f

-- the next difference
apart : (g a c b e : ℕ) → bit_xor (bit_xor (a * 2) (b * g)) (bit_xor (c * 2) (e * g)) ≡ bit_xor (bit_xor a c * 2) (bit_xor (b * g) (e * g))
apart g a c b e =
    let t : bit_xor (a * 2) (c * 2) ≡ bit_xor a c * 2 = sym (sym (add-zero (bit_xor a c * 2)) ∙ twice a c 0 (omega arith) ∙ ap (bit_xor (a * 2)) (add-zero (c * 2))) in
    mid (a * 2) (b * g) (c * 2) (e * g) ∙ ap (λ (x : ℕ). bit_xor x (bit_xor (b * g) (e * g))) t

same : (g b e : ℕ) → b ≡ e → bit_xor (b * g) (e * g) ≡ 0
same g b e h = ap (λ (x : ℕ). bit_xor (x * g) (e * g)) h ∙ xor_self (e * g)

other : (g b e : ℕ) → b < 2 → e < 2 → (b ≡ e → ⊥) → bit_xor (b * g) (e * g) ≡ g
other g b e hb he n =
    ⊎_elim
    (λ (z : b ≡ 0). let o : e ≡ 1 = grind arith in ap₂ (λ (x y : ℕ). bit_xor (x * g) (y * g)) z o ∙ ap₂ bit_xor (zero-mul g) (one-mul g))
    (λ (z : b ≡ 0 → ⊥). let o : b ≡ 1 = grind arith in let k : e ≡ 0 = grind arith in ap₂ (λ (x y : ℕ). bit_xor (x * g) (y * g)) o k ∙ ap₂ bit_xor (one-mul g) (zero-mul g) ∙ xor_zero_r g)
    (cases_eq b 0)

far : (d g a c : ℕ) (q p : List ℕ) → g < 2 ^ d → Coefficients q → Coefficients p → length q ≡ length p → Far d (bit_xor a c) → Far d (bit_xor (plus_multiple (2 ^ d + g) a q) (plus_multiple (2 ^ d + g) c p))
unfolding plus_multiple
far d g a c [] [] h k m l f = f
far d g a c [] (e ∷ p) h k m l f = absurd (omega arith)
far d g a c (b ∷ q) [] h k m l f = absurd (omega arith)
far d g a c (b ∷ q) (e ∷ p) h k m l f =
    let G = 2 ^ d + g in
    far d g (bit_xor (a * 2) (b * G)) (bit_xor (c * 2) (e * G)) q p h k.1 m.1 (omega arith)
    (subst (Far d) (sym (apart G a c b e))
    (⊎_elim
    (λ (s : b ≡ e). subst (λ (x : ℕ). Far d (bit_xor (bit_xor a c * 2) x)) (sym (same G b e s)) (subst (Far d) (sym (xor_zero_r (bit_xor a c * 2))) (far_twice d (bit_xor a c) f)))
    (λ (n : b ≡ e → ⊥). subst (λ (x : ℕ). Far d (bit_xor (bit_xor a c * 2) x)) (sym (other G b e k.0 m.0 n)) (far_less d g (bit_xor a c) h f))
    (cases_eq b e)))

cancel : (a b : ℕ) → bit_xor a b ≡ 0 → a ≡ b
cancel a b e = sym (xor_zero_r a) ∙ ap (bit_xor a) (sym (xor_self b)) ∙ sym (xor_assoc a b b) ∙ ap (λ (x : ℕ). bit_xor x b) e

-- equal sums: the parts differ alike
crossed : (a b r s : ℕ) → bit_xor a r ≡ bit_xor b s → bit_xor a b ≡ bit_xor r s
crossed a b r s e = cancel (bit_xor a b) (bit_xor r s) (mid a b r s ∙ ap (λ (x : ℕ). bit_xor x (bit_xor b s)) e ∙ xor_self (bit_xor b s))

pub unique : (d g : ℕ) (bs : List ℕ) (r s : ℕ) → g < 2 ^ d → Remainder d g bs r → Remainder d g bs s → r ≡ s
unique d g bs r s h u v =
    let G = 2 ^ d + g in
    let e = crossed (plus_multiple G 0 u.quotient) (plus_multiple G 0 v.quotient) r s (sym u.divides ∙ v.divides) in
    let f : Far d (bit_xor r s) = subst (Far d) e (far d g 0 0 u.quotient v.quotient h u.binary v.binary (u.as_long ∙ sym v.as_long) (inl (xor_self 0))) in
    let low = xor_lt d r s u.low v.low in
    ⊎_elim (λ (z : bit_xor r s ≡ 0). cancel r s z) (λ (l : 2 ^ d ≤ bit_xor r s). absurd (omega arith)) f

-- the only remainder
pub only : (d g : ℕ) (bs : List ℕ) → g < 2 ^ d → Coefficients bs → OnlyRemainder d g bs (remainder d g bs)
only d g bs h k = record { is_one = divides d g bs h k; no_other = λ s u. unique d g bs s (remainder d g bs) h u (divides d g bs h k) }

pub remainder_low : (d g : ℕ) (bs : List ℕ) → g < 2 ^ d → Coefficients bs → remainder d g bs < 2 ^ d
remainder_low d g bs h k = (divides d g bs h k).low
