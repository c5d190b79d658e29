-- Bytes packed behind a number, and read again.
use Rattle.std.proofs.Common.{◌≡◌, ℕ, zero, suc, ◌+◌, ◌-◌, ◌*◌, ◌/◌, ◌%◌, ◌^◌, ◌<◌, ◌≤◌, List, get_or, sym, ap, ◌∙◌, subst, ap₂, ⊎_elim, mod-eq_of_lt, mul_assoc, mul-le-mul_left, one-mul, mul-zero, mul-suc, div-one, arith, pow_mono, pow-add}
use native.Mathlib.Nat.{div-div-eq-div-mul}
use lib.Arith.{digits_div, digits_mod, digits_lt}
use Rattle.std.proofs.lemmas.Bool.{cases_lt}
use Rattle.layout.specs.Frames.{with_bytes, byte_of, FitBits}

-- what stands before the bytes
pub before : (n w : ℕ) (t : List ℕ) (p k : ℕ) → FitBits w t → with_bytes n w t p k / 2 ^ (w * k) ≡ n
before n w t p zero h = ap (λ (e : ℕ). n / 2 ^ e) (mul-zero w) ∙ div-one n
before n w t p (suc k) h =
    let e : w * suc k ≡ w + w * k = omega (arith, mul-suc w k) in
    ap (λ (e : ℕ). with_bytes n w t p (suc k) / e) (ap (λ (e : ℕ). 2 ^ e) e ∙ pow-add 2 w (w * k))
    ∙ sym (div-div-eq-div-mul (with_bytes n w t p (suc k)) (2 ^ w) (2 ^ (w * k)))
    ∙ ap (λ (x : ℕ). x / 2 ^ (w * k)) (digits_div (with_bytes n w t p k) (h (p + k)))
    ∙ before n w t p k h

-- each byte again
pub within : (n w : ℕ) (t : List ℕ) (p k j : ℕ) → FitBits w t → j < k → byte_of w k j (with_bytes n w t p k) ≡ get_or t (p + j) 0
within n w t p zero j h l = absurd (omega arith)
within n w t p (suc k) j h l =
    ⊎_elim
    (λ (below : j < k).
    let e : suc k - 1 - j ≡ suc (k - 1 - j) = omega arith in
    let f : w * suc (k - 1 - j) ≡ w + w * (k - 1 - j) = omega (arith, mul-suc w (k - 1 - j)) in
    ap (λ (e : ℕ). with_bytes n w t p (suc k) / e % 2 ^ w) (ap (λ (e : ℕ). 2 ^ (w * e)) e ∙ ap (λ (e : ℕ). 2 ^ e) f ∙ pow-add 2 w (w * (k - 1 - j)))
    ∙ ap (λ (x : ℕ). x % 2 ^ w) (sym (div-div-eq-div-mul (with_bytes n w t p (suc k)) (2 ^ w) (2 ^ (w * (k - 1 - j)))))
    ∙ ap (λ (x : ℕ). x / 2 ^ (w * (k - 1 - j)) % 2 ^ w) (digits_div (with_bytes n w t p k) (h (p + k)))
    ∙ within n w t p k j h below)
    (λ (past : k ≤ j).
    let same : j ≡ k = omega arith in
    let e : suc k - 1 - j ≡ 0 = omega arith in
    ap (λ (e : ℕ). with_bytes n w t p (suc k) / 2 ^ (w * e) % 2 ^ w) e
    ∙ ap (λ (e : ℕ). with_bytes n w t p (suc k) / 2 ^ e % 2 ^ w) (mul-zero w)
    ∙ ap (λ (x : ℕ). x % 2 ^ w) (div-one (with_bytes n w t p (suc k)))
    ∙ digits_mod (with_bytes n w t p k) (h (p + k))
    ∙ ap (λ (i : ℕ). get_or t (p + i) 0) (sym same))
    (cases_lt j k)

-- the number stays below what its bytes have room for
pub with_bytes_below : (n w : ℕ) (t : List ℕ) (p k : ℕ) → FitBits w t → with_bytes n w t p k < (n + 1) * 2 ^ (w * k)
with_bytes_below n w t p zero h = rw mul-zero (omega arith)
with_bytes_below n w t p (suc k) h =
    let e : w * suc k ≡ w * k + w = omega (arith, mul-suc w k) in
    let f : (n + 1) * 2 ^ (w * suc k) ≡ (n + 1) * 2 ^ (w * k) * 2 ^ w = ap (λ (e : ℕ). (n + 1) * 2 ^ e) e ∙ ap (λ (x : ℕ). (n + 1) * x) (pow-add 2 (w * k) w) ∙ sym (mul_assoc (n + 1) (2 ^ (w * k)) (2 ^ w)) in
    subst (λ (m : ℕ). with_bytes n w t p (suc k) < m) (sym f) (digits_lt (with_bytes_below n w t p k h) (h (p + k)))

pub with_bytes_within : (n w : ℕ) (t : List ℕ) (p k i m : ℕ) → FitBits w t → i < k → (n + 1) * 2 ^ (w * k) ≤ m → with_bytes n w t p (suc i) < m
with_bytes_within n w t p k i m h l fits =
    let a : w * suc i ≤ w * k = mul-le-mul_left w l in
    let b : 2 ^ (w * suc i) ≤ 2 ^ (w * k) = pow_mono a in
    let c : (n + 1) * 2 ^ (w * suc i) ≤ (n + 1) * 2 ^ (w * k) = mul-le-mul_left (n + 1) b in
    let r = with_bytes_below n w t p (suc i) h in
    omega (arith, r, c, fits)

-- what the code's `1 << w` is
pub shifted : (w : ℕ) → w ≤ 8 → 1 * 2 ^ w % 18446744073709551616 ≡ 2 ^ w
shifted w h =
    let p : 2 ^ w ≤ 2 ^ 8 = pow_mono h in
    let q : 1 * 2 ^ w < 18446744073709551616 = omega (arith, p) in
    mod-eq_of_lt q ∙ one-mul (2 ^ w)

-- one byte more stays in 64 bits
pub packed_below : (n w : ℕ) (t : List ℕ) (p k i x : ℕ) → w ≤ 8 → FitBits w t → i < k → (n + 1) * 2 ^ (w * k) ≤ 2 ^ 64 → x ≡ with_bytes n w t p i
    → x * (1 * 2 ^ w % 18446744073709551616) + get_or t (p + i) 0 < 2 ^ 64
packed_below n w t p k i x few h l fits e =
    let v : x * (1 * 2 ^ w % 18446744073709551616) ≡ with_bytes n w t p i * 2 ^ w = ap₂ (λ (a b : ℕ). a * b) e (shifted w few) in
    let r : with_bytes n w t p (suc i) < 2 ^ 64 = with_bytes_within n w t p k i (2 ^ 64) h l fits in
    omega (arith, v, r)

-- and so do trailing fields of up to three bits
pub trailing_below : (y n r : ℕ) → y < 2 ^ 61 → n ≤ 3 → r < 2 ^ n → y * 2 ^ n + r < 2 ^ 64
trailing_below y n r a b h =
    let p : 2 ^ n ≤ 2 ^ 3 = pow_mono b in
    let q : 2 ^ 61 * 2 ^ n ≤ 2 ^ 61 * 2 ^ 3 = mul-le-mul_left (2 ^ 61) p in
    let d = digits_lt a h in
    omega (arith, d, q)
