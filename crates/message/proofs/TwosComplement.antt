-- Signed numbers in two's complement.
use Rattle.std.proofs.Common.{◌≡◌, ℕ, suc, ◌-◌, ◌*◌, ◌<◌, ◌≤◌, true, false, ltb, ℤ, pos, negsuc, ap, ◌∙◌, ⊎_elim, arith}
use Rattle.std.proofs.lemmas.Bool.{lt-ltb, ltb-true, le-ltb, cond-true, cond-false, cases_lt}
use Rattle.message.specs.Bits.{signed, unsigned, fits_signed}

-- two's complement
pub signed_again : (half : ℕ) (z : ℤ) → fits_signed half z ≡ true → signed half (unsigned half z) ≡ z
signed_again half (pos n) e = cond-true (ltb n half) (pos n) (negsuc (2 * half - suc n)) e
signed_again half (negsuc n) e =
    let l = ltb-true n half e in
    let m = 2 * half - suc n in
    let above : ltb m half ≡ false = le-ltb m half (omega arith) in
    let back : 2 * half - suc m ≡ n = omega arith in
    cond-false (ltb m half) (pos m) (negsuc (2 * half - suc m)) above ∙ ap negsuc back

pub unsigned_small : (half : ℕ) (z : ℤ) → fits_signed half z ≡ true → unsigned half z < 2 * half
unsigned_small half (pos n) e = let l = ltb-true n half e in omega arith
unsigned_small half (negsuc n) e = let l = ltb-true n half e in omega arith

pub unsigned_again : (half n : ℕ) → n < 2 * half → unsigned half (signed half n) ≡ n
unsigned_again half n h = ⊎_elim
    (λ (l : n < half). ap (unsigned half) (cond-true (ltb n half) (pos n) (negsuc (2 * half - suc n)) (lt-ltb n half l)))
    (λ (l : half ≤ n). ap (unsigned half) (cond-false (ltb n half) (pos n) (negsuc (2 * half - suc n)) (le-ltb n half l)) ∙ (let e : 2 * half - suc (2 * half - suc n) ≡ n = omega arith in e))
    (cases_lt n half)

pub signed_fits : (half n : ℕ) → n < 2 * half → fits_signed half (signed half n) ≡ true
signed_fits half n h = ⊎_elim
    (λ (l : n < half). ap (fits_signed half) (cond-true (ltb n half) (pos n) (negsuc (2 * half - suc n)) (lt-ltb n half l)) ∙ lt-ltb n half l)
    (λ (l : half ≤ n). ap (fits_signed half) (cond-false (ltb n half) (pos n) (negsuc (2 * half - suc n)) (le-ltb n half l)) ∙ lt-ltb (2 * half - suc n) half (omega arith))
    (cases_lt n half)
