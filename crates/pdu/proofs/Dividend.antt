-- Long division over the bits of a text.
use Rattle.std.specs.Prelude.{◌≡◌, ℕ, zero, suc, ◌+◌, ◌-◌, ◌*◌, ◌%◌, ◌^◌, ◌<◌, ◌≤◌, List, [], ◌∷◌, ◌++◌, replicate, refl}
use Rattle.std.proofs.Common.{ap, ◌∙◌, arith, one-mul, mod-eq_of_lt, pow_mono}
use Rattle.std.specs.List.{flat_map}
use Rattle.std.proofs.ByRecursion.{All-append}
use Rattle.pdu.specs.Division.{Coefficients, lowered, divided, OnlyRemainder}
use Rattle.pdu.proofs.Division.{only}
use Rattle.pdu.specs.Dividend.{bits_of, dividend, text_remainder}

-- what the code's `1 << d` is
pub shifted : (d : ℕ) → d ≤ 15 → 1 * 2 ^ d % 65536 ≡ 2 ^ d
shifted d h =
    let p : 2 ^ d ≤ 2 ^ 15 = pow_mono h in
    let q : 1 * 2 ^ d < 65536 = omega (arith, p) in
    mod-eq_of_lt q ∙ one-mul (2 ^ d)

pub divided_none : (d g r : ℕ) → divided d g r [] ≡ r
unfolding divided
divided_none d g r = refl

pub divided_more : (d g r c : ℕ) (cs : List ℕ) → divided d g r (c ∷ cs) ≡ divided d g (lowered d g (r * 2 + c)) cs
unfolding divided
divided_more d g r c cs = refl

pub divided_append : (d g r : ℕ) (xs ys : List ℕ) → divided d g r (xs ++ ys) ≡ divided d g (divided d g r xs) ys
unfolding divided
divided_append d g r [] ys = refl
divided_append d g r (x ∷ xs) ys = divided_append d g (lowered d g (r * 2 + x)) xs ys

-- one zero of the last k
pub divided_zero : (d g r n k : ℕ) → k < n → divided d g r (replicate (n - k) 0) ≡ divided d g (lowered d g (r * 2 + 0)) (replicate (n - (k + 1)) 0)
divided_zero d g r n k h =
    let e : n - k ≡ suc (n - (k + 1)) = omega arith in
    ap (λ (m : ℕ). divided d g r (replicate m 0)) e ∙ divided_more d g r 0 (replicate (n - (k + 1)) 0)

-- the dividend has coefficients 0 and 1
bits_binary : (t : List ℕ) → Coefficients (flat_map bits_of t)
bits_binary [] = tt
bits_binary (b ∷ bs) = All-append (λ (x : ℕ). x < 2) (bits_of b) (flat_map bits_of bs) (omega arith, (omega arith, (omega arith, (omega arith, (omega arith, (omega arith, (omega arith, (omega arith, tt)))))))) (bits_binary bs)

zeros_binary : (n : ℕ) → Coefficients (replicate n 0)
zeros_binary zero = tt
zeros_binary (suc n) = (omega arith, zeros_binary n)

pub remainder_only : (d g : ℕ) (t : List ℕ) → g < 2 ^ d → OnlyRemainder d g (dividend d t) (text_remainder d g t)
unfolding text_remainder
remainder_only d g t h = only d g (dividend d t) h (All-append (λ (x : ℕ). x < 2) (flat_map bits_of t) (replicate d 0) (bits_binary t) (zeros_binary d))

pub remainder_below : (d g : ℕ) (t : List ℕ) → g < 2 ^ d → text_remainder d g t < 2 ^ d
remainder_below d g t h = (remainder_only d g t h).is_one.low
