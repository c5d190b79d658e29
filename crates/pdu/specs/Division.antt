-- Division of polynomials over two elements. A polynomial is a number whose binary digit k is the coefficient of X^k: the sum is bit_xor, and times X is times 2. A list of coefficients has the highest power first.
use Rattle.std.specs.Prelude.{◌≡◌, ℕ, ◌+◌, ◌*◌, ◌^◌, ◌<◌, cond, List, [], ◌∷◌, length, bit_xor, nat_lt}
use Rattle.std.specs.List.{AllByRecursion}

-- Each coefficient is 0 or 1.
abbrev pub Coefficients : List ℕ → Type 0
Coefficients cs = AllByRecursion (λ c. c < 2) cs

-- The polynomial p times X^(length cs), plus the polynomial with the coefficients cs.
unfoldable pub followed_by : ℕ → List ℕ → ℕ
followed_by p [] = p
followed_by p (c ∷ cs) = followed_by (p * 2 + c) cs

-- The polynomial p times X^(length cs), plus the product of g and the polynomial with the coefficients cs.
unfoldable pub plus_multiple : ℕ → ℕ → List ℕ → ℕ
plus_multiple g p [] = p
plus_multiple g p (c ∷ cs) = plus_multiple g (bit_xor (p * 2) (c * g)) cs

-- A polynomial p of degree at most d, lowered by g, whose degree is d.
abbrev pub lowered : ℕ → ℕ → ℕ → ℕ
lowered d g p = cond (nat_lt p (2 ^ d)) p (bit_xor p g)

-- Long division: what is left after the remainder r so far is followed by the coefficients cs.
unfoldable pub divided : ℕ → ℕ → ℕ → List ℕ → ℕ
divided d g r [] = r
divided d g r (c ∷ cs) = divided d g (lowered d g (r * 2 + c)) cs

-- The remainder of the polynomial with the coefficients cs by X^d + g, where g has a degree below d.
abbrev pub remainder : ℕ → ℕ → List ℕ → ℕ
remainder d g cs = divided d (2 ^ d + g) 0 cs

-- r has a degree below d, and differs from the polynomial with the coefficients cs by a multiple of X^d + g.
pub record Remainder (d g : ℕ) (cs : List ℕ) (r : ℕ) : Type 0 where
  pub low : r < 2 ^ d
  pub quotient : List ℕ
  pub binary : Coefficients quotient
  pub as_long : length quotient ≡ length cs
  pub divides : followed_by 0 cs ≡ bit_xor (plus_multiple (2 ^ d + g) 0 quotient) r

-- r is a remainder, and no other number is.
pub record OnlyRemainder (d g : ℕ) (cs : List ℕ) (r : ℕ) : Type 0 where
  pub is_one : Remainder d g cs r
  pub no_other : (s : ℕ) → Remainder d g cs s → s ≡ r
