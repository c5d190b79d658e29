-- The characters of a name, and where they end.
use Rattle.std.proofs.Common.{◌≡◌, ℕ, ◌<◌, ◌≤◌, ◌≢◌, ◌&&◌, leb, List, [], ◌∷◌, None, Some, Option, unwrap_or, refl, sym, ap, arith}
use Rattle.std.specs.Option.{MatchOption}
use Rattle.std.specs.List.{list_all}
use Rattle.name.specs.Name.{characters, until_zero}
use Rattle.name.specs.Sound.{until_zero_read}

pub characters_all : (t : List ℕ) → list_all (λ b. leb 1 b && leb b 127) t ≡ characters t
characters_all [] = refl
characters_all (b ∷ bs) = ap (λ x. (leb 1 b && leb b 127) && x) (characters_all bs)

-- the first zero of f, if there is one before m
pub first_zero : (f : ℕ → ℕ) (m : ℕ) (r : Option ℕ) → MatchOption r ((k : ℕ) → 0 ≤ k → k < m → f k ≢ 0) (λ i. (0 ≤ i) × (i < m) × (f i ≡ 0) × ((k : ℕ) → 0 ≤ k → k < i → f k ≢ 0))
    → unwrap_or r m ≡ until_zero f 0 m
first_zero f m None h = sym (until_zero_read f 0 m m (omega arith) (omega arith) (λ i l. let p = h i (omega arith) l in omega (arith, p)) (λ l. absurd (omega arith)))
first_zero f m (Some n) h = sym (until_zero_read f 0 m n (omega arith) (omega (arith, h.1)) (λ i l. let p = h.3 i (omega arith) l in omega (arith, p)) (λ l. h.2))
