-- The payload sizes.
use Rattle.std.proofs.Common.{◌≡◌, ℕ, zero, suc, ◌*◌, ◌%◌, ◌^◌, ◌<◌, ◌≤◌, List, [], ◌∷◌, get_or, Some, None, Option, ap, ◌∙◌, subst, mod-eq_of_lt, one-mul, arith, lit≤}
use lib.Pow.{pow-lt}
use Rattle.std.specs.List.{AllByRecursion}
use Rattle.message.specs.Message.{sizes, size_of}

-- no size is above 58
abbrev Small : Option ℕ → Type 0
Small None = Unit {0}
Small (Some s) = s ≤ 58

sizes_small : AllByRecursion Small sizes
sizes_small = (lit≤ tt, (lit≤ tt, (lit≤ tt, (tt, (lit≤ tt, (lit≤ tt, (lit≤ tt, (lit≤ tt, (lit≤ tt, (lit≤ tt, (tt, (tt, (tt, (tt, (tt, (tt, tt))))))))))))))))

small_at : (xs : List (Option ℕ)) → AllByRecursion Small xs → (n : ℕ) → Small (get_or xs n None)
small_at [] h n = tt
small_at (x ∷ xs) h zero = h.0
small_at (x ∷ xs) h (suc n) = small_at xs h.1 n

pub size_small : (n s : ℕ) → size_of n ≡ Some s → s ≤ 58
size_small n s e = subst Small e (small_at sizes sizes_small n)

-- what the code's shift gives
pub shifted : (s : ℕ) → s ≤ 58 → 1 * 2 ^ s % 2 ^ 64 ≡ 2 ^ s
shifted s h = ap (λ m. m % 2 ^ 64) (one-mul (2 ^ s)) ∙ mod-eq_of_lt (pow-lt (let l : s < 64 = omega arith in l))
