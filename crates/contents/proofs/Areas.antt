-- Fields that follow one another, taken apart and put together.
use Rattle.std.proofs.Common.{◌≡◌, ℕ, ◌+◌, ◌-◌, ◌^◌, ◌<◌, ◌≤◌, sym, subst, div-add-mod', arith, pow-add}
use lib.Arith.{digits_lt, digits_div, digits_mod}
use Rattle.std.proofs.lemmas.Nat.{shr_below}
use Rattle.contents.specs.Area.{upper, lower, joined}

pub upper_small : (area width many : ℕ) → many ≤ width → area < 2 ^ width → upper (width - many) area < 2 ^ many
upper_small area width many h l =
    let e : width ≡ many + (width - many) = omega arith in
    shr_below area many (width - many) (subst (λ (w : ℕ). area < 2 ^ w) e l)

pub joined_small : (first many width area : ℕ) → first < 2 ^ many → area < 2 ^ width → joined first width area < 2 ^ (many + width)
joined_small first many width area f a = subst (λ (m : ℕ). joined first width area < m) (sym (pow-add 2 many width)) (digits_lt f a)

pub upper_joined : (first width area : ℕ) → area < 2 ^ width → upper width (joined first width area) ≡ first
upper_joined first width area h = digits_div first h

pub lower_joined : (first width area : ℕ) → area < 2 ^ width → lower width (joined first width area) ≡ area
lower_joined first width area h = digits_mod first h

pub joined_again : (width area : ℕ) → joined (upper width area) width (lower width area) ≡ area
joined_again width area = div-add-mod' area (2 ^ width)
