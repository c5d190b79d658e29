use Rattle.std.proofs.Common.{◌≡◌, ℕ, ◌+◌, ◌*◌, ◌%◌, ◌^◌, ◌<◌, ◌≤◌, sym, ap, subst, arith, pow_mono}
use Rattle.message.proofs.Sizes.{shifted}
use Rattle.contents.specs.declared.area.Area.{Area}
use Rattle.contents.specs.Area.{joined}
use Rattle.contents.proofs.Areas.{joined_small}
use Rattle.contents.proofs.area.Area.behind.Goals as goal

-- what the code's shift gives
value : (a : Area) (first : ℕ) → first * (1 * 2 ^ a.width % 2 ^ 64) + a.bits ≡ joined first a.width a.bits
value a first = let narrow = a.narrow in ap (λ m. first * m + a.bits) (shifted a.width (omega arith))

pub overflow_mul-result : goal.overflow_mul-result
overflow_mul-result c =
    let a = c.args.self in
    let s = joined_small c.args.first c.args.many a.width a.bits (omega arith) a.fits in
    let h : c.args.many + a.width ≤ 58 = omega arith in
    let m : 2 ^ (c.args.many + a.width) ≤ 2 ^ 58 = pow_mono h in
    let v = value a c.args.first in
    record { fits = omega (arith, s, m, v) }

pub overflow_add-result : goal.overflow_add-result
overflow_add-result c =
    let a = c.args.self in
    let s = joined_small c.args.first c.args.many a.width a.bits (omega arith) a.fits in
    let h : c.args.many + a.width ≤ 58 = omega arith in
    let m : 2 ^ (c.args.many + a.width) ≤ 2 ^ 58 = pow_mono h in
    let v = value a c.args.first in
    record { fits = omega (arith, s, m, v) }

pub invariant_of-result : goal.invariant_of-result
invariant_of-result c =
    let a = c.args.self in
    record {
      narrow = omega arith;
      fits = subst (λ (m : ℕ). m < 2 ^ (c.args.many + a.width)) (sym (value a c.args.first)) (joined_small c.args.first c.args.many a.width a.bits (omega arith) a.fits);
    }
