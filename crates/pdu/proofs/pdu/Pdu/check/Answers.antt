use Rattle.std.proofs.Common.{◌≡◌, ◌+◌, ◌-◌, ◌*◌, sym, refl, ap, ◌∙◌, subst, arith}
use Rattle.pdu.specs.Check.{coefficient, coefficients, generator, down_from, check_of}
use Rattle.pdu.specs.Division.{divided, lowered, OnlyRemainder}
use Rattle.pdu.proofs.Coefficients.{binary, next}
use Rattle.pdu.proofs.Division.{only}
use Rattle.pdu.proofs.pdu.Pdu.check.Goals as goal

pub loop-i-init : goal.loop-i-init
unfolding down_from divided
loop-i-init c = (refl, omega arith)

pub loop-i-preserved : goal.loop-i-preserved
loop-i-preserved c =
    let bs = c.args.self.bytes in
    let i = c.loop-i.i in
    let told = c.bring_down-remainder.ensures in (
      ap (λ r. divided 12 6155 r (down_from (coefficient bs) (i - 1))) (told.value ∙ ap (λ b. lowered 12 6155 (c.loop-i.remainder * 2 + b)) c.coefficient.ensures.value)
          ∙ sym (next 12 6155 (coefficient bs) c.loop-i.remainder i (omega arith)) ∙ c.loop-i.invariant.0,
      told.small,
    )

pub returns : goal.returns
unfolding down_from divided
returns c =
    let bs = c.args.self.bytes in
    let z : c.loop-i.i ≡ 0 = omega arith in
    let e : c.loop-i.remainder ≡ check_of bs = ap (λ i. divided 12 6155 c.loop-i.remainder (down_from (coefficient bs) i)) (sym z) ∙ c.loop-i.invariant.0 in
    record { value = e; law = subst (OnlyRemainder 12 generator (coefficients bs)) (sym e) (only 12 generator (coefficients bs) (omega arith) (binary bs 80)) }
