use Rattle.std.proofs.Common.{◌≡◌, Some, sym, ap, ◌∙◌, arith}
use Rattle.std.specs.Result.{result_ok}
use Rattle.family.specs.Meaning.{last_due}
use Rattle.gatherer.proofs.Series.{last_told_in}
use Rattle.gatherer.proofs.gatherer.Gatherer.frames_told.Goals as goal

-- the frame 0 that is held is lawful, so it tells the last number
pub returns-in_err-last-clause-due : goal.returns-in_err-last-clause-due
returns-in_err-last-clause-due g c s h k =
    let m = g.F.Family.meaning in
    let x = c.in_ok-first.first in
    let told = last_told_in m s x h k.frames_lawful (sym (k.slots_are 0 (omega arith)) ∙ c.in_ok-first.was) in
    let e : result_ok c.last_number.result ≡ Some (m.last s x) = ap result_ok (c.last_number.ensures ∙ ap (λ f. last_due m f x) k.family_is ∙ told) in
    let none = c.in_err-last.ensures.value in
    absurd cc
