use Rattle.std.proofs.Common.{◌≡◌, Ok, Some, ap, ◌∙◌, sym}
use Rattle.gatherer.specs.Series.{series, missing_up_to}
use Rattle.gatherer.proofs.Sums.{empty_missing}
use Rattle.gatherer.proofs.gatherer.Gatherer.missing.Goals as goal

pub returns : goal.returns
returns g c s h k =
    let m = g.F.Family.meaning in
    let xs = series m s h in
    let n = c.in_ok-count.count in
    let told = c.frames_told.ensures in
    let is : c.frames_told.result ≡ Some n = c.in_ok-count.ensures.ok_part in
    ap Ok (c.empty_sum.ensures ∙ empty_missing m s xs c.args.self.now.table k.holds.slots_are n (told.few n is))
    ∙ ap (missing_up_to m s xs) (sym is ∙ told.due s h k.holds)
