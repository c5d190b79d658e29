use Rattle.std.proofs.Common.{◌∷◌, sym, refl, ap, ◌∙◌}
use Rattle.family.specs.Texts.{join_view, record_view}
use Rattle.gatherer.specs.Series.{accepted}
use Rattle.gatherer.specs.Due.{attempted, answer_to, shown_after}
use Rattle.gatherer.proofs.Offered.{answered, joined, offered}
use Rattle.gatherer.proofs.gatherer.Gatherer.offer.Goals as goal

pub returns-in-Ok-clause-taken : goal.returns-in-Ok-clause-taken
returns-in-Ok-clause-taken g c s h k l =
    let m = g.F.Family.meaning in
    let x = c.args.frame in
    let t = c.take.ensures in
    let a = c.show.ensures in
    let holds = t.holds s h k.holds l in
    let before = join_view c.take.new.self.shown in
    let o = attempted m s (accepted x ∷ h) in
    let is = joined o (record_view c.in-Ok.record) (c.in-Ok.ensures s (accepted x ∷ h) holds) in
    offered m s h x c.take.new.self c.show.new.self c.show.result holds (ap join_view t.shown ∙ k.shown_is) (t.fresh ∙ k.fresh_is)
    (a.answer ∙ sym (ap (answer_to before) is)) (ap join_view a.shown ∙ sym (ap (shown_after before) is)) a.fresh a.family a.sequence a.table

pub returns-in-Err-clause-taken : goal.returns-in-Err-clause-taken
returns-in-Err-clause-taken g c s h k l =
    let m = g.F.Family.meaning in
    let x = c.args.frame in
    let t = c.take.ensures in
    let holds = t.holds s h k.holds l in
    let before = join_view c.take.new.self.shown in
    let is = answered before (attempted m s (accepted x ∷ h)) c.in-Err.answer (c.in-Err.ensures s (accepted x ∷ h) holds) in
    offered m s h x c.take.new.self c.take.new.self c.in-Err.answer holds (ap join_view t.shown ∙ k.shown_is) (t.fresh ∙ k.fresh_is)
    is.0 is.1 (rw is.2 refl) refl refl refl
