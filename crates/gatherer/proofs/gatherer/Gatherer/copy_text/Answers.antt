use Rattle.std.proofs.Common.{◌≡◌, Some, None, Err, sym, refl, ap, ◌∙◌, rules}
use Rattle.pdu.specs.declared.refusal.Refusal.TheVariants.{NothingThere}
use Rattle.family.specs.Texts.{join_view, record_view}
use Rattle.gatherer.specs.Due.{copied_length, copied_to}
use Rattle.gatherer.proofs.Promised.{text_shown}
use Rattle.gatherer.proofs.gatherer.Gatherer.copy_text.Goals as goal

pub returns-in_err-record : goal.returns-in_err-record
returns-in_err-record g c s h k =
    let none : c.args.self.now.shown ≡ None = search rules in
    let e : c.from_residual.result ≡ Err NothingThere = search rules in
    text_shown g.F.Family.meaning g.met.F.Family.keeps s h None (ap join_view (sym none) ∙ k.shown_is) c.args.buffer.now _ c.args.buffer.now e refl

pub returns : goal.returns
returns g c s h k =
    let found = c.args.buffer.now in
    let copy = c.copy_to_front in
    let text = c.as_slice.ensures in
    let some : c.args.self.now.shown ≡ Some c.in_ok-record.record.now = search rules in
    text_shown g.F.Family.meaning g.met.F.Family.keeps s h (Some (record_view c.in_ok-record.record.now)) (ap join_view (sym some) ∙ k.shown_is) found copy.result copy.new.buffer
    (copy.ensures.length ∙ ap (λ t. copied_length t found) text) (copy.ensures.bytes ∙ ap (λ t. copied_to t found) text)
