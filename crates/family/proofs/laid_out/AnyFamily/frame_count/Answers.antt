use Rattle.std.proofs.Common.{◌≡◌, None, ap, ◌∙◌, sym, rules}
use Rattle.layout.specs.declared.layout.FrameLayout.{FrameLayout}
use Rattle.layout.specs.Frames.{frame_count}
use Rattle.family.specs.Texts.{record_view}
use Rattle.family.proofs.Records.{count_due_lem}
use Rattle.family.proofs.laid_out.AnyFamily.frame_count.Goals as goal

pub returns : goal.returns
returns g c =
    let lawful : g.L.FamilyLayout.layout.refusal c.args.self.now (record_view c.args.record.now) ≡ None = search rules in
    count_due_lem g.L.FamilyLayout.layout c.args.self.now c.args.record.now c.frame_count.result lawful
    (c.frame_count.ensures ∙ ap (λ (l : FrameLayout). frame_count l c.args.record.now.text.len) (c.FRAME_LAYOUT.ensures ∙ sym g.met.L.FamilyLayout.frame_layout_is))
