use Rattle.std.proofs.Common.{true, false, sym, ap, ◌∙◌}
use Rattle.contents.specs.Area.{size_within, first_size}
use Rattle.contents.proofs.Fitting.{first_within}
use Rattle.contents.proofs.area.first_size.Goals as goal
use Rattle.contents.proofs.area.first_size.Goals.{then-extension, else-extension}

pub returns-clause-value : goal.returns-clause-value
returns-clause-value c =
    let n = c.args.number in
    elim c.if-extension.branch [
      | then-extension w ↦ c.size_within.ensures.value ∙ ap (λ room. size_within room n) w.size_within-is ∙ first_within true n ∙ ap (λ e. first_size e n) (sym w.if-extension.true)
      | else-extension w ↦ c.size_within.ensures.value ∙ ap (λ room. size_within room n) w.size_within-is ∙ first_within false n ∙ ap (λ e. first_size e n) (sym w.if-extension.false)
    ]
