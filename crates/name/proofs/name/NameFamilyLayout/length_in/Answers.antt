use Rattle.std.proofs.Common.{◌≡◌, ◌≢◌, ◌∙◌, rules, tests}
use Rattle.std.proofs.lemmas.Iterator.{first_from_Range}
use Rattle.layout.specs.Frames.{byte_at}
use Rattle.name.specs.Name.{frame_layout}
use Rattle.name.proofs.Characters.{first_zero}
use Rattle.name.proofs.name.NameFamilyLayout.length_in.Goals as goal

pub returns-clause-value : goal.returns-clause-value
returns-clause-value c =
    let f = byte_at frame_layout c.args.frames.now in
    c.unwrap_or.ensures
    ∙ first_zero f 56 c.find.result (first_from_Range _ _ _ c.find.result (λ x. f x ≡ 0) (λ x. f x ≢ 0) c.find.ensures.ran (λ x q k. search (rules, tests)) (λ x q k. search (rules, tests)))
