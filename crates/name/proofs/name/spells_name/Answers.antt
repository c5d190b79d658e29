use Rattle.std.proofs.Common.{◌∙◌, ◌&&◌, leb, rules, tests}
use Rattle.std.proofs.lemmas.Iterator.{YieldsList-from_slice}
use Rattle.std.proofs.lemmas.Iterator.Search.{all_from_yields_List}
use Rattle.name.proofs.Characters.{characters_all}
use Rattle.name.proofs.name.spells_name.Goals as goal

pub returns : goal.returns
returns c =
    let t = c.args.text.now in
    all_from_yields_List (λ b. leb 1 b && leb b 127) _ _ c.all.result c.all.ensures.ran (YieldsList-from_slice t cc) (λ x b q k. search (rules, tests)) ∙ characters_all t
