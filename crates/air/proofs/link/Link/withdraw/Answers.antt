use Rattle.std.proofs.Common.{rules}
use Rattle.air.specs.Runs.{card_calls}
use Rattle.air.proofs.link.Link.withdraw.Goals as goal

pub returns-clause-linked : goal.returns-clause-linked
returns-clause-linked g c n m e st a k = let s = c.withdraw.ensures.agrees n m e st (card_calls a) k.card_agrees in search rules
