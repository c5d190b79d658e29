use Rattle.std.proofs.Common.{rules}
use Rattle.air.specs.Runs.{card_calls}
use Rattle.air.proofs.link.Link.store.Goals as goal

pub returns-clause-due : goal.returns-clause-due
returns-clause-due g c n m e st a k = let s = c.store.ensures.due n m e st (card_calls a) k.card_agrees in search rules
