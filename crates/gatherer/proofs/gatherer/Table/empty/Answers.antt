use Rattle.gatherer.proofs.Slots.{none_held}
use Rattle.gatherer.proofs.gatherer.Table.empty.Goals as goal

pub returns : goal.returns
returns c i = none_held 64 i
