use Rattle.gatherer.proofs.Slots.{Unbroken}
use Rattle.gatherer.proofs.gatherer.Table.has_gap.Given as goal

abbrev pub invariant-loop-i : goal.invariant-loop-i
invariant-loop-i l = Unbroken l.self l.i
