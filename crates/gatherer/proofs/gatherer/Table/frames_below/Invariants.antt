use Rattle.gatherer.proofs.Slots.{Copied}
use Rattle.gatherer.proofs.gatherer.Table.frames_below.Given as goal

abbrev pub invariant-loop-i : goal.invariant-loop-i
invariant-loop-i l = Copied l.self l.frames l.i
