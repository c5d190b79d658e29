use Rattle.gatherer.proofs.Sums.{Summed}
use Rattle.gatherer.proofs.gatherer.Table.empty_sum.Given as goal

abbrev pub invariant-loop-i : goal.invariant-loop-i
invariant-loop-i l = Summed l.self l.i l.sum
