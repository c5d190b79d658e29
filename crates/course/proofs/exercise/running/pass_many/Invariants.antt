use Rattle.std.proofs.Common.{◌≡◌, List}
use Rattle.transport.specs.declared.head.Head.{Head}
use Rattle.air.specs.Runs.{Step, card_calls}
use Rattle.bench.specs.Ran.{Ran, InEveryHistory}
use Rattle.course.specs.Exercise.{drawn_times}
use Rattle.course.proofs.exercise.running.pass_many.Given as goal

abbrev pub invariant-loop : goal.invariant-loop
invariant-loop g l = InEveryHistory g.N.Family.meaning g.M.Family.meaning g.E.Family.meaning l.initial.bench (λ f st a. (b : List (Step (Head g.row.N-Head.Denot g.row.M-Head.Denot g.row.E-Head.Denot))) × Ran f st b l.bench × (card_calls b ≡ drawn_times l.counter (card_calls a)))
