-- The answers to a frame that is accepted.
use Rattle.std.specs.Prelude.{ℕ}
use Rattle.gatherer.specs.declared.answer.Answer.{Answer}
use Rattle.gatherer.specs.declared.answer.Answer.TheVariants.{Incomplete, NewlyShown, ShownBefore, DoesNotJoin}

-- The number of each answer.
abbrev pub number_of : Answer → ℕ
number_of Incomplete = 1
number_of NewlyShown = 2
number_of ShownBefore = 3
number_of DoesNotJoin = 4
