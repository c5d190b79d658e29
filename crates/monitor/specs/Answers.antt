-- The answers to an offer that is accepted.
use Rattle.std.specs.Prelude.{ℕ, Some, None, Option}
use Rattle.gatherer.specs.declared.answer.Answer.{Answer}
use Rattle.gatherer.specs.Answers.{number_of as gathering_number}

-- The number of each answer: 0 where there is no text frame, and else that of the frame.
abbrev pub number_of : Option Answer → ℕ
number_of None = 0
number_of (Some a) = gathering_number a
