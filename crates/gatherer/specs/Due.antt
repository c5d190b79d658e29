-- What is due at a place after its events: the record, the answers, the count.
use Rattle.std.specs.Prelude.{ℕ, ◌+◌, min, Bool, false, cond, List, [], ◌∷◌, ◌++◌, length, drop, Some, None, Ok, Err, Option, Result, ◌==◌, nat_le}
use Rattle.pdu.specs.declared.refusal.Refusal.{Refusal}
use Rattle.pdu.specs.declared.refusal.Refusal.TheVariants.{UnlawfulFrame, BufferShort, NothingThere}
use Rattle.family.specs.Meaning.{Meaning, RecordOf, equal_records}
use Rattle.gatherer.specs.declared.answer.Answer.{Answer}
use Rattle.gatherer.specs.declared.answer.Answer.TheVariants.{Incomplete, NewlyShown, ShownBefore, DoesNotJoin}
use Rattle.gatherer.specs.Answers.{number_of}
use Rattle.gatherer.specs.Series.{Event, accepted, forgotten, series, full_series}

-- What a series comes to: it is not full, it joins to nothing, or it joins to a record.
pub data Outcome (T : Type 0) : Type 0 where
  not_full : Outcome T
  no_record : Outcome T
  joins_to : RecordOf T → Outcome T

-- What a full series comes to, by what its frames join to.
abbrev pub joined_outcome : {T : Type 0} → Option (RecordOf T) → Outcome T
joined_outcome None = no_record
joined_outcome (Some r) = joins_to r

-- What a series comes to, by its latest frames where it is full.
abbrev pub outcome : {S T : Type 0} → Meaning S T → S → Option (List ℕ) → Outcome T
outcome m s None = not_full
outcome m s (Some xs) = joined_outcome (m.joined s xs)

-- What the series comes to after the latest event.
abbrev pub attempted : {S T : Type 0} → Meaning S T → S → List Event → Outcome T
attempted m s h = outcome m s (full_series m s (series m s h))

-- The record that a series joins to takes the place of the one before.
abbrev pub shown_after : {T : Type 0} → Option (RecordOf T) → Outcome T → Option (RecordOf T)
shown_after before not_full = before
shown_after before no_record = before
shown_after before (joins_to r) = Some r

-- The record due: the one that a full series last joined to, tried at each frame accepted since the opening or the last forget.
abbrev pub record_due : {S T : Type 0} → Meaning S T → S → List Event → Option (RecordOf T)
record_due m s [] = None
record_due m s (forgotten ∷ h) = None
record_due m s (accepted x ∷ h) = shown_after (record_due m s h) (attempted m s (accepted x ∷ h))

-- Whether a record was due before, and equals this one.
abbrev pub is_equal_to : {T : Type 0} → Option (RecordOf T) → RecordOf T → Bool
is_equal_to None r = false
is_equal_to (Some before) r = equal_records before r

-- The answer where the series joins to a record.
abbrev pub joined_answer : {T : Type 0} → Option (RecordOf T) → RecordOf T → Answer
joined_answer before r = cond (is_equal_to before r) ShownBefore NewlyShown

-- The answer, by the record due before and what the series comes to.
abbrev pub answer_to : {T : Type 0} → Option (RecordOf T) → Outcome T → Answer
answer_to before not_full = Incomplete
answer_to before no_record = DoesNotJoin
answer_to before (joins_to r) = joined_answer before r

-- The answer due to the frame x, accepted after h.
abbrev pub answer_due : {S T : Type 0} → Meaning S T → S → List Event → ℕ → Answer
answer_due m s h x = answer_to (record_due m s h) (attempted m s (accepted x ∷ h))

-- The refusal of a frame: that of an unlawful one.
abbrev pub refusal_due : {S T : Type 0} → Meaning S T → S → ℕ → Option Refusal
refusal_due m s x = cond (m.lawful s x) None (Some UnlawfulFrame)

-- The refusal that a call came to, if any.
abbrev pub refusal_in : {A : Type 0} → Result A Refusal → Option Refusal
refusal_in (Ok a) = None
refusal_in (Err e) = Some e

-- How many answers had the number 2 since the opening or the last forget.
abbrev pub times_newly_shown : {S T : Type 0} → Meaning S T → S → List Event → ℕ
times_newly_shown m s [] = 0
times_newly_shown m s (forgotten ∷ h) = 0
times_newly_shown m s (accepted x ∷ h) = times_newly_shown m s h + cond (number_of (answer_due m s h x) == 2) 1 0

-- The fresh count stops at 4,294,967,295.
abbrev pub fresh_due : {S T : Type 0} → Meaning S T → S → List Event → ℕ
fresh_due m s h = min (times_newly_shown m s h) 4294967295

-- The head of the record due.
abbrev pub head_due : {T : Type 0} → Option (RecordOf T) → Result T Refusal
head_due None = Err NothingThere
head_due (Some r) = Ok r.head

-- A text at the front of a buffer, and the rest as found.
abbrev pub at_front : List ℕ → List ℕ → List ℕ
at_front text b = text ++ drop (length text) b

-- The length of a text that is copied to a buffer, if there is room for it.
abbrev pub copied_length : List ℕ → List ℕ → Result ℕ Refusal
copied_length text b = cond (nat_le (length text) (length b)) (Ok (length text)) (Err BufferShort)

-- The buffer after that: as found where there is no room.
abbrev pub copied_to : List ℕ → List ℕ → List ℕ
copied_to text b = cond (nat_le (length text) (length b)) (at_front text b) b

-- The length of the text of the record due, copied to a buffer.
abbrev pub length_due : {T : Type 0} → Option (RecordOf T) → List ℕ → Result ℕ Refusal
length_due None b = Err NothingThere
length_due (Some r) b = copied_length r.text b

-- The buffer after that: as found while no record is due.
abbrev pub buffer_due : {T : Type 0} → Option (RecordOf T) → List ℕ → List ℕ
buffer_due None b = b
buffer_due (Some r) b = copied_to r.text b
