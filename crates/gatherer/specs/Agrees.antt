-- When a gatherer agrees with a history: its state is what the events lead to.
use Rattle.std.specs.Prelude.{◌≡◌, ℕ, zero, suc, ◌+◌, ◌<◌, true, List, [], ◌∷◌, Some, None, Ok, Err, Option, Result, slice_index_or}
use Rattle.pdu.specs.declared.refusal.Refusal.{Refusal}
use Rattle.family.specs.Meaning.{Meaning, RecordOf}
use Rattle.family.specs.Texts.{record_view, join_view}
use Rattle.family.specs.declared.text.Record.{Record}
use Rattle.gatherer.specs.declared.answer.Answer.{Answer}
use Rattle.gatherer.specs.declared.answer.Answer.TheVariants.{Incomplete, DoesNotJoin}
use Rattle.gatherer.specs.declared.gatherer.Gatherer.{Gatherer}
use Rattle.gatherer.specs.declared.gatherer.Table.{Table}
use Rattle.gatherer.specs.Series.{Event, accepted, forgotten, series, latest_frame, appended, gap_value}
use Rattle.gatherer.specs.Due.{Outcome, not_full, no_record, joins_to, record_due, answer_due, fresh_due}

-- The frame held in slot i, if any.
abbrev pub slot : Table → ℕ → Option ℕ
slot t i = slice_index_or t.slots i None

-- Each slot holds the latest frame of its number in a series.
abbrev pub Slots : {S T : Type 0} → Meaning S T → S → List ℕ → Table → Type 0
Slots m s xs t = (i : ℕ) → i < 64 → slot t i ≡ latest_frame m s i xs

-- The sequence number of the latest frame, if no forget came since.
abbrev pub sequence_held : {S T : Type 0} → Meaning S T → S → List Event → Option ℕ
sequence_held m s [] = None
sequence_held m s (forgotten ∷ h) = None
sequence_held m s (accepted x ∷ h) = Some (m.sequence s x)

-- Every frame accepted is lawful.
abbrev pub LawfulFrames : {S T : Type 0} → Meaning S T → S → List Event → Type 0
LawfulFrames m s [] = Unit {0}
LawfulFrames m s (forgotten ∷ h) = LawfulFrames m s h
LawfulFrames m s (accepted x ∷ h) = (m.lawful s x ≡ true) × LawfulFrames m s h

-- The gatherer has this family, and holds the series.
pub record Holds {S T : Type 0} (m : Meaning S T) (s : S) (h : List Event) (g : Gatherer S T) : Type 0 where
  pub family_is : g.family ≡ s
  pub frames_lawful : LawfulFrames m s h
  pub sequence_is : g.sequence ≡ sequence_held m s h
  pub slots_are : Slots m s (series m s h) g.table

-- The gatherer is what the history of a family leads to.
pub record Agrees {S T : Type 0} (m : Meaning S T) (s : S) (h : List Event) (g : Gatherer S T) : Type 0 where
  pub holds : Holds m s h g
  pub shown_is : join_view g.shown ≡ record_due m s h
  pub fresh_is : g.fresh ≡ fresh_due m s h

-- The frame x was accepted after h: the answer is the one due, and the gatherer agrees with the longer history.
pub record Taken {S T : Type 0} (m : Meaning S T) (s : S) (h : List Event) (x : ℕ) (answer : Result Answer Refusal) (g : Gatherer S T) : Type 0 where
  pub answer_is : answer ≡ Ok (answer_due m s h x)
  pub agrees : Agrees m s (accepted x ∷ h) g

-- What holds of a gatherer whatever it has taken and forgotten, as long as they agree.
abbrev pub InEveryHistory : {S T : Type 0} → Meaning S T → Gatherer S T → (S → List Event → Type 0) → Type 0
InEveryHistory {S} m g P = (s : S) (h : List Event) → Agrees m s h g → P s h

-- What holds of a gatherer whatever series led to the frames that it holds.
abbrev pub InEverySeries : {S T : Type 0} → Meaning S T → Gatherer S T → (S → List Event → Type 0) → Type 0
InEverySeries {S} m g P = (s : S) (h : List Event) → Holds m s h g → P s h

-- What an attempt came to: a record, or the answer without one.
abbrev pub attempt_view : {T : Type 0} → Result (Record T) Answer → Result (RecordOf T) Answer
attempt_view (Ok r) = Ok (record_view r)
attempt_view (Err a) = Err a

-- The record that a series joins to, or the answer without one.
abbrev pub attempt_due : {T : Type 0} → Outcome T → Result (RecordOf T) Answer
attempt_due not_full = Err Incomplete
attempt_due no_record = Err DoesNotJoin
attempt_due (joins_to r) = Ok r

-- The frames in the slots below n, if all of those are held.
abbrev pub held_below : Table → ℕ → Option (List ℕ)
held_below t zero = Some []
held_below t (suc n) = appended (held_below t n) (slot t n)

-- The sum of 2^i over the empty slots i below n.
abbrev pub empty_sum : Table → ℕ → ℕ
empty_sum t zero = 0
empty_sum t (suc n) = empty_sum t n + gap_value (slot t n) n
