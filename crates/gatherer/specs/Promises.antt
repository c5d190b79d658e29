-- What holds of the record shown, over whole histories.
use Rattle.std.specs.Prelude.{◌≡◌, ℕ, ◌≤◌, ◌⊎◌, List, [], ◌∷◌, ◌++◌, length, Some, Ok, Result}
use Rattle.pdu.specs.declared.refusal.Refusal.{Refusal}
use Rattle.family.specs.Meaning.{Meaning, RecordOf, Fit}
use Rattle.gatherer.specs.Series.{Event, accepted, forgotten}
use Rattle.gatherer.specs.Due.{record_due, head_due, at_front, length_due, buffer_due}

-- The frames xs, the latest first, were accepted right after h.
abbrev pub accepted_after : List ℕ → List Event → List Event
accepted_after [] h = h
accepted_after (x ∷ xs) h = accepted x ∷ accepted_after xs h

-- x is one of the list.
abbrev pub In : ℕ → List ℕ → Type 0
In x [] = ⊥
In x (y ∷ ys) = (x ≡ y) ⊎ In x ys

-- No forget is among the events.
abbrev pub NoForget : List Event → Type 0
NoForget [] = Unit {0}
NoForget (forgotten ∷ h) = ⊥
NoForget (accepted x ∷ h) = NoForget h

-- Whatever came before, the latest events accepted all frames of one cut of r, in any order and with repeats, and nothing else came since the first of them.
pub record HeardWhole {S T : Type 0} (m : Meaning S T) (s : S) (h : List Event) (r : RecordOf T) : Type 0 where
  pub sequence : ℕ
  pub fits : Fit m s r sequence
  pub frames : List ℕ
  pub before : List Event
  pub events : h ≡ accepted_after frames before
  pub every_frame : (x : ℕ) → In x (m.cut s r sequence) → In x frames
  pub no_other : (x : ℕ) → In x frames → In x (m.cut s r sequence)

-- Since the opening or the last forget, the frames of one cut of the lawful record r were all accepted in one series: a run of frames with that cut's sequence number, with nothing else between them.
pub record AcceptedWhole {S T : Type 0} (m : Meaning S T) (s : S) (h : List Event) (r : RecordOf T) : Type 0 where
  pub sequence : ℕ
  pub fits : Fit m s r sequence
  pub later : List Event
  pub frames : List ℕ
  pub before : List Event
  pub events : h ≡ later ++ accepted_after frames before
  pub no_forget : NoForget later
  pub every_frame : (x : ℕ) → In x (m.cut s r sequence) → In x frames
  pub one_sequence : (x : ℕ) → In x frames → m.sequence s x ≡ sequence

-- What the question for the head answers after h.
pub record HeadShown {S T : Type 0} (m : Meaning S T) (s : S) (h : List Event) (answer : Result T Refusal) : Type 0 where
  -- the head of the record due
  pub due : answer ≡ head_due (record_due m s h)
  -- the head of a record that was heard whole
  pub heard : (r : RecordOf T) → HeardWhole m s h r → answer ≡ Ok r.head
  -- and no head but that of the record due, which was accepted whole
  pub whole : (head : T) → answer ≡ Ok head → (r : RecordOf T) × (record_due m s h ≡ Some r) × (r.head ≡ head) × AcceptedWhole m s h r

-- What the question for the text answers after h, and what it leaves in a buffer that held other bytes.
pub record TextShown {S T : Type 0} (m : Meaning S T) (s : S) (h : List Event) (found : List ℕ) (answer : Result ℕ Refusal) (left : List ℕ) : Type 0 where
  -- the text of the record due, and its length
  pub length_due : answer ≡ length_due (record_due m s h) found
  pub bytes_due : left ≡ buffer_due (record_due m s h) found
  -- the text of a record that was heard whole, where there is room for it
  pub heard : (r : RecordOf T) → HeardWhole m s h r → length r.text ≤ length found → (answer ≡ Ok (length r.text)) × (left ≡ at_front r.text found)
  -- and no text but that of the record due, which was accepted whole
  pub whole : (n : ℕ) → answer ≡ Ok n → (r : RecordOf T) × (record_due m s h ≡ Some r) × (length r.text ≡ n) × (left ≡ at_front r.text found) × AcceptedWhole m s h r
