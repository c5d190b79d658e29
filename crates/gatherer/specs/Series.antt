-- The series at a place, read off its events. The latest event comes first.
use Rattle.std.specs.Prelude.{ℕ, zero, suc, ◌+◌, ◌^◌, cond, List, [], ◌∷◌, ◌++◌, Some, None, Ok, Err, Option, Result, ◌==◌}
use Rattle.pdu.specs.declared.refusal.Refusal.{Refusal}
use Rattle.pdu.specs.declared.refusal.Refusal.TheVariants.{NothingThere}
use Rattle.family.specs.Meaning.{Meaning}

-- A frame was accepted, or everything was forgotten.
pub data Event : Type 0 where
  accepted : ℕ → Event
  forgotten : Event

-- The frames accepted from the latest back while they have the sequence number q, up to a forget.
abbrev pub frames_under : {S T : Type 0} → Meaning S T → S → ℕ → List Event → List ℕ
frames_under m s q [] = []
frames_under m s q (forgotten ∷ h) = []
frames_under m s q (accepted x ∷ h) = cond (m.sequence s x == q) (x ∷ frames_under m s q h) []

-- The series: the frames accepted from the latest back while they share one sequence number, up to a forget.
abbrev pub series : {S T : Type 0} → Meaning S T → S → List Event → List ℕ
series m s [] = []
series m s (forgotten ∷ h) = []
series m s (accepted x ∷ h) = x ∷ frames_under m s (m.sequence s x) h

-- The latest frame of number i in a series.
abbrev pub latest_frame : {S T : Type 0} → Meaning S T → S → ℕ → List ℕ → Option ℕ
latest_frame m s i [] = None
latest_frame m s i (x ∷ xs) = cond (m.number s x == i) (Some x) (latest_frame m s i xs)

-- One more than the last number that a frame 0 tells.
abbrev pub told_by : {S T : Type 0} → Meaning S T → S → Option ℕ → Option ℕ
told_by m s None = None
told_by m s (Some x) = Some (suc (m.last s x))

-- How many frames a series should have, which its latest frame 0 tells.
abbrev pub frames_told : {S T : Type 0} → Meaning S T → S → List ℕ → Option ℕ
frames_told m s xs = told_by m s (latest_frame m s 0 xs)

-- A list and one more frame, if both are there.
abbrev pub appended : Option (List ℕ) → Option ℕ → Option (List ℕ)
appended None y = None
appended (Some xs) None = None
appended (Some xs) (Some y) = Some (xs ++ (y ∷ []))

-- The latest frames of the numbers below n, in order, if all are there.
abbrev pub frames_below : {S T : Type 0} → Meaning S T → S → List ℕ → ℕ → Option (List ℕ)
frames_below m s xs zero = Some []
frames_below m s xs (suc n) = appended (frames_below m s xs n) (latest_frame m s n xs)

-- The latest frames of as many numbers as are told.
abbrev pub frames_up_to : {S T : Type 0} → Meaning S T → S → List ℕ → Option ℕ → Option (List ℕ)
frames_up_to m s xs None = None
frames_up_to m s xs (Some n) = frames_below m s xs n

-- The latest frames of a full series: it has a frame 0, and all numbers up to the last that its latest frame 0 tells.
abbrev pub full_series : {S T : Type 0} → Meaning S T → S → List ℕ → Option (List ℕ)
full_series m s xs = frames_up_to m s xs (frames_told m s xs)

-- 2^i where the frame i is missing.
abbrev pub gap_value : Option ℕ → ℕ → ℕ
gap_value None i = 2 ^ i
gap_value (Some x) i = 0

-- The sum of 2^i over the missing frames i below n.
abbrev pub missing_below : {S T : Type 0} → Meaning S T → S → List ℕ → ℕ → ℕ
missing_below m s xs zero = 0
missing_below m s xs (suc n) = missing_below m s xs n + gap_value (latest_frame m s n xs) n

-- The sum over as many numbers as are told; none is told before a frame 0 came.
abbrev pub missing_up_to : {S T : Type 0} → Meaning S T → S → List ℕ → Option ℕ → Result ℕ Refusal
missing_up_to m s xs None = Err NothingThere
missing_up_to m s xs (Some n) = Ok (missing_below m s xs n)

-- The sum over the missing frames of the series.
abbrev pub missing_due : {S T : Type 0} → Meaning S T → S → List Event → Result ℕ Refusal
missing_due m s h = missing_up_to m s (series m s h) (frames_told m s (series m s h))
