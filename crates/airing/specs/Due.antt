-- What is due at a place after its calls.
use Rattle.std.specs.Prelude.{ℕ, ◌%◌, cond, List, [], ◌∷◌, length, Some, None, Option, slice_index}
use Rattle.family.specs.Meaning.{Meaning, RecordOf}
use Rattle.airing.specs.declared.stored.Stored.{Stored}
use Rattle.airing.specs.declared.stored.Stored.TheVariants.{Changed, Unchanged}
use Rattle.airing.specs.Calls.{Call, is_change, changes, on_air, frames_given}

-- The answer due to an accepted store of r after h.
abbrev pub answer_due : {T : Type 0} → List (Call T) → RecordOf T → Stored
answer_due h r = cond (is_change h r) Changed Unchanged

-- A record, its sequence number, and the number of its next frame.
pub record CurrentOf (T : Type 0) : Type 0 where
  pub «record» : RecordOf T
  pub sequence : ℕ
  pub next : ℕ

-- The sequence number of a change: how many changes came before it, modulo the modulus.
abbrev pub sequence_after : {S T : Type 0} → Meaning S T → List (RecordOf T) → ℕ
sequence_after m earlier = length earlier % m.modulus

-- The record of the latest change, after n draws gave a frame of it: its next frame is n modulo the number of its frames.
abbrev pub current_after : {S T : Type 0} → Meaning S T → S → List (RecordOf T) → ℕ → Option (CurrentOf T)
current_after m s [] n = None
current_after m s (r ∷ earlier) n = Some (record { «record» = r; sequence = sequence_after m earlier; next = n % length (m.cut s r (sequence_after m earlier)) })

-- The current record, which is that of the latest change, on air or not.
abbrev pub current_due : {S T : Type 0} → Meaning S T → S → List (Call T) → Option (CurrentOf T)
current_due m s h = current_after m s (changes h) (frames_given h)

-- The sequence number of the current record, if there is one.
abbrev pub sequence_of : {T : Type 0} → Option (CurrentOf T) → Option ℕ
sequence_of None = None
sequence_of (Some c) = Some c.sequence

-- The cut of the current record under its sequence number.
abbrev pub cut_of : {S T : Type 0} → Meaning S T → S → Option (CurrentOf T) → List ℕ
cut_of m s None = []
cut_of m s (Some c) = m.cut s c.«record» c.sequence

-- The next frame of the current record.
abbrev pub next_of : {S T : Type 0} → Meaning S T → S → Option (CurrentOf T) → Option ℕ
next_of m s None = None
next_of m s (Some c) = Some (slice_index (m.cut s c.«record» c.sequence) c.next)

-- What a draw gives after h: the next frame, if a record is on air.
abbrev pub frame_drawn : {S T : Type 0} → Meaning S T → S → List (Call T) → Option ℕ
frame_drawn m s h = cond (on_air h) (next_of m s (current_due m s h)) None
