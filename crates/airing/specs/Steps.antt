-- What the parts of the calls do to the current record.
use Rattle.std.specs.Prelude.{ℕ, ◌+◌, cond, Some, None, Option, nat_lt}
use Rattle.family.specs.Meaning.{RecordOf}
use Rattle.airing.specs.Calls.{is_unequal_to}
use Rattle.airing.specs.Due.{CurrentOf}

-- The record of a current record.
abbrev pub record_of : {T : Type 0} → Option (CurrentOf T) → Option (RecordOf T)
record_of None = None
record_of (Some c) = Some c.«record»

-- The number after n in a round of so many numbers from 0.
abbrev pub successor_in : ℕ → ℕ → ℕ
successor_in count n = cond (nat_lt (n + 1) count) (n + 1) 0

-- The sequence number after that of the current record; the first is 0.
abbrev pub next_sequence : {T : Type 0} → ℕ → Option (CurrentOf T) → ℕ
next_sequence modulus None = 0
next_sequence modulus (Some c) = successor_in modulus c.sequence

-- The record r in place of the current one, from its frame 0.
abbrev pub replaced_by : {T : Type 0} → ℕ → Option (CurrentOf T) → RecordOf T → CurrentOf T
replaced_by modulus o r = record { «record» = r; sequence = next_sequence modulus o; next = 0 }

-- The current record after r was accepted: as it was if it equals r, and else r.
abbrev pub accepted_after : {T : Type 0} → ℕ → Option (CurrentOf T) → RecordOf T → Option (CurrentOf T)
accepted_after modulus o r = cond (is_unequal_to (record_of o) r) (Some (replaced_by modulus o r)) o

-- One frame further in a round of so many.
abbrev pub advanced_in : {T : Type 0} → ℕ → CurrentOf T → CurrentOf T
advanced_in count c = record { «record» = c.«record»; sequence = c.sequence; next = successor_in count c.next }
