-- What a text and a record stand for.
use Rattle.std.specs.Prelude.{ℕ, cond, List, length, take, Some, None, Ok, Err, Option, Result, nat_le}
use Rattle.pdu.specs.declared.refusal.Refusal.{Refusal}
use Rattle.pdu.specs.declared.refusal.Refusal.TheVariants.{TextLength}
use Rattle.family.specs.declared.text.Text.{Text}
use Rattle.family.specs.declared.text.Record.{Record}
use Rattle.family.specs.Meaning.{RecordOf}

-- The bytes of a text.
abbrev pub bytes_of : Text → List ℕ
bytes_of t = take t.len t.bytes

abbrev pub text_view : Result Text Refusal → Result (List ℕ) Refusal
text_view (Ok t) = Ok (bytes_of t)
text_view (Err e) = Err e

-- A text has at most 381 bytes.
abbrev pub text_taken : List ℕ → Result (List ℕ) Refusal
text_taken bs = cond (nat_le (length bs) 381) (Ok bs) (Err TextLength)

-- A record by its head and the bytes of its text.
abbrev pub record_view : {T : Type 0} → Record T → RecordOf T
record_view r = record { head = r.head; text = bytes_of r.text }

abbrev pub join_view : {T : Type 0} → Option (Record T) → Option (RecordOf T)
join_view None = None
join_view (Some r) = Some (record_view r)
