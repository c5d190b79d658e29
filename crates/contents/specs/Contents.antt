-- What a PDU says: with extension 0 one message, with extension 1 a second number of four bits and its payload behind the first payload; the bits left over before the reserved bit are zero.
use Rattle.std.specs.Prelude.{◌≡◌, ℕ, ◌-◌, Bool, true, false, cond, List, Some, None, Ok, Err, Option, Result, ◌==◌}
use Rattle.pdu.specs.declared.refusal.Refusal.{Refusal}
use Rattle.pdu.specs.declared.refusal.Refusal.TheVariants.{LeftoverBitSet}
use Rattle.pdu.specs.declared.pdu.Pdu.{Pdu}
use Rattle.pdu.specs.declared.fields.Fields.{Fields}
use Rattle.pdu.specs.Bytes.{taken}
use Rattle.pdu.specs.Fields.{parsed as fields_in, composed}
use Rattle.message.specs.declared.message.Message.{Message}
use Rattle.message.specs.Message.{number_of, parsed, payload_of}
use Rattle.message.specs.Results.{and_then}
use Rattle.contents.specs.declared.contents.Contents.{Contents}
use Rattle.contents.specs.Area.{upper, lower, joined, first_size, second_size}

-- The answer x if no leftover bit is set.
abbrev pub if_nothing_left : {A : Type 0} → ℕ → A → Result A Refusal
if_nothing_left leftover x = cond (leftover == 0) (Ok x) (Err LeftoverBitSet)

-- The contents with these messages and a PDU's other fields.
abbrev pub contents_with : Fields → Message → Option Message → Contents
contents_with f first second = record { first = first; second = second; reserved = f.reserved; time_locked = f.time_locked; pair = f.pair }

-- One message: its payload stands first, and the rest is left over.
abbrev pub one_message : Fields → ℕ → Result Contents Refusal
one_message f size =
    and_then (parsed f.number (upper (58 - size) f.area))
    (λ first. if_nothing_left (lower (58 - size) f.area) (contents_with f first None))

-- Two messages by the first payload and the second number, behind which there are so many bits: first the second payload, if its size is not refused, and the rest is left over.
abbrev pub both_messages : Fields → ℕ → ℕ → ℕ → ℕ → Result ℕ Refusal → Result Contents Refusal
both_messages f payload number width area sized =
    and_then sized
    (λ size. and_then (parsed f.number payload)
    (λ first. and_then (parsed number (upper (width - size) area))
    (λ second. if_nothing_left (lower (width - size) area) (contents_with f first (Some second)))))

-- Two messages, once the second one's number is known.
abbrev pub second_message : Fields → ℕ → ℕ → ℕ → Result Contents Refusal
second_message f size number area = both_messages f (upper (58 - size) f.area) number (54 - size) area (second_size size number)

abbrev pub two_messages : Fields → ℕ → Result Contents Refusal
two_messages f size =
    second_message f size (upper (54 - size) (lower (58 - size) f.area)) (lower (54 - size) (lower (58 - size) f.area))

-- What the fields of a PDU say.
abbrev pub contents_of : Fields → Result Contents Refusal
contents_of f = and_then (first_size f.extension f.number) (λ size. cond f.extension (two_messages f size) (one_message f size))

-- The fields of a PDU with these contents and this message area.
abbrev pub fields_with : Contents → Bool → ℕ → Fields
fields_with c extension area = record { extension = extension; number = number_of c.first; area = area; reserved = c.reserved; time_locked = c.time_locked; pair = c.pair }

abbrev pub one_written : Contents → Result Fields Refusal
one_written c =
    and_then (first_size false (number_of c.first))
    (λ size. and_then (payload_of c.first) (λ payload. Ok (fields_with c false (joined payload (58 - size) 0))))

abbrev pub two_written : Contents → Message → Result Fields Refusal
two_written c second =
    and_then (first_size true (number_of c.first))
    (λ size. and_then (second_size size (number_of second))
    (λ second-size. and_then (payload_of c.first)
    (λ payload. and_then (payload_of second)
    (λ second-payload. Ok (fields_with c true
    (joined payload (58 - size) (joined (number_of second) (54 - size) (joined second-payload (54 - size - second-size) 0))))))))

-- The fields that contents are written to.
abbrev pub fields_of : Contents → Result Fields Refusal
fields_of c = elim c.second [ None ↦ one_written c | Some second ↦ two_written c second ]

-- What a PDU says: its check and its type are tested first.
abbrev pub decoded : Pdu → Result Contents Refusal
decoded p = and_then (fields_in p) contents_of

-- The PDU with these contents.
abbrev pub encoded : Contents → Result Pdu Refusal
encoded c = and_then (fields_of c) composed

-- The answer to reading the contents of a PDU. Contents that were read make the same PDU again.
pub record IsDecoded (p : Pdu) (answer : Result Contents Refusal) : Type 0 where
  pub value : answer ≡ decoded p
  pub written_again : (c : Contents) → answer ≡ Ok c → encoded c ≡ Ok p

-- The answer to writing contents to a PDU. A PDU that was written has these contents.
pub record IsEncoded (c : Contents) (answer : Result Pdu Refusal) : Type 0 where
  pub value : answer ≡ encoded c
  pub read_again : (p : Pdu) → answer ≡ Ok p → decoded p ≡ Ok c

-- What a slice of bytes says.
abbrev pub read_from : List ℕ → Result Contents Refusal
read_from bs = and_then (taken bs) decoded

-- The answer to writing into a buffer: first its length is tested.
abbrev pub write_answer : Contents → List ℕ → Result (Unit {0}) Refusal
write_answer c before = and_then (taken before) (λ _. and_then (encoded c) (λ _. Ok tt))

-- The buffer after writing: the PDU's ten bytes, or as found where writing is refused.
abbrev pub buffer_after : Contents → List ℕ → List ℕ
buffer_after c before = elim (and_then (taken before) (λ _. encoded c)) [ Ok p ↦ p.bytes | Err e ↦ before ]

-- The same contents with another second message.
abbrev pub with_second : Contents → Option Message → Contents
with_second c second = record { first = c.first; second = second; reserved = c.reserved; time_locked = c.time_locked; pair = c.pair }
