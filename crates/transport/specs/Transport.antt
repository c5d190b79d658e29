-- PDUs of a station with three families: an unlawful frame is refused, after everything else.
use Rattle.std.specs.Prelude.{ℕ, Bool, true, cond, ◌&&◌, List, Some, None, Ok, Err, Option, Result, ◌==◌}
use Rattle.pdu.specs.declared.refusal.Refusal.{Refusal}
use Rattle.pdu.specs.declared.refusal.Refusal.TheVariants.{UnlawfulFrame}
use Rattle.pdu.specs.declared.pdu.Pdu.{Pdu}
use Rattle.pdu.specs.Bytes.{taken}
use Rattle.message.specs.declared.message.Message.{Message as MessageType}
use Rattle.message.specs.declared.message.Message.TheVariants.{StationId, ShortName, Frame, Location, Service, Parameter, Universal}
use Rattle.message.specs.declared.place.Place.{Place}
use Rattle.message.specs.declared.place.Place.TheVariants.{Name, Message, Alert}
use Rattle.message.specs.Place.{place_number}
use Rattle.message.specs.Results.{and_then}
use Rattle.contents.specs.declared.contents.Contents.{Contents}
use Rattle.contents.specs.Contents.{encoded, read_from}

-- Which frames are lawful at each place, from the three families' own tests.
abbrev pub lawful_at : (ℕ → Bool) → (ℕ → Bool) → (ℕ → Bool) → Place → ℕ → Bool
lawful_at name message alert Name x = name x
lawful_at name message alert Message x = message x
lawful_at name message alert Alert x = alert x

-- A message is lawful unless it is an unlawful frame.
abbrev pub message_lawful : (Place → ℕ → Bool) → MessageType → Bool
message_lawful lawful (StationId s) = true
message_lawful lawful (ShortName s) = true
message_lawful lawful (Frame place x) = lawful place x
message_lawful lawful (Location h) = true
message_lawful lawful (Service s) = true
message_lawful lawful (Parameter q) = true
message_lawful lawful (Universal x) = true

abbrev pub second_lawful : (Place → ℕ → Bool) → Option MessageType → Bool
second_lawful lawful None = true
second_lawful lawful (Some m) = message_lawful lawful m

abbrev pub contents_lawful : (Place → ℕ → Bool) → Contents → Bool
contents_lawful lawful c = message_lawful lawful c.first && second_lawful lawful c.second

-- The frame of a place that a message is, if it is one.
abbrev pub frame_in : Place → MessageType → Option ℕ
frame_in p (Frame q x) = cond (place_number q == place_number p) (Some x) None
frame_in p (StationId s) = None
frame_in p (ShortName s) = None
frame_in p (Location h) = None
frame_in p (Service s) = None
frame_in p (Parameter q) = None
frame_in p (Universal x) = None

-- The answer x, unless a frame of the contents is unlawful.
abbrev pub if_lawful : {X : Type 0} → (Place → ℕ → Bool) → Contents → X → Result X Refusal
if_lawful lawful c x = cond (contents_lawful lawful c) (Ok x) (Err UnlawfulFrame)

-- What a slice of bytes says.
abbrev pub read_with : (Place → ℕ → Bool) → List ℕ → Result Contents Refusal
read_with lawful bs = and_then (read_from bs) (λ c. if_lawful lawful c c)

-- The PDU with these contents.
abbrev pub encoded_with : (Place → ℕ → Bool) → Contents → Result Pdu Refusal
encoded_with lawful c = and_then (encoded c) (λ p. if_lawful lawful c p)

-- The answer to writing into a buffer, and the buffer after: the PDU's ten bytes, or as found where writing is refused.
abbrev pub write_answer_with : (Place → ℕ → Bool) → Contents → List ℕ → Result (Unit {0}) Refusal
write_answer_with lawful c before = and_then (taken before) (λ _. and_then (encoded_with lawful c) (λ _. Ok tt))

abbrev pub buffer_after_with : (Place → ℕ → Bool) → Contents → List ℕ → List ℕ
buffer_after_with lawful c before = elim (and_then (taken before) (λ _. encoded_with lawful c)) [ Ok p ↦ p.bytes | Err e ↦ before ]
