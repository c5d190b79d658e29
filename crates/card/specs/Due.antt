-- What is due of a card after its calls.
use Rattle.std.specs.Prelude.{ℕ, Bool, false, cond, ◌&&◌, List, Some, None, Ok, Err, Option, Result, ◌==◌}
use Rattle.pdu.specs.declared.refusal.Refusal.{Refusal}
use Rattle.pdu.specs.declared.refusal.Refusal.TheVariants.{NotTenBytes, HeadSettingOrPlace}
use Rattle.message.specs.declared.place.Place.{Place}
use Rattle.message.specs.declared.place.Place.TheVariants.{Name, Message, Alert}
use Rattle.message.specs.declared.message.Message.{Message as MessageType}
use Rattle.message.specs.declared.message.Message.TheVariants.{StationId, ShortName, Frame}
use Rattle.message.specs.Place.{place_with}
use Rattle.message.specs.Station.{station_in_range, short_name_in_range}
use Rattle.contents.specs.declared.contents.Contents.{Contents}
use Rattle.family.specs.Meaning.{RecordOf, unless}
use Rattle.transport.specs.declared.head.Head.{Head}
use Rattle.transport.specs.Families.{FamilyOf, Families, PlaceOf, name_place, message_place, alert_place}
use Rattle.airing.specs.declared.stored.Stored.{Stored}
use Rattle.airing.specs.Due.{answer_due, frame_drawn}
use Rattle.card.specs.declared.station.Station.{Station}
use Rattle.card.specs.Calls.{Call, turn_after, turn_of, own_record, calls_at}

-- Whether all fields are in range.
abbrev pub station_fits : Station → Bool
station_fits st = station_in_range st.id && short_name_in_range st.short_name

-- Contents with these messages; bits 64 to 67 are zero.
abbrev pub contents_of : MessageType → Option MessageType → Contents
contents_of first second = record { first = first; second = second; reserved = false; time_locked = false; pair = 0 }

-- The station PDU: the short name, then the station ID.
abbrev pub station_contents : Station → Contents
station_contents st = contents_of (ShortName st.short_name) (Some (StationId st.id))

-- A frame as a message of its place.
abbrev pub frame_message : Place → Option ℕ → Option MessageType
frame_message p None = None
frame_message p (Some x) = Some (Frame p x)

-- What a place's turn gives: its next frame, if a record is on air there.
abbrev pub frame_at : {S T R : Type 0} → PlaceOf S T R → List (Call R) → Option MessageType
frame_at p h = frame_message p.place (frame_drawn p.family.meaning p.family.setting (calls_at p h))

-- What the next turn gives.
abbrev pub frame_at_turn : {N T M U E V : Type 0} → Families N T M U E V → List (Call (Head T U V)) → ℕ → Option MessageType
frame_at_turn f h turn =
    cond (turn == turn_of Name) (frame_at (name_place f) h)
    (cond (turn == turn_of Message) (frame_at (message_place f) h) (cond (turn == turn_of Alert) (frame_at (alert_place f) h) None))

-- The frame, or the station PDU where there is none.
abbrev pub frame_or_station : Station → Option MessageType → Contents
frame_or_station st None = station_contents st
frame_or_station st (Some x) = contents_of x None

-- The contents of the PDU that an accepted draw gives after h.
abbrev pub contents_due : {N T M U E V : Type 0} → Families N T M U E V → Station → List (Call (Head T U V)) → Contents
contents_due f st h = frame_or_station st (frame_at_turn f h (turn_after h))

-- The answer to a draw into a buffer of so many bytes.
abbrev pub draw_answer : ℕ → Result (Unit {0}) Refusal
draw_answer size = cond (size == 10) (Ok tt) (Err NotTenBytes)

-- The answer due to a store at a place after h: a head of another sort is refused, and then what the family refuses.
abbrev pub own_store_due : {S T : Type 0} → FamilyOf S T → Option (RecordOf T) → (RecordOf T → Stored) → Result Stored Refusal
own_store_due f None answer = Err HeadSettingOrPlace
own_store_due f (Some r) answer = unless (f.meaning.refusal f.setting r) (Ok (answer r))

abbrev pub store_due_at : {S T R : Type 0} → PlaceOf S T R → List (Call R) → RecordOf R → Result Stored Refusal
store_due_at p h r = own_store_due p.family (own_record p r) (answer_due (calls_at p h))

-- The answer due to a store at the place with a message number.
abbrev pub placed_store_due : {N T M U E V : Type 0} → Families N T M U E V → List (Call (Head T U V)) → RecordOf (Head T U V) → Option Place → Result Stored Refusal
placed_store_due f h r None = Err HeadSettingOrPlace
placed_store_due f h r (Some Name) = store_due_at (name_place f) h r
placed_store_due f h r (Some Message) = store_due_at (message_place f) h r
placed_store_due f h r (Some Alert) = store_due_at (alert_place f) h r

abbrev pub store_due : {N T M U E V : Type 0} → Families N T M U E V → List (Call (Head T U V)) → ℕ → RecordOf (Head T U V) → Result Stored Refusal
store_due f h n r = placed_store_due f h r (place_with n)

-- The answer to a withdraw: a number that is no place's is refused.
abbrev pub withdraw_answer : ℕ → Result (Unit {0}) Refusal
withdraw_answer n = elim (place_with n) [ None ↦ Err HeadSettingOrPlace | Some p ↦ Ok tt ]
