-- Every PDU that is due can be written, and is read as it was written.
use Rattle.std.proofs.Common.{◌≡◌, ℕ, ◌^◌, ◌<◌, Bool, true, false, cond, eqb, ltb, List, Some, None, Ok, Option, refl, ◌∙◌, arith}
use Rattle.std.proofs.lemmas.Bool.{lt-ltb, and_parts}
use Rattle.pdu.specs.declared.pdu.Pdu.{Pdu}
use Rattle.pdu.specs.declared.fields.Fields.{Fields}
use Rattle.pdu.specs.Fields.{composed, unchecked_number, checked}
use Rattle.pdu.proofs.Composed.{fits, composed_right}
use Rattle.message.specs.declared.place.Place.{Place}
use Rattle.message.specs.declared.place.Place.TheVariants.{Name, Message, Alert}
use Rattle.message.specs.declared.message.Message.{Message as MessageType}
use Rattle.message.specs.declared.message.Message.TheVariants.{Frame}
use Rattle.message.specs.Results.{in_range, and_then}
use Rattle.message.specs.Station.{station_in_range, station_packed, short_name_in_range, short_name_packed}
use Rattle.message.proofs.Ranges.{in_range_lem, then_ok}
use Rattle.message.proofs.StationPacked.{station_again, short_name_again}
use Rattle.contents.specs.declared.contents.Contents.{Contents}
use Rattle.contents.specs.Area.{joined}
use Rattle.contents.specs.Contents.{fields_with, fields_of, encoded}
use Rattle.contents.proofs.Areas.{joined_small}
use Rattle.family.specs.Meaning.{Laws}
use Rattle.transport.specs.declared.head.Head.{Head}
use Rattle.transport.specs.Transport.{contents_lawful}
use Rattle.transport.specs.Families.{Families, lawful_in, name_place, message_place, alert_place}
use Rattle.airing.specs.Due.{frame_drawn}
use Rattle.airing.specs.Agrees.{LawfulRecords}
use Rattle.airing.proofs.Changes.{drawn_lawful}
use Rattle.card.specs.declared.station.Station.{Station}
use Rattle.card.specs.Calls.{Call, turn_after, calls_at}
use Rattle.card.specs.Due.{station_fits, contents_of, station_contents, frame_message, frame_or_station, contents_due}

-- The contents can be written, and their frames are lawful.
pub record Writable (lawful : Place → ℕ → Bool) (c : Contents) : Type 0 where
  pub pdu : Pdu
  pub written : encoded c ≡ Ok pdu
  pub lawful_frames : contents_lawful lawful c ≡ true

-- fields that fit make a PDU
composes : (c : Contents) (f : Fields) → fields_of c ≡ Ok f → f.number < 16 → f.area < 2 ^ 58 → f.pair < 4 → encoded c ≡ Ok (checked (unchecked_number f))
composes c f is n a p = then_ok (fields_of c) f composed is ∙ composed_right f (fits f n a p)

pub station_written : (lawful : Place → ℕ → Bool) (st : Station) → station_fits st ≡ true → Writable lawful (station_contents st)
station_written lawful st ok =
    let c = station_contents st in
    let in_both = and_parts (station_in_range st.id) (short_name_in_range st.short_name) ok in
    let first = short_name_packed st.short_name in
    let second = station_packed st.id in
    let area = joined first 36 (joined 0 32 (joined second 0 0)) in
    let f = fields_with c true area in
    let is : fields_of c ≡ Ok f =
    then_ok (in_range (short_name_in_range st.short_name) first) first
    (λ p. and_then (in_range (station_in_range st.id) second) (λ q. Ok (fields_with c true (joined p 36 (joined 0 32 (joined q 0 0)))))) (in_range_lem (short_name_in_range st.short_name) first in_both.1)
    ∙ then_ok (in_range (station_in_range st.id) second) second (λ q. Ok (fields_with c true (joined first 36 (joined 0 32 (joined q 0 0))))) (in_range_lem (station_in_range st.id) second in_both.0) in
    let first_small = (short_name_again st.short_name in_both.1).0 in
    let second_small = (station_again st.id in_both.0).0 in
    let small : area < 2 ^ 58 = joined_small first 22 36 (joined 0 32 (joined second 0 0)) first_small (joined_small 0 4 32 (joined second 0 0) (omega arith) (joined_small second 32 0 0 second_small (omega arith))) in
    record { pdu = checked (unchecked_number f); written = composes c f is (omega arith) small (omega arith); lawful_frames = refl }

-- the fields of a PDU with one frame
frame_fields : (p : Place) (x : ℕ) → x < 2 ^ 58 → fields_of (contents_of (Frame p x) None) ≡ Ok (fields_with (contents_of (Frame p x) None) false (joined x 0 0))
frame_fields Name x l = then_ok (in_range (ltb x (2 ^ 58)) x) x (λ p. Ok (fields_with (contents_of (Frame Name x) None) false (joined p 0 0))) (in_range_lem (ltb x (2 ^ 58)) x (lt-ltb x (2 ^ 58) l))
frame_fields Message x l = then_ok (in_range (ltb x (2 ^ 58)) x) x (λ p. Ok (fields_with (contents_of (Frame Message x) None) false (joined p 0 0))) (in_range_lem (ltb x (2 ^ 58)) x (lt-ltb x (2 ^ 58) l))
frame_fields Alert x l = then_ok (in_range (ltb x (2 ^ 58)) x) x (λ p. Ok (fields_with (contents_of (Frame Alert x) None) false (joined p 0 0))) (in_range_lem (ltb x (2 ^ 58)) x (lt-ltb x (2 ^ 58) l))

place_small : (p : Place) → (fields_with (contents_of (Frame p 0) None) false 0).number < 16
place_small Name = omega arith
place_small Message = omega arith
place_small Alert = omega arith

pub frame_written : (lawful : Place → ℕ → Bool) (p : Place) (x : ℕ) → x < 2 ^ 58 → lawful p x ≡ true → Writable lawful (contents_of (Frame p x) None)
frame_written lawful p x small ok =
    let c = contents_of (Frame p x) None in
    let f = fields_with c false (joined x 0 0) in
    let area : f.area < 2 ^ 58 = joined_small x 58 0 0 small (omega arith) in
    record { pdu = checked (unchecked_number f); written = composes c f (frame_fields p x small) (place_small p) area (omega arith); lawful_frames = rw ok refl }

-- the next PDU of a place, or of the station
turn_written : (lawful : Place → ℕ → Bool) (st : Station) (p : Place) (o : Option ℕ) → station_fits st ≡ true → ((x : ℕ) → o ≡ Some x → (x < 2 ^ 58) × (lawful p x ≡ true)) → Writable lawful (frame_or_station st (frame_message p o))
turn_written lawful st p None ok is = station_written lawful st ok
turn_written lawful st p (Some x) ok is = let k = is x refl in frame_written lawful p x k.0 k.1

either_written : (lawful : Place → ℕ → Bool) (st : Station) (b : Bool) (x y : Option MessageType) → Writable lawful (frame_or_station st x) → Writable lawful (frame_or_station st y) → Writable lawful (frame_or_station st (cond b x y))
either_written lawful st true x y a b = a
either_written lawful st false x y a b = b

module _ {N T M U E V : Type 0} (f : Families N T M U E V) (st : Station) (h : List (Call (Head T U V))) where
  pub due_written : Laws f.name.meaning → Laws f.message.meaning → Laws f.alert.meaning → station_fits st ≡ true →
      LawfulRecords f.name.meaning f.name.setting (calls_at (name_place f) h) → LawfulRecords f.message.meaning f.message.setting (calls_at (message_place f) h) →
      LawfulRecords f.alert.meaning f.alert.setting (calls_at (alert_place f) h) → Writable (lawful_in f) (contents_due f st h)
  due_written names messages alerts ok n m e =
      let at_name = turn_written (lawful_in f) st Name (frame_drawn f.name.meaning f.name.setting (calls_at (name_place f) h)) ok
      (λ x is. let l = drawn_lawful f.name.meaning f.name.setting names (calls_at (name_place f) h) x n is in (names.frame_small f.name.setting x l, l)) in
      let at_message = turn_written (lawful_in f) st Message (frame_drawn f.message.meaning f.message.setting (calls_at (message_place f) h)) ok
      (λ x is. let l = drawn_lawful f.message.meaning f.message.setting messages (calls_at (message_place f) h) x m is in (messages.frame_small f.message.setting x l, l)) in
      let at_alert = turn_written (lawful_in f) st Alert (frame_drawn f.alert.meaning f.alert.setting (calls_at (alert_place f) h)) ok
      (λ x is. let l = drawn_lawful f.alert.meaning f.alert.setting alerts (calls_at (alert_place f) h) x e is in (alerts.frame_small f.alert.setting x l, l)) in
      let t = turn_after h in
      either_written (lawful_in f) st (eqb t 1) _ _ at_name (either_written (lawful_in f) st (eqb t 2) _ _ at_message (either_written (lawful_in f) st (eqb t 3) _ None at_alert (station_written (lawful_in f) st ok)))
