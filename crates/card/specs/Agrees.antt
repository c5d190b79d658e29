-- When a card agrees with its calls: its state is what they lead to.
use Rattle.std.specs.Prelude.{◌≡◌, ℕ, true, false, List, [], ◌∷◌, length, Ok, Err, Option, Result}
use Rattle.pdu.specs.declared.refusal.Refusal.{Refusal}
use Rattle.pdu.specs.declared.refusal.Refusal.TheVariants.{OutOfRange}
use Rattle.message.specs.declared.message.Message.{Message as MessageType}
use Rattle.contents.specs.Contents.{encoded, buffer_after}
use Rattle.family.specs.Meaning.{Meaning, RecordOf}
use Rattle.transport.specs.declared.head.Head.{Head}
use Rattle.transport.specs.Families.{Families, families, PlaceOf, lawful_in, name_place, message_place, alert_place}
use Rattle.transport.specs.Transport.{read_with}
use Rattle.airing.specs.declared.place.Place.{Place as AiredPlace}
use Rattle.airing.specs.declared.stored.Stored.{Stored}
use Rattle.airing.specs.Agrees.{Agrees as AgreesAt}
use Rattle.card.specs.declared.station.Station.{Station}
use Rattle.card.specs.declared.card.Card.{Card}
use Rattle.card.specs.declared.card.Turn.{Turn}
use Rattle.card.specs.declared.card.Turn.TheVariants.{Station as OwnTurn, Name, Message, Alert}
use Rattle.card.specs.Calls.{Call, store, draw, turn_after, calls_at}
use Rattle.card.specs.Due.{station_fits, frame_at_turn, contents_due, draw_answer, store_due}
use Rattle.card.specs.Rounds.{Round, EachFrameOnce}

-- The number of a turn.
abbrev pub turn_number : Turn → ℕ
turn_number OwnTurn = 0
turn_number Name = 1
turn_number Message = 2
turn_number Alert = 3

-- A place is what the card's calls lead to.
abbrev pub PlaceAgrees : {S T R : Type 0} → PlaceOf S T R → List (Call R) → AiredPlace S T → Type 0
PlaceAgrees p h a = AgreesAt p.family.meaning p.family.setting (calls_at p h) a

-- The card is what the calls lead to, with these families and this station.
pub record Agrees {N T M U E V : Type 0} (f : Families N T M U E V) (st : Station) (h : List (Call (Head T U V))) (c : Card N M E T U V) : Type 0 where
  pub station_fits : station_fits st ≡ true
  pub station_is : c.station ≡ st
  pub turn_is : turn_number c.turn ≡ turn_after h
  pub name_agrees : PlaceAgrees (name_place f) h c.name
  pub message_agrees : PlaceAgrees (message_place f) h c.message
  pub alert_agrees : PlaceAgrees (alert_place f) h c.alert

-- What holds of a card whatever its families, its station and its calls were, as long as it agrees with them. The calls are no part of a card, so a contract speaks of every list of calls that agrees with it.
abbrev pub InEveryHistory : {N T M U E V : Type 0} → Meaning N T → Meaning M U → Meaning E V → Card N M E T U V → (Families N T M U E V → Station → List (Call (Head T U V)) → Type 0) → Type 0
InEveryHistory {N} {T} {M} {U} {E} {V} nm mm em c P = (n : N) (m : M) (e : E) (st : Station) (h : List (Call (Head T U V))) → Agrees (families nm n mm m em e) st h c → P (families nm n mm m em e) st h

-- What opening comes to: a new card where all fields are in range, and else a refusal.
abbrev pub Opened : {N T M U E V : Type 0} → Families N T M U E V → Station → Result (Card N M E T U V) Refusal → Type 0
Opened f st (Ok c) = Agrees f st [] c
Opened f st (Err e) = (station_fits st ≡ false) × (e ≡ OutOfRange)

-- A store after h: the answer is the one due, and the card agrees with the longer list.
pub record StoredSo {N T M U E V : Type 0} (f : Families N T M U E V) (st : Station) (h : List (Call (Head T U V))) (n : ℕ) (r : RecordOf (Head T U V)) (answer : Result Stored Refusal) (c : Card N M E T U V) : Type 0 where
  pub answer_is : answer ≡ store_due f h n r
  pub agrees : Agrees f st (store n r ∷ h) c

-- A draw after h into a buffer that held other bytes.
pub record DrawnSo {N T M U E V : Type 0} (f : Families N T M U E V) (st : Station) (h : List (Call (Head T U V))) (found : List ℕ) (answer : Result (Unit {0}) Refusal) (left : List ℕ) (c : Card N M E T U V) : Type 0 where
  -- it is refused for the buffer's length alone
  pub answer_is : answer ≡ draw_answer (length found)
  -- the buffer is written, or left as found, as writing the contents due does
  pub bytes_are : left ≡ buffer_after (contents_due f st h) found
  -- ten bytes are then the PDU with these contents
  pub pdu_is : length found ≡ 10 → encoded (contents_due f st h) ≡ Ok (record { bytes = left })
  -- and are read, with these families, as those contents
  pub read_again : length found ≡ 10 → read_with (lawful_in f) left ≡ Ok (contents_due f st h)
  pub agrees : Agrees f st (draw (length found) ∷ h) c
  -- a round of a place that ends here holds each frame once
  pub name_round : (w : Round (name_place f) (draw (length found) ∷ h)) → EachFrameOnce f st (name_place f) (draw (length found) ∷ h) w
  pub message_round : (w : Round (message_place f) (draw (length found) ∷ h)) → EachFrameOnce f st (message_place f) (draw (length found) ∷ h) w
  pub alert_round : (w : Round (alert_place f) (draw (length found) ∷ h)) → EachFrameOnce f st (alert_place f) (draw (length found) ∷ h) w

-- The next turn's frame after h, and the card with that frame drawn but the turn not yet passed.
pub record FrameTaken {N T M U E V : Type 0} (f : Families N T M U E V) (h : List (Call (Head T U V))) (frame : Option MessageType) (c : Card N M E T U V) : Type 0 where
  pub frame_is : frame ≡ frame_at_turn f h (turn_after h)
  pub name_agrees : PlaceAgrees (name_place f) (draw 10 ∷ h) c.name
  pub message_agrees : PlaceAgrees (message_place f) (draw 10 ∷ h) c.message
  pub alert_agrees : PlaceAgrees (alert_place f) (draw 10 ∷ h) c.alert
