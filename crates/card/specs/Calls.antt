-- The calls of a card, and what each place reads off them. The latest call comes first; refused calls are among them.
use Rattle.std.specs.Prelude.{ℕ, ◌+◌, ◌%◌, cond, ◌&&◌, List, [], ◌∷◌, Some, None, Option, ◌==◌}
use Rattle.pdu.specs.declared.refusal.Refusal.{Refusal}
use Rattle.message.specs.declared.place.Place.{Place}
use Rattle.message.specs.declared.place.Place.TheVariants.{Name, Message, Alert}
use Rattle.message.specs.Place.{place_number}
use Rattle.family.specs.Meaning.{RecordOf}
use Rattle.transport.specs.Families.{FamilyOf, PlaceOf}
use Rattle.airing.specs.Calls.{Call as PlaceCall, stored, withdrawn, drawn}

-- A store of a record at a message number, a withdraw at one, or a draw into a buffer of so many bytes.
pub data Call (R : Type 0) : Type 0 where
  store : ℕ → RecordOf R → Call R
  withdraw : ℕ → Call R
  draw : ℕ → Call R

-- How many draws were accepted: those into ten bytes.
abbrev pub accepted_draws : {R : Type 0} → List (Call R) → ℕ
accepted_draws [] = 0
accepted_draws (store n r ∷ h) = accepted_draws h
accepted_draws (withdraw n ∷ h) = accepted_draws h
accepted_draws (draw size ∷ h) = accepted_draws h + cond (size == 10) 1 0

-- The turn of the next draw: turns 0 to 3 repeat.
abbrev pub turn_after : {R : Type 0} → List (Call R) → ℕ
turn_after h = accepted_draws h % 4

-- The turn of a place; turn 0 is the station's.
abbrev pub turn_of : Place → ℕ
turn_of Name = 1
turn_of Message = 2
turn_of Alert = 3

-- A record with this head and text, if there is a head.
abbrev pub with_head : {T : Type 0} → Option T → List ℕ → Option (RecordOf T)
with_head None text = None
with_head (Some head) text = Some (record { head = head; text = text })

-- A record as one of a place, if its head is of the place's sort.
abbrev pub own_record : {S T R : Type 0} → PlaceOf S T R → RecordOf R → Option (RecordOf T)
own_record p r = with_head (p.own_head r.head) r.text

-- The store of a record, unless it is refused.
abbrev pub store_unless : {T : Type 0} → Option Refusal → RecordOf T → Option (PlaceCall T)
store_unless None r = Some (stored r)
store_unless (Some e) r = None

-- The store that a family makes of a record, if it is one of its own and lawful.
abbrev pub store_of : {S T : Type 0} → FamilyOf S T → Option (RecordOf T) → Option (PlaceCall T)
store_of f None = None
store_of f (Some r) = store_unless (f.meaning.refusal f.setting r) r

-- What a call after h is at a place: an accepted store there, a withdraw there, a draw at its turn, or nothing.
abbrev pub call_at : {S T R : Type 0} → PlaceOf S T R → List (Call R) → Call R → Option (PlaceCall T)
call_at p h (store n r) = cond (n == place_number p.place) (store_of p.family (own_record p r)) None
call_at p h (withdraw n) = cond (n == place_number p.place) (Some withdrawn) None
call_at p h (draw size) = cond (size == 10 && turn_after h == turn_of p.place) (Some drawn) None

-- A call, if there is one, before the others.
abbrev pub with_call : {T : Type 0} → Option (PlaceCall T) → List (PlaceCall T) → List (PlaceCall T)
with_call None h = h
with_call (Some c) h = c ∷ h

-- The calls at a place.
abbrev pub calls_at : {S T R : Type 0} → PlaceOf S T R → List (Call R) → List (PlaceCall T)
calls_at p [] = []
calls_at p (c ∷ h) = with_call (call_at p h c) (calls_at p h)
