-- A card and a monitor across the air: the calls of both in the order in which they were made. The latest comes first.
use Rattle.std.specs.Prelude.{◌≡◌, ℕ, cond, ◌⊎◌, List, [], ◌∷◌, Some, None, Ok, Err, Option, ◌==◌}
use Rattle.pdu.specs.declared.refusal.Refusal.{Refusal}
use Rattle.contents.specs.declared.contents.Contents.{Contents}
use Rattle.transport.specs.declared.head.Head.{Head}
use Rattle.transport.specs.Transport.{read_with}
use Rattle.transport.specs.Families.{Families, lawful_in}
use Rattle.card.specs.declared.station.Station.{Station}
use Rattle.card.specs.Calls.{Call as CardCall, store, withdraw, draw}
use Rattle.card.specs.Due.{contents_due}
use Rattle.monitor.specs.Calls.{Call as MonitorCall, offer, forget}

-- A call of the card, or one of the monitor.
pub data Step (R : Type 0) : Type 0 where
  card : CardCall R → Step R
  monitor : MonitorCall → Step R

-- The calls of the card.
abbrev pub card_calls : {R : Type 0} → List (Step R) → List (CardCall R)
card_calls [] = []
card_calls (card c ∷ a) = c ∷ card_calls a
card_calls (monitor c ∷ a) = card_calls a

-- The calls of the monitor.
abbrev pub monitor_calls : {R : Type 0} → List (Step R) → List MonitorCall
monitor_calls [] = []
monitor_calls (card c ∷ a) = monitor_calls a
monitor_calls (monitor c ∷ a) = c ∷ monitor_calls a

-- What the PDU drawn last says, if one was drawn.
abbrev pub contents_last_drawn : {N T M U E V : Type 0} → Families N T M U E V → Station → List (CardCall (Head T U V)) → Option Contents
contents_last_drawn f st [] = None
contents_last_drawn f st (store n r ∷ h) = contents_last_drawn f st h
contents_last_drawn f st (withdraw n ∷ h) = contents_last_drawn f st h
contents_last_drawn f st (draw size ∷ h) = cond (size == 10) (Some (contents_due f st h)) (contents_last_drawn f st h)

-- The bytes are a copy of the PDU drawn last: they are read as what it says, which its own ten bytes are and no others.
abbrev pub IsCopy : {N T M U E V : Type 0} → Families N T M U E V → Station → List (CardCall (Head T U V)) → List ℕ → Type 0
IsCopy f st h bs = (c : Contents) × (contents_last_drawn f st h ≡ Some c) × (read_with (lawful_in f) bs ≡ Ok c)

-- The bytes are refused, as a spoilt copy is.
abbrev pub IsRefused : {N T M U E V : Type 0} → Families N T M U E V → List ℕ → Type 0
IsRefused f bs = (e : Refusal) × (read_with (lawful_in f) bs ≡ Err e)

-- The monitor was offered nothing but copies of the PDU drawn last, and bytes that it refused: PDUs may be lost, repeated on the spot, and spoilt.
abbrev pub Relayed : {N T M U E V : Type 0} → Families N T M U E V → Station → List (Step (Head T U V)) → Type 0
Relayed f st [] = Unit {0}
Relayed f st (card c ∷ a) = Relayed f st a
Relayed f st (monitor forget ∷ a) = Relayed f st a
Relayed f st (monitor (offer bs) ∷ a) = (IsCopy f st (card_calls a) bs ⊎ IsRefused f bs) × Relayed f st a
