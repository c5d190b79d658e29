-- The calls of a monitor, and what it heard by them. The latest call comes first; refused offers are among them.
use Rattle.std.specs.Prelude.{ℕ, Bool, List, [], ◌∷◌, Some, None, Ok, Err, Option, Result}
use Rattle.pdu.specs.declared.refusal.Refusal.{Refusal}
use Rattle.message.specs.declared.place.Place.{Place}
use Rattle.message.specs.declared.message.Message.{Message}
use Rattle.contents.specs.declared.contents.Contents.{Contents}
use Rattle.gatherer.specs.Series.{Event, accepted, forgotten}
use Rattle.station_information.specs.Hearings.{Hearing, heard, forgot}
use Rattle.transport.specs.Transport.{read_with, frame_in}

-- An offer of bytes, or a forget.
pub data Call : Type 0 where
  offer : List ℕ → Call
  forget : Call

-- A second message is heard after the first, if there is one.
abbrev pub then_heard : Option Message → List Hearing → List Hearing
then_heard None k = k
then_heard (Some x) k = heard x ∷ k

-- What is heard of contents: the first message, then the second.
abbrev pub contents_heard : Contents → List Hearing → List Hearing
contents_heard c k = then_heard c.second (heard c.first ∷ k)

-- What is heard of an offer: nothing where it is refused.
abbrev pub offer_heard : Result Contents Refusal → List Hearing → List Hearing
offer_heard (Err e) k = k
offer_heard (Ok c) k = contents_heard c k

-- What was heard, where frames are lawful by this test.
abbrev pub hearings : (Place → ℕ → Bool) → List Call → List Hearing
hearings lawful [] = []
hearings lawful (forget ∷ h) = forgot ∷ hearings lawful h
hearings lawful (offer bs ∷ h) = offer_heard (read_with lawful bs) (hearings lawful h)

-- A frame, if there is one, accepted after the others.
abbrev pub then_accepted : Option ℕ → List Event → List Event
then_accepted None e = e
then_accepted (Some x) e = accepted x ∷ e

-- The events at a place: its own frames and the forgets.
abbrev pub events_at : Place → List Hearing → List Event
events_at p [] = []
events_at p (forgot ∷ k) = forgotten ∷ events_at p k
events_at p (heard x ∷ k) = then_accepted (frame_in p x) (events_at p k)
