-- What a run is at one place, and what the monitor shows there.
use Rattle.std.specs.Prelude.{◌≡◌, ℕ, ◌≤◌, Bool, List, [], ◌∷◌, length, Some, None, Ok, Err, Option, Result}
use Rattle.pdu.specs.declared.refusal.Refusal.{Refusal}
use Rattle.message.specs.declared.message.Message.{Message}
use Rattle.message.specs.declared.place.Place.{Place}
use Rattle.contents.specs.declared.contents.Contents.{Contents}
use Rattle.transport.specs.declared.head.Head.{Head}
use Rattle.transport.specs.Transport.{read_with, frame_in}
use Rattle.transport.specs.Families.{Families, PlaceOf, lawful_in, name_place, message_place, alert_place}
use Rattle.gatherer.specs.Series.{accepted, forgotten}
use Rattle.gatherer.specs.Due.{record_due}
use Rattle.airing.specs.Calls.{Call as PlaceCall, changes}
use Rattle.airing.specs.Due.{current_due}
use Rattle.airing.specs.Steps.{record_of}
use Rattle.reception.specs.Runs.{Step as PlaceStep, card as card_step, monitor as monitor_step, change_counts, FewChangesBetween}
use Rattle.reception.specs.Order.{ShowsChanges}
use Rattle.reception.specs.Arrival.{RoundHeard}
use Rattle.card.specs.Calls.{call_at, calls_at}
use Rattle.monitor.specs.Calls.{offer, forget, hearings, events_at}
use Rattle.air.specs.Runs.{Step, card, monitor, card_calls, monitor_calls}

-- A call of the card's place, if there is one, before the other steps.
abbrev pub with_card_step : {T : Type 0} → Option (PlaceCall T) → List (PlaceStep T) → List (PlaceStep T)
with_card_step None a = a
with_card_step (Some c) a = card_step c ∷ a

-- A frame accepted at the monitor's place, if there is one, before the other steps.
abbrev pub with_frame_step : {T : Type 0} → Option ℕ → List (PlaceStep T) → List (PlaceStep T)
with_frame_step None a = a
with_frame_step (Some x) a = monitor_step (accepted x) ∷ a

-- What a second message is at a place, if there is one.
abbrev pub with_second_step : {T : Type 0} → Place → Option Message → List (PlaceStep T) → List (PlaceStep T)
with_second_step p None a = a
with_second_step p (Some x) a = with_frame_step (frame_in p x) a

-- What an offer is at a place: nothing where it is refused.
abbrev pub with_offer_steps : {T : Type 0} → Place → Result Contents Refusal → List (PlaceStep T) → List (PlaceStep T)
with_offer_steps p (Err e) a = a
with_offer_steps p (Ok c) a = with_second_step p c.second (with_frame_step (frame_in p c.first) a)

-- The steps of a run at a place.
abbrev pub steps_at : {S X R : Type 0} → (Place → ℕ → Bool) → PlaceOf S X R → List (Step R) → List (PlaceStep X)
steps_at lawful p [] = []
steps_at lawful p (card c ∷ a) = with_card_step (call_at p (card_calls a) c) (steps_at lawful p a)
steps_at lawful p (monitor forget ∷ a) = monitor_step forgotten ∷ steps_at lawful p a
steps_at lawful p (monitor (offer bs) ∷ a) = with_offer_steps p.place (read_with lawful bs) (steps_at lawful p a)

-- What the monitor shows at a place after a run.
pub record ShowsAt {N T M U E V S X : Type 0} (f : Families N T M U E V) (p : PlaceOf S X (Head T U V)) (a : List (Step (Head T U V))) : Type 0 where
  -- with at most two changes there between the draw of one frame accepted there and that of the next: the records newly shown are those of the card's changes there, in their order, each change at most once
  pub changes_shown : FewChangesBetween (change_counts (steps_at (lawful_in f) p a)) →
      ShowsChanges p.family.meaning p.family.setting (changes (calls_at p (card_calls a))) (events_at p.place (hearings (lawful_in f) (monitor_calls a)))
  -- a place that had no more than three changes meets that premise
  pub few_changes : length (changes (calls_at p (card_calls a))) ≤ 3 → FewChangesBetween (change_counts (steps_at (lawful_in f) p a))
  -- after a round of the place that was heard, whatever came before it, the record of the latest change there is shown
  pub round_shown : RoundHeard p.family.meaning p.family.setting (steps_at (lawful_in f) p a) →
      record_due p.family.meaning p.family.setting (events_at p.place (hearings (lawful_in f) (monitor_calls a))) ≡ record_of (current_due p.family.meaning p.family.setting (calls_at p (card_calls a)))

-- What it shows at its three places.
pub record ShowsTexts {N T M U E V : Type 0} (f : Families N T M U E V) (a : List (Step (Head T U V))) : Type 0 where
  pub name : ShowsAt f (name_place f) a
  pub message : ShowsAt f (message_place f) a
  pub alert : ShowsAt f (alert_place f) a
