-- A place of a card and a place of a monitor after one run, and what one draw that is heard does to both.
use Rattle.std.specs.Prelude.{◌≡◌, ℕ, List, ◌∷◌, Some, None, Option}
use Rattle.family.specs.Meaning.{Meaning}
use Rattle.gatherer.specs.declared.answer.Answer.{Answer}
use Rattle.gatherer.specs.declared.gatherer.Gatherer.{Gatherer}
use Rattle.gatherer.specs.Series.{Event, accepted}
use Rattle.gatherer.specs.Due.{record_due, answer_due}
use Rattle.gatherer.specs.Agrees as Monitor
use Rattle.airing.specs.declared.place.Place.{Place}
use Rattle.airing.specs.Calls.{drawn, changes}
use Rattle.airing.specs.Due.{current_due, frame_drawn}
use Rattle.airing.specs.Steps.{record_of}
use Rattle.airing.specs.Agrees as Card
use Rattle.reception.specs.Runs.{Step, card, monitor, card_calls, monitor_events, Relayed, change_counts, FewChangesBetween}
use Rattle.reception.specs.Order.{ShowsChanges}
use Rattle.reception.specs.Arrival.{RoundHeard}

-- The place p of the card and the place g of the monitor are what the run a leads to.
pub record Linked {S T : Type 0} (m : Meaning S T) (s : S) (a : List (Step T)) (p : Place S T) (g : Gatherer S T) : Type 0 where
  pub card_agrees : Card.Agrees m s (card_calls a) p
  pub monitor_agrees : Monitor.Agrees m s (monitor_events a) g

-- What holds of the two places whatever run led to them. A run is no part of them, so a contract speaks of every run that leads to them.
abbrev pub InEveryHistory : {S T : Type 0} → Meaning S T → Place S T → Gatherer S T → (S → List (Step T) → Type 0) → Type 0
InEveryHistory {S} {T} m p g P = (s : S) (a : List (Step T)) → Linked m s a p g → P s a

-- The run a, then a draw, and its frame, if it gave one, accepted.
abbrev pub after_draw : {T : Type 0} → Option ℕ → List (Step T) → List (Step T)
after_draw None a = card drawn ∷ a
after_draw (Some x) a = monitor (accepted x) ∷ card drawn ∷ a

-- The run a and one more draw that is heard.
abbrev pub one_passed : {S T : Type 0} → Meaning S T → S → List (Step T) → List (Step T)
one_passed m s a = after_draw (frame_drawn m s (card_calls a)) a

-- The answer due to a frame after the events e, if there is a frame.
abbrev pub answer_if_drawn : {S T : Type 0} → Meaning S T → S → List Event → Option ℕ → Option Answer
answer_if_drawn m s e None = None
answer_if_drawn m s e (Some x) = Some (answer_due m s e x)

-- After the run a the card drew once, and the monitor heard the frame: what it answered, and what the two places then are.
pub record Passed {S T : Type 0} (m : Meaning S T) (s : S) (a : List (Step T)) (answer : Option Answer) (p : Place S T) (g : Gatherer S T) : Type 0 where
  pub answer_is : answer ≡ answer_if_drawn m s (monitor_events a) (frame_drawn m s (card_calls a))
  pub linked : Linked m s (one_passed m s a) p g
  -- if the monitor has heard nothing but this card, that is still so
  pub relayed : Relayed m s a → Relayed m s (one_passed m s a)
  -- and the monitor shows the card's changes
  pub shows : Relayed m s a → FewChangesBetween (change_counts (one_passed m s a)) → ShowsChanges m s (changes (card_calls (one_passed m s a))) (monitor_events (one_passed m s a))
  -- and after a round that was heard, whatever came before it, the record on air is the one shown
  pub arrives : RoundHeard m s (one_passed m s a) → record_due m s (monitor_events (one_passed m s a)) ≡ record_of (current_due m s (card_calls (one_passed m s a)))
