-- One draw that is heard, from what the card and the monitor did.
use Rattle.std.proofs.Common.{◌≡◌, ℕ, List, ◌∷◌, Some, None, Option, refl, ap, ◌∙◌, subst}
use Rattle.family.specs.Meaning.{Meaning, Laws}
use Rattle.gatherer.specs.declared.answer.Answer.{Answer}
use Rattle.gatherer.specs.declared.gatherer.Gatherer.{Gatherer}
use Rattle.gatherer.specs.Agrees as Monitor
use Rattle.airing.specs.declared.place.Place.{Place}
use Rattle.airing.specs.Calls.{drawn}
use Rattle.airing.specs.Due.{frame_drawn}
use Rattle.airing.specs.Agrees as Card
use Rattle.reception.specs.Runs.{Step, card_calls, monitor_events, Relayed}
use Rattle.reception.specs.Linked.{Linked, Passed, after_draw, one_passed, answer_if_drawn}
use Rattle.reception.proofs.Order.{shows_changes}
use Rattle.reception.proofs.Arrival.{arrives}

module _ {S T : Type 0} (m : Meaning S T) (laws : Laws m) (s : S) (a : List (Step T)) (p : Place S T) (g : Gatherer S T) where
  -- the run after a draw that gave a frame or none
  linked_after : (o : Option ℕ) → Card.Agrees m s (drawn ∷ card_calls a) p → Monitor.Agrees m s (monitor_events (after_draw o a)) g → Linked m s (after_draw o a) p g
  linked_after None k l = record { card_agrees = k; monitor_agrees = l }
  linked_after (Some x) k l = record { card_agrees = k; monitor_agrees = l }

  relayed_after : (o : Option ℕ) → frame_drawn m s (card_calls a) ≡ o → Relayed m s a → Relayed m s (after_draw o a)
  relayed_after None e relayed = relayed
  relayed_after (Some x) e relayed = (e, relayed)

  pub passed : (o : Option ℕ) (answer : Option Answer) → o ≡ frame_drawn m s (card_calls a) → answer ≡ answer_if_drawn m s (monitor_events a) o →
      Card.Agrees m s (drawn ∷ card_calls a) p → Monitor.Agrees m s (monitor_events (after_draw o a)) g → Passed m s a answer p g
  passed o answer is due k l =
      let linked : Linked m s (one_passed m s a) p g = linked_after (frame_drawn m s (card_calls a)) k (subst (λ v. Monitor.Agrees m s (monitor_events (after_draw v a)) g) is l) in
      let relayed : Relayed m s a → Relayed m s (one_passed m s a) = relayed_after (frame_drawn m s (card_calls a)) refl in
      record {
        answer_is = due ∙ ap (answer_if_drawn m s (monitor_events a)) is;
        linked = linked;
        relayed = relayed;
        shows = λ r few. shows_changes m laws s (one_passed m s a) linked.card_agrees.records_lawful (relayed r) few;
        arrives = arrives m laws s (one_passed m s a) linked.card_agrees.records_lawful;
      }
