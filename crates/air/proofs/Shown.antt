-- What the monitor shows at each place, and what the calls of a link come to.
use Rattle.std.proofs.Common.{◌≡◌, ℕ, ◌≤◌, cond, eqb, List, length, None, Ok, Err, Result, sym, ap, ◌∙◌, subst}
use Rattle.pdu.specs.declared.refusal.Refusal.{Refusal}
use Rattle.message.specs.Results.{and_then}
use Rattle.contents.specs.declared.contents.Contents.{Contents}
use Rattle.message.specs.declared.place.Place.TheVariants.{Name, Message, Alert}
use Rattle.family.specs.Meaning.{Laws}
use Rattle.transport.specs.declared.head.Head.{Head}
use Rattle.transport.specs.Transport.{frame_in, read_with}
use Rattle.transport.specs.Families.{Families, PlaceOf, lawful_in, name_place, message_place, alert_place}
use Rattle.gatherer.specs.Due.{record_due}
use Rattle.airing.specs.Calls.{changes}
use Rattle.airing.specs.Due.{frame_drawn, current_due}
use Rattle.airing.specs.Agrees.{LawfulRecords}
use Rattle.airing.specs.Steps.{record_of}
use Rattle.reception.specs.Runs as place
use Rattle.reception.specs.Order.{ShowsChanges}
use Rattle.reception.proofs.Order.{shows_changes}
use Rattle.reception.proofs.Few.{few_changes}
use Rattle.reception.proofs.Arrival.{arrives}
use Rattle.card.specs.declared.station.Station.{Station}
use Rattle.card.specs.declared.card.Card.{Card}
use Rattle.card.specs.Calls.{Call as CardCall, turn_after, turn_of, calls_at}
use Rattle.card.specs.Due.{contents_due}
use Rattle.card.specs.Agrees.{Agrees}
use Rattle.card.proofs.Rounding.{frame_of_turn}
use Rattle.monitor.specs.Calls.{Call as MonitorCall, hearings}
use Rattle.monitor.specs.Due.{message_answer, offer_due}
use Rattle.air.specs.Runs.{Step, card_calls, Relayed}
use Rattle.air.specs.Places.{steps_at, ShowsAt, ShowsTexts}
use Rattle.air.proofs.Projected.{card_part, monitor_part, relayed_part}

module _ {N T M U E V : Type 0} (f : Families N T M U E V) (st : Station) (a : List (Step (Head T U V))) where
  shows_at : {S X : Type 0} (p : PlaceOf S X (Head T U V)) → Laws p.family.meaning → LawfulRecords p.family.meaning p.family.setting (calls_at p (card_calls a)) →
      ((h : List (CardCall (Head T U V))) → frame_in p.place (contents_due f st h).first ≡ cond (eqb (turn_after h) (turn_of p.place)) (frame_drawn p.family.meaning p.family.setting (calls_at p h)) None) →
      Relayed f st a → ShowsAt f p a
  shows_at p laws records given relayed =
      let m = p.family.meaning in
      let s = p.family.setting in
      let xs = steps_at (lawful_in f) p a in
      let calls = card_part (lawful_in f) p a in
      let events = monitor_part (lawful_in f) p a in
      let records_there = subst (LawfulRecords m s) (sym calls) records in
      record {
        changes_shown = λ few. subst (λ e. ShowsChanges m s (changes (calls_at p (card_calls a))) e) events (subst (λ h. ShowsChanges m s (changes h) (place.monitor_events xs)) calls (shows_changes m laws s xs records_there (relayed_part f st p given a relayed) few));
        few_changes = λ short. few_changes m laws s xs records_there (relayed_part f st p given a relayed) (subst (λ h. length (changes h) ≤ 3) (sym calls) short);
        round_shown = λ round. ap (record_due m s) (sym events) ∙ arrives m laws s xs records_there round ∙ ap (λ h. record_of (current_due m s h)) calls;
      }

  pub shows_texts : Laws f.name.meaning → Laws f.message.meaning → Laws f.alert.meaning → (c : Card N M E T U V) → Agrees f st (card_calls a) c → Relayed f st a → ShowsTexts f a
  shows_texts names messages alerts c k relayed = record {
    name = shows_at (name_place f) names k.name_agrees.records_lawful (λ h. frame_of_turn f st h Name (turn_after h)) relayed;
    message = shows_at (message_place f) messages k.message_agrees.records_lawful (λ h. frame_of_turn f st h Message (turn_after h)) relayed;
    alert = shows_at (alert_place f) alerts k.alert_agrees.records_lawful (λ h. frame_of_turn f st h Alert (turn_after h)) relayed;
  }

-- an offer that is refused was not read
pub not_read : {N T M U E V : Type 0} (f : Families N T M U E V) (h : List MonitorCall) (bs : List ℕ) (e : Refusal) → offer_due f h bs ≡ Err e → read_with (lawful_in f) bs ≡ Err e
not_read f h bs e is =
    let P : Result Contents Refusal → Type 0 = λ r. and_then r (λ c. Ok (message_answer f (hearings (lawful_in f) h) c.first)) ≡ Err e → r ≡ Err e in
    let go : (r : Result Contents Refusal) → P r = λ r. elim r as P [ Ok c ↦ λ z. absurd (cc) | Err x ↦ λ z. (let y : x ≡ e = cc in ap Err y) ] in
    go (read_with (lawful_in f) bs) is
