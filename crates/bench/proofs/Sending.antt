-- What a fade leaves of a PDU, from what the monitor heard.
use Rattle.std.proofs.Common.{◌≡◌, ℕ, Bool, true, false, ◌&&◌, List, ◌∷◌, Some, None, Ok, Err, Option, Result, sym, refl, ap, ◌∙◌, arith}
use Rattle.pdu.specs.declared.refusal.Refusal.{Refusal}
use Rattle.pdu.specs.declared.pdu.Pdu.{Pdu}
use Rattle.transport.specs.declared.head.Head.{Head}
use Rattle.transport.specs.Families.{Families, name_place, message_place, alert_place}
use Rattle.card.specs.Calls.{draw}
use Rattle.card.specs.declared.station.Station.{Station}
use Rattle.gatherer.specs.declared.answer.Answer.{Answer}
use Rattle.monitor.specs.Calls.{offer}
use Rattle.air.specs.declared.link.Link.{Link}
use Rattle.air.specs.Runs.{Step, card, monitor, Relayed}
use Rattle.air.specs.Linked.{HeardSo, SpoiltSo}
use Rattle.bench.specs.declared.bench.Bench.{Bench}
use Rattle.fading.specs.declared.fade.Fade.{Fade}
use Rattle.fading.specs.declared.fade.Fade.TheVariants.{Heard, Doubled, Turned}
use Rattle.fading.specs.Fades.{bit_turned}
use Rattle.bench.specs.Counts.{stopped, counted_if, is_turned, is_accepted, tally_after_pdu}
use Rattle.bench.specs.Ran.{Ran, offers_of, passed_run, SentSo}
use Rattle.bench.proofs.Counting.{draw_no_change}

module _ {N T M U E V : Type 0} (f : Families N T M U E V) (st : Station) (a : List (Step (Head T U V))) (p : Pdu) where
  pub sent_once : (r : Result (Option Answer) Refusal) (l : Link N M E T U V) → HeardSo f st a p r l → SentSo f st a p.bytes Heard (Some r) None l
  sent_once r l k = record { first_is = ap Some k.offered.answer_is; second_is = refl; linked = k.offered.linked; relayed = λ _. k.relayed }

  pub sent_twice : (r q : Result (Option Answer) Refusal) (l m : Link N M E T U V) → HeardSo f st a p r l → HeardSo f st (monitor (offer p.bytes) ∷ a) p q m → SentSo f st a p.bytes Doubled (Some r) (Some q) m
  sent_twice r q l m k j = record { first_is = ap Some k.offered.answer_is; second_is = ap Some j.offered.answer_is; linked = j.offered.linked; relayed = λ _ relayed. j.relayed (k.relayed relayed) }

  refused_if : (bit : ℕ) (r : Result (Option Answer) Refusal) → ((e : Refusal) → r ≡ Err e → Relayed f st a → Relayed f st (monitor (offer (bit_turned bit p.bytes)) ∷ a)) → is_accepted (Some r) ≡ false →
      Relayed f st a → Relayed f st (monitor (offer (bit_turned bit p.bytes)) ∷ a)
  refused_if bit (Ok x) k e = cc
  refused_if bit (Err x) k e = k x refl

  pub sent_turned : (bit : ℕ) (r : Result (Option Answer) Refusal) (l : Link N M E T U V) → SpoiltSo f st a (bit_turned bit p.bytes) r l → SentSo f st a p.bytes (Turned bit) (Some r) None l
  sent_turned bit r l k = record { first_is = ap Some k.offered.answer_is; second_is = refl; linked = k.offered.linked; relayed = refused_if bit r k.relayed }

-- a count that is zero after was zero before, and nothing was counted
none_counted : (b : Bool) (n : ℕ) → counted_if b n ≡ 0 → (b ≡ false) × (n ≡ 0)
none_counted true n e = absurd (omega arith)
none_counted false n e = (refl, e)

-- b is the bench as found, l its link with the PDU drawn, and d the bench as left
pub passed : {N T M U E V : Type 0} (f : Families N T M U E V) (st : Station) (a : List (Step (Head T U V))) (fade : Fade) (p : Pdu) (first second : Option (Result (Option Answer) Refusal)) (b d : Bench N M E T U V) →
    Ran f st a b → SentSo f st (card (draw 10) ∷ a) p.bytes fade first second d.link → d.tally ≡ tally_after_pdu fade first b.tally → Ran f st (passed_run fade p a) d
passed f st a fade p first second b d k s t = record {
  linked = s.linked;
  relayed = λ zero. (let z = none_counted (is_turned fade && is_accepted first) b.tally.turned_accepted (sym (ap (λ x. x.turned_accepted) t) ∙ zero) in s.relayed z.0 (k.relayed z.1));
  name_changes = ap (λ x. x.changes.name) t ∙ k.name_changes ∙ ap stopped (sym (draw_no_change (name_place f) (offers_of fade p.bytes) a));
  message_changes = ap (λ x. x.changes.message) t ∙ k.message_changes ∙ ap stopped (sym (draw_no_change (message_place f) (offers_of fade p.bytes) a));
  alert_changes = ap (λ x. x.changes.alert) t ∙ k.alert_changes ∙ ap stopped (sym (draw_no_change (alert_place f) (offers_of fade p.bytes) a));
}
