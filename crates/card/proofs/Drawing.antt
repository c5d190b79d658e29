-- What a draw comes to, accepted or refused.
use Rattle.std.proofs.Common.{◌≡◌, ℕ, true, false, cond, eqb, List, ◌∷◌, length, Ok, Err, Result, sym, refl, ap, ◌∙◌, subst, add-zero}
use Rattle.std.proofs.lemmas.Bool.{eq-eqb, ne_eqb}
use Rattle.pdu.specs.declared.refusal.Refusal.{Refusal}
use Rattle.pdu.specs.declared.refusal.Refusal.TheVariants.{NotTenBytes}
use Rattle.pdu.specs.Bytes.{taken}
use Rattle.contents.specs.declared.contents.Contents.{Contents}
use Rattle.contents.specs.Contents.{encoded, read_from, write_answer, buffer_after}
use Rattle.message.specs.Results.{and_then}
use Rattle.message.proofs.Ranges.{then_ok}
use Rattle.family.specs.Meaning.{Laws}
use Rattle.transport.specs.declared.head.Head.{Head}
use Rattle.transport.specs.Transport.{if_lawful, read_with}
use Rattle.transport.specs.Families.{Families, lawful_in}
use Rattle.card.specs.declared.station.Station.{Station}
use Rattle.card.specs.declared.card.Card.{Card}
use Rattle.card.specs.Calls.{Call, draw, accepted_draws}
use Rattle.card.specs.Due.{contents_due}
use Rattle.card.specs.Agrees.{Agrees, DrawnSo}
use Rattle.card.proofs.Rounding.{name_once, message_once, alert_once}
use Rattle.card.proofs.Written.{due_written}

is_taken : (found : List ℕ) → eqb (length found) 10 ≡ true → taken found ≡ Ok (record { bytes = found })
is_taken found t = rw t refl

not_taken : (found : List ℕ) → eqb (length found) 10 ≡ false → taken found ≡ Err NotTenBytes
not_taken found t = rw t refl

module _ {N T M U E V : Type 0} (f : Families N T M U E V) (st : Station) (h : List (Call (Head T U V))) (names : Laws f.name.meaning) (messages : Laws f.message.meaning) (alerts : Laws f.alert.meaning) where
  drawn_so : (found left : List ℕ) (answer : Result (Unit {0}) Refusal) (k : Card N M E T U V) → answer ≡ cond (eqb (length found) 10) (Ok tt) (Err NotTenBytes) → left ≡ buffer_after (contents_due f st h) found →
      (length found ≡ 10 → encoded (contents_due f st h) ≡ Ok (record { bytes = left })) → (length found ≡ 10 → read_with (lawful_in f) left ≡ Ok (contents_due f st h)) → Agrees f st (draw (length found) ∷ h) k → DrawnSo f st h found answer left k
  drawn_so found left answer k a b w r agrees = record {
    answer_is = a;
    bytes_are = b;
    pdu_is = w;
    read_again = r;
    agrees = agrees;
    name_round = name_once f st names (draw (length found) ∷ h) agrees.name_agrees.records_lawful;
    message_round = message_once f st messages (draw (length found) ∷ h) agrees.message_agrees.records_lawful;
    alert_round = alert_once f st alerts (draw (length found) ∷ h) agrees.alert_agrees.records_lawful;
  }

  -- a buffer of another length
  pub refused : (found : List ℕ) (k : Card N M E T U V) → (length found ≡ 10 → ⊥) → Agrees f st h k → DrawnSo f st h found (Err NotTenBytes) found k
  refused found k other agrees =
      let t = ne_eqb (length found) 10 other in
      drawn_so found found (Err NotTenBytes) k (rw t refl) (sym (ap (λ r. elim (and_then r (λ _. encoded (contents_due f st h))) [ Ok p ↦ p.bytes | Err e ↦ found ]) (not_taken found t))) (λ e. absurd (other e)) (λ e. absurd (other e)) (record {
        station_fits = agrees.station_fits;
        station_is = agrees.station_is;
        turn_is = rw (t, add-zero (accepted_draws h)) agrees.turn_is;
        name_agrees = rw t agrees.name_agrees;
        message_agrees = rw t agrees.message_agrees;
        alert_agrees = rw t agrees.alert_agrees;
      })

  -- c is the card as found, k as left, and d the contents that were written
  pub drew : (found left : List ℕ) (answer : Result (Unit {0}) Refusal) (c k : Card N M E T U V) (d : Contents) → length found ≡ 10 → Agrees f st h c → d ≡ contents_due f st h → Agrees f st (draw 10 ∷ h) k →
      answer ≡ write_answer d found → left ≡ buffer_after d found → (answer ≡ Ok tt → read_from left ≡ Ok d) → DrawnSo f st h found answer left k
  drew found left answer c k d ten agrees is agrees' a b r =
      let t = eq-eqb (length found) 10 ten in
      let w = due_written f st h names messages alerts agrees.station_fits agrees.name_agrees.records_lawful agrees.message_agrees.records_lawful agrees.alert_agrees.records_lawful in
      let written : encoded d ≡ Ok w.pdu = ap encoded is ∙ w.written in
      let accepted : answer ≡ Ok tt = a ∙ rw (t, written) refl in
      let due = contents_due f st h in
      let said : read_from left ≡ Ok due = r accepted ∙ ap Ok is in
      let spelled : left ≡ w.pdu.bytes =
      b ∙ ap (λ x. elim (and_then x (λ _. encoded d)) [ Ok p ↦ p.bytes | Err e ↦ found ]) (is_taken found t) ∙ ap (λ x. elim x [ Ok p ↦ p.bytes | Err e ↦ found ]) written in
      drawn_so found left answer k (accepted ∙ rw t refl) (b ∙ ap (λ x. buffer_after x found) is) (λ _. w.written ∙ ap (λ l. Ok (record { bytes = l })) (sym spelled))
      (λ _. then_ok (read_from left) due (λ x. if_lawful (lawful_in f) x x) said ∙ rw w.lawful_frames refl) (subst (λ (n : ℕ). Agrees f st (draw n ∷ h) k) (sym ten) agrees')
