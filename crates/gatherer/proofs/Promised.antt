-- The promises on the record shown, from what the questions answer.
use Rattle.std.proofs.Common.{◌≡◌, ℕ, ◌≤◌, leb, List, length, Some, None, Ok, Err, Option, Result, sym, refl, ap, ◌∙◌, inl, inr}
use Rattle.std.proofs.lemmas.Bool.{le-leb, cases_Bool}
use Rattle.pdu.specs.declared.refusal.Refusal.{Refusal}
use Rattle.pdu.specs.declared.refusal.Refusal.TheVariants.{BufferShort}
use Rattle.family.specs.Meaning.{Meaning, RecordOf, Laws}
use Rattle.gatherer.specs.Series.{Event}
use Rattle.gatherer.specs.Due.{record_due, head_due, length_due, buffer_due, at_front}
use Rattle.gatherer.specs.Promises.{HeadShown, TextShown}
use Rattle.gatherer.proofs.Heard.{heard}
use Rattle.gatherer.proofs.Whole.{whole}

-- a text that fits the buffer is copied
fitting : {T : Type 0} (r : RecordOf T) (found : List ℕ) (answer : Result ℕ Refusal) (left : List ℕ) → answer ≡ length_due (Some r) found → left ≡ buffer_due (Some r) found → length r.text ≤ length found →
    (answer ≡ Ok (length r.text)) × (left ≡ at_front r.text found)
fitting r found answer left a b l = let t = le-leb (length r.text) (length found) l in (a ∙ rw t refl, b ∙ rw t refl)

-- what is copied is a text that is due
copied : {T : Type 0} (o : Option (RecordOf T)) (found : List ℕ) (n : ℕ) → length_due o found ≡ Ok n → (r : RecordOf T) × (o ≡ Some r) × (length r.text ≡ n) × (buffer_due o found ≡ at_front r.text found)
copied None found n e = absurd cc
copied (Some r) found n e =
    elim (cases_Bool (leb (length r.text) (length found))) [
      | inl t ↦ (let f : ◌≡◌ {A = Result ℕ Refusal} (Ok (length r.text)) (Ok n) = rw t at e in (r, refl, (let k : length r.text ≡ n = cc in k), rw t refl))
      | inr t ↦ (let f : ◌≡◌ {A = Result ℕ Refusal} (Err BufferShort) (Ok n) = rw t at e in absurd cc)
    ]

-- a head that is answered is due
answered : {T : Type 0} (o : Option (RecordOf T)) (head : T) → head_due o ≡ Ok head → (r : RecordOf T) × (o ≡ Some r) × (r.head ≡ head)
answered None head e = absurd cc
answered (Some r) head e = (r, refl, (let k : r.head ≡ head = cc in k))

module _ {S T : Type 0} (m : Meaning S T) (laws : Laws m) (s : S) (h : List Event) (o : Option (RecordOf T)) (is : o ≡ record_due m s h) where
  pub head_shown : (answer : Result T Refusal) → answer ≡ head_due o → HeadShown m s h answer
  head_shown answer e =
      let due : answer ≡ head_due (record_due m s h) = e ∙ ap head_due is in
      record {
        due = due;
        heard = λ r w. due ∙ ap head_due (heard m laws s h r w);
        whole = λ head f. let p = answered (record_due m s h) head (sym due ∙ f) in (p.0, p.1, p.2, whole m laws s h p.0 p.1);
      }

  pub text_shown : (found : List ℕ) (answer : Result ℕ Refusal) (left : List ℕ) → answer ≡ length_due o found → left ≡ buffer_due o found → TextShown m s h found answer left
  text_shown found answer left e f =
      let a : answer ≡ length_due (record_due m s h) found = e ∙ ap (λ p. length_due p found) is in
      let b : left ≡ buffer_due (record_due m s h) found = f ∙ ap (λ p. buffer_due p found) is in
      record {
        length_due = a;
        bytes_due = b;
        heard = λ r w l. let d = heard m laws s h r w in fitting r found answer left (a ∙ ap (λ p. length_due p found) d) (b ∙ ap (λ p. buffer_due p found) d) l;
        whole = λ n i. let p = copied (record_due m s h) found n (sym a ∙ i) in (p.0, p.1, p.2, b ∙ p.3, whole m laws s h p.0 p.1);
      }
