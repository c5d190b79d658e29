-- A store, at its place and at the others.
use Rattle.std.proofs.Common.{◌≡◌, ℕ, List, ◌∷◌, Some, None, Err, Option, Result, refl, ap, ◌∙◌, eqb, false, inl, inr, subst}
use Rattle.std.proofs.lemmas.Bool.{eq-eqb, cases_eq, ne_eqb}
use Rattle.pdu.specs.declared.refusal.Refusal.{Refusal}
use Rattle.message.specs.declared.place.Place.{Place}
use Rattle.message.specs.declared.place.Place.TheVariants.{Name, Message, Alert}
use Rattle.message.specs.Place.{place_number, place_with}
use Rattle.family.specs.Meaning.{RecordOf}
use Rattle.transport.specs.Families.{PlaceOf}
use Rattle.transport.proofs.Places.{place_number_lem}
use Rattle.airing.specs.declared.place.Place.{Place as AiredPlace}
use Rattle.airing.specs.declared.stored.Stored.{Stored}
use Rattle.airing.specs.Calls.{Call as PlaceCall}
use Rattle.airing.specs.Agrees.{Agrees as AgreesAt, Accepted}
use Rattle.card.specs.Calls.{Call, store, with_head, own_record, calls_at}
use Rattle.card.specs.Due.{store_due_at}
use Rattle.card.specs.Agrees.{PlaceAgrees}

-- What a store comes to at its place: the answer due, and the place as it agrees with the longer list.
pub record StoredAt {S T R : Type 0} (p : PlaceOf S T R) (h : List (Call R)) (n : ℕ) (r : RecordOf R) (answer : Result Stored Refusal) (a : AiredPlace S T) : Type 0 where
  pub answer_is : answer ≡ store_due_at p h r
  pub agrees : PlaceAgrees p (store n r ∷ h) a

-- a is the place as found, and b as left by its own store of the record r, which has the head x
pub stored_at : {S T R : Type 0} (p : PlaceOf S T R) (h : List (Call R)) (n : ℕ) (r : RecordOf R) (x : T) (answer : Result Stored Refusal) (a b : AiredPlace S T) →
    place_with n ≡ Some p.place → p.own_head r.head ≡ Some x → PlaceAgrees p h a →
    ((e : Refusal) → p.family.meaning.refusal a.family (record { head = x; text = r.text }) ≡ Some e → answer ≡ Err e) → ((e : Refusal) → answer ≡ Err e → b ≡ a) →
    ((s : S) (c : List (PlaceCall T)) → AgreesAt p.family.meaning s c a → p.family.meaning.refusal s (record { head = x; text = r.text }) ≡ None → Accepted p.family.meaning s c (record { head = x; text = r.text }) answer b) → StoredAt p h n r answer b
stored_at {S} {T} {R} p h n r x answer a b place head agrees refuses unchanged accepts =
    let m = p.family.meaning in
    let s = p.family.setting in
    let y : RecordOf T = record { head = x; text = r.text } in
    let t = eq-eqb n (place_number p.place) (place_number_lem n p.place place) in
    let own : own_record p r ≡ Some y = ap (λ v. with_head v r.text) head in
    let P : Option Refusal → Type 0 = λ o. m.refusal s y ≡ o → StoredAt p h n r answer b in
    let go : (o : Option Refusal) → P o = λ o. elim o as P [
      | None ↦ λ lawful. (let k = accepts s (calls_at p h) agrees lawful in record { answer_is = rw (own, lawful) k.answer_is; agrees = rw (t, own, lawful) k.agrees })
      | Some e ↦ λ refused.
          (let is = refuses e (ap (λ v. m.refusal v y) agrees.family_is ∙ refused) in record { answer_is = rw (own, refused) is; agrees = rw (t, own, refused, unchanged e is) agrees })
    ] in
    go (m.refusal s y) refl

given : (p : Place) → place_with (place_number p) ≡ None → ⊥
given Name e = cc
given Message e = cc
given Alert e = cc

-- a number that is no place's is not that of any
pub no_place : (n : ℕ) (p : Place) → place_with n ≡ None → eqb n (place_number p) ≡ false
no_place n p e = elim (cases_eq n (place_number p)) [ inl same ↦ absurd (given p (subst (λ k. place_with k ≡ None) same e)) | inr other ↦ ne_eqb n (place_number p) other ]
