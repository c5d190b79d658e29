-- The changes of a run, counted.
use Rattle.std.proofs.Common.{◌≡◌, ℕ, ◌+◌, Bool, true, false, cond, ◌&&◌, eqb, List, [], ◌∷◌, length, Some, None, Ok, Err, Option, Result, sym, refl, ap, ◌∙◌, inl, inr, add-zero, add-one, arith}
use Rattle.std.proofs.lemmas.Bool.{cases_eq, eq-eqb, ne_eqb, and_right}
use Rattle.pdu.specs.declared.refusal.Refusal.{Refusal}
use Rattle.message.specs.Place.{place_number}
use Rattle.family.specs.Meaning.{RecordOf, unless}
use Rattle.transport.specs.declared.head.Head.{Head}
use Rattle.transport.specs.Families.{FamilyOf, Families, PlaceOf}
use Rattle.airing.specs.declared.stored.Stored.{Stored}
use Rattle.airing.specs.declared.stored.Stored.TheVariants.{Changed, Unchanged}
use Rattle.airing.specs.Calls.{Call as PlaceCall, drawn, is_change, changes}
use Rattle.airing.specs.Due.{answer_due}
use Rattle.card.specs.Calls.{Call as CardCall, store, draw, turn_after, turn_of, own_record, store_unless, store_of, with_call, calls_at}
use Rattle.card.specs.Due.{own_store_due, store_due_at, store_due}
use Rattle.air.specs.Runs.{Step, card, card_calls}
use Rattle.bench.specs.declared.tally.Changes.{Changes}
use Rattle.bench.specs.Counts.{stopped, counted_if, is_changed, changes_after}
use Rattle.bench.specs.Ran.{changes_in, with_offers}

-- one more change, where an own record was answered so
own_counted : {S T : Type 0} (f : FamilyOf S T) (o : Option (RecordOf T)) (h : List (PlaceCall T)) →
    length (changes (with_call (store_of f o) h)) ≡ length (changes h) + cond (is_changed (own_store_due f o (answer_due h))) 1 0
own_counted f None h = sym (add-zero (length (changes h)))
own_counted f (Some r) h =
    let Q : Bool → Type 0 = λ b. length (cond b (r ∷ changes h) (changes h)) ≡ length (changes h) + cond (is_changed (Ok (cond b Changed Unchanged))) 1 0 in
    let lawful : (b : Bool) → Q b = λ b. elim b as Q [ true ↦ sym (add-one (length (changes h))) | false ↦ sym (add-zero (length (changes h))) ] in
    let P : Option Refusal → Type 0 = λ e. length (changes (with_call (store_unless e r) h)) ≡ length (changes h) + cond (is_changed (unless e (Ok (answer_due h r)))) 1 0 in
    elim (f.meaning.refusal f.setting r) as P [ None ↦ lawful (is_change h r) | Some e ↦ sym (add-zero (length (changes h))) ]

-- a refused store counts nothing
pub refused_counts_none : (n : ℕ) (answer : Result Stored Refusal) (e : Refusal) (c : Changes) → answer ≡ Err e → changes_after n answer c ≡ c
refused_counts_none n answer e c is = rw (is, and_right (eqb n 2) false refl, and_right (eqb n 5) false refl, and_right (eqb n 9) false refl) refl

-- the count goes on with the changes
count_step : (b : Bool) (count before after : ℕ) → count ≡ stopped before → after ≡ before + cond b 1 0 → counted_if b count ≡ stopped after
count_step true count before after e f = omega arith
count_step false count before after e f = omega arith

module _ {S T R : Type 0} (p : PlaceOf S T R) (h : List (CardCall R)) (n : ℕ) (r : RecordOf R) where
  -- a store at the place, and one at another
  pub counted_here : n ≡ place_number p.place → (answer : Result Stored Refusal) → answer ≡ store_due_at p h r →
      length (changes (calls_at p (store n r ∷ h))) ≡ length (changes (calls_at p h)) + cond (eqb n (place_number p.place) && is_changed answer) 1 0
  counted_here number answer is = rw (eq-eqb n (place_number p.place) number, is) (own_counted p.family (own_record p r) (calls_at p h))

  pub counted_elsewhere : (n ≡ place_number p.place → ⊥) → (answer : Result Stored Refusal) →
      length (changes (calls_at p (store n r ∷ h))) ≡ length (changes (calls_at p h)) + cond (eqb n (place_number p.place) && is_changed answer) 1 0
  counted_elsewhere other answer = rw (ne_eqb n (place_number p.place) other) (sym (add-zero (length (changes (calls_at p h)))))

module _ {N T M U E V : Type 0} (f : Families N T M U E V) (a : List (Step (Head T U V))) (n : ℕ) (r : RecordOf (Head T U V)) (answer : Result Stored Refusal) (is : answer ≡ store_due f (card_calls a) n r) where
  -- the count of a place, of whose number the answer due is that of the place
  pub counted_at : {S X : Type 0} (p : PlaceOf S X (Head T U V)) → store_due f (card_calls a) (place_number p.place) r ≡ store_due_at p (card_calls a) r → (count : ℕ) → count ≡ stopped (changes_in p a) →
      counted_if (eqb n (place_number p.place) && is_changed answer) count ≡ stopped (changes_in p (card (store n r) ∷ a))
  counted_at p due count e =
      count_step (eqb n (place_number p.place) && is_changed answer) count _ _ e
      (elim (cases_eq n (place_number p.place)) [ inl same ↦ counted_here p (card_calls a) n r same answer (is ∙ ap (λ (k : ℕ). store_due f (card_calls a) k r) same ∙ due) | inr other ↦ counted_elsewhere p (card_calls a) n r other answer ])

-- offers are no calls of the card
pub offers_skipped : {R : Type 0} (os : List (List ℕ)) (a : List (Step R)) → card_calls (with_offers os a) ≡ card_calls a
offers_skipped [] a = refl
offers_skipped (bs ∷ os) a = offers_skipped os a

-- neither a draw nor an offer is a change
pub draw_no_change : {S T R : Type 0} (p : PlaceOf S T R) (os : List (List ℕ)) (a : List (Step R)) → changes_in p (with_offers os (card (draw 10) ∷ a)) ≡ changes_in p a
draw_no_change p os a =
    let P : Bool → Type 0 = λ b. length (changes (with_call (cond b (Some drawn) None) (calls_at p (card_calls a)))) ≡ changes_in p a in
    let at_turn : (b : Bool) → P b = λ b. elim b as P [ true ↦ refl | false ↦ refl ] in
    ap (λ h. length (changes (calls_at p h))) (offers_skipped os (card (draw 10) ∷ a)) ∙ at_turn (eqb (turn_after (card_calls a)) (turn_of p.place))
