-- An offer, from what its parts did.
use Rattle.std.proofs.Common.{◌≡◌, ℕ, ◌+◌, min, Bool, true, false, cond, eqb, List, ◌∷◌, Some, None, Ok, Err, Option, Result, sym, refl, ap, ◌∙◌, arith}
use Rattle.std.specs.Option.{ok_or}
use Rattle.pdu.specs.declared.refusal.Refusal.{Refusal}
use Rattle.pdu.specs.declared.refusal.Refusal.TheVariants.{UnlawfulFrame}
use Rattle.family.specs.Meaning.{Meaning, RecordOf}
use Rattle.family.specs.Texts.{join_view}
use Rattle.family.specs.declared.text.Record.{Record}
use Rattle.gatherer.specs.declared.answer.Answer.{Answer}
use Rattle.gatherer.specs.declared.answer.Answer.TheVariants.{Incomplete, DoesNotJoin}
use Rattle.gatherer.specs.declared.gatherer.Gatherer.{Gatherer}
use Rattle.gatherer.specs.Answers.{number_of}
use Rattle.gatherer.specs.Series.{Event, accepted}
use Rattle.gatherer.specs.Due.{Outcome, not_full, no_record, joins_to, joined_outcome, attempted, record_due, shown_after, answer_to, answer_due, fresh_due, times_newly_shown, refusal_in, refusal_due}
use Rattle.gatherer.specs.Agrees.{Holds, Taken, attempt_view, attempt_due}

-- a frame that is not refused is lawful
pub lawful_if_taken : {S T A : Type 0} (m : Meaning S T) (s : S) (x : ℕ) (r : Result A Refusal) (a : A) → r ≡ Ok a → refusal_in r ≡ refusal_due m s x → m.lawful s x ≡ true
lawful_if_taken m s x r a is e =
    let P : Bool → Type 0 = λ b. cond b None (Some UnlawfulFrame) ≡ refusal_in r → b ≡ true in
    let go : (b : Bool) → P b = λ b. elim b as P [
      | true ↦ λ f. refl
      | false ↦ λ f. absurd (let g : Some UnlawfulFrame ≡ None = f ∙ ap refusal_in is in cc)
    ] in
    go (m.lawful s x) (sym e)

-- the count stops where the number of answers 2 passes it
counted : (b : Bool) (times before after : ℕ) → before ≡ min times 4294967295 → after ≡ cond b (min (before + 1) 4294967295) before → after ≡ min (times + cond b 1 0) 4294967295
counted true times before after e f = omega arith
counted false times before after e f = omega arith

-- an attempt that gives an answer shows nothing new
pub answered : {T : Type 0} (before : Option (RecordOf T)) (o : Outcome T) (a : Answer) → Err a ≡ attempt_due o → (a ≡ answer_to before o) × (before ≡ shown_after before o) × (eqb (number_of a) 2 ≡ false)
answered before not_full a e = let is : a ≡ Incomplete = cc in (is, refl, rw is refl)
answered before no_record a e = let is : a ≡ DoesNotJoin = cc in (is, refl, rw is refl)
answered before (joins_to r) a e = absurd cc

pub joined : {T : Type 0} (o : Outcome T) (r : RecordOf T) → Ok r ≡ attempt_due o → o ≡ joins_to r
joined not_full r e = absurd cc
joined no_record r e = absurd cc
joined (joins_to q) r e = let is : q ≡ r = cc in ap joins_to is

-- what a full series comes to
pub attempt_joined : {T : Type 0} (o : Option (Record T)) → attempt_view (ok_or o DoesNotJoin) ≡ attempt_due (joined_outcome (join_view o))
attempt_joined None = refl
attempt_joined (Some r) = refl

-- g is the gatherer as it holds the frame, and k as it has answered
pub offered : {S T : Type 0} (m : Meaning S T) (s : S) (h : List Event) (x : ℕ) (g k : Gatherer S T) (a : Answer) →
    Holds m s (accepted x ∷ h) g → join_view g.shown ≡ record_due m s h → g.fresh ≡ fresh_due m s h →
    a ≡ answer_to (join_view g.shown) (attempted m s (accepted x ∷ h)) → join_view k.shown ≡ shown_after (join_view g.shown) (attempted m s (accepted x ∷ h)) →
    k.fresh ≡ cond (eqb (number_of a) 2) (min (g.fresh + 1) 4294967295) g.fresh →
    k.family ≡ g.family → k.sequence ≡ g.sequence → k.table ≡ g.table → Taken m s h x (Ok a) k
offered m s h x g k a holds shown fresh is shows counts family sequence table =
    let o = attempted m s (accepted x ∷ h) in
    let due : a ≡ answer_due m s h x = is ∙ ap (λ p. answer_to p o) shown in
    record {
      answer_is = ap Ok due;
      agrees = record {
        holds = record { family_is = family ∙ holds.family_is; frames_lawful = holds.frames_lawful; sequence_is = sequence ∙ holds.sequence_is; slots_are = rw table holds.slots_are };
        shown_is = shows ∙ ap (λ p. shown_after p o) shown;
        fresh_is = counted (eqb (number_of a) 2) (times_newly_shown m s h) g.fresh k.fresh fresh counts ∙ ap (λ v. min (times_newly_shown m s h + cond (eqb (number_of v) 2) 1 0) 4294967295) due;
      };
    }
