-- Both frames of a record, accepted in turn.
use Rattle.std.proofs.Common.{◌≡◌, ℕ, ◌<◌, Bool, ◌&&◌, ltb, List, [], ◌∷◌, get_or, Some, None, Ok, Err, Option, Result, refl, inl, inr}
use Rattle.std.proofs.lemmas.Bool.{ltb-true, and_parts, cases_Bool}
use Rattle.pdu.specs.declared.refusal.Refusal.{Refusal}
use Rattle.pdu.specs.declared.refusal.Refusal.TheVariants.{OutOfRange}
use Rattle.family.specs.Meaning.{RecordOf, Fit, unless, frame_due}
use Rattle.gatherer.specs.Series.{Event}
use Rattle.gatherer.specs.Promises.{HeardWhole, accepted_after}
use Rattle.gatherer_tests.specs.declared.two.Two.{Two}
use Rattle.gatherer_tests.specs.Two.{meaning_of_two}

not_refused : {A : Type 0} (o : Option Refusal) (a : Result A Refusal) (x : A) → unless o a ≡ Ok x → (o ≡ None) × (a ≡ Ok x)
not_refused None a x e = (refl, e)
not_refused (Some f) a x e = absurd cc

-- a frame that is given is that of the cut
pub given : (s : Two) (r : RecordOf Bool) (q i x : ℕ) → frame_due meaning_of_two s r q i ≡ Ok x → (meaning_of_two.refusal s r ≡ None) × (q < 4) × (x ≡ get_or (meaning_of_two.cut s r q) i 0)
given s r q i x e =
    let n = not_refused (meaning_of_two.refusal s r) _ x e in
    elim (cases_Bool (ltb q 4 && ltb i 2)) [
      | inl t ↦ (let f : ◌≡◌ {A = Result ℕ Refusal} (Ok (get_or (meaning_of_two.cut s r q) i 0)) (Ok x) = rw t at n.1 in
          (n.0, ltb-true _ _ (and_parts (ltb q 4) (ltb i 2) t).0, (let k : x ≡ get_or (meaning_of_two.cut s r q) i 0 = cc in k)))
      | inr t ↦ (let f : ◌≡◌ {A = Result ℕ Refusal} (Err OutOfRange) (Ok x) = rw t at n.1 in absurd cc)
    ]

pub both_heard : (s : Two) (h : List Event) (r : RecordOf Bool) (q a b : ℕ) → Fit meaning_of_two s r q → a ≡ get_or (meaning_of_two.cut s r q) 0 0 → b ≡ get_or (meaning_of_two.cut s r q) 1 0 → HeardWhole meaning_of_two s (accepted_after (a ∷ b ∷ []) h) r
both_heard s h r q a b fit e f = record {
  sequence = q;
  fits = fit;
  frames = a ∷ b ∷ [];
  before = h;
  events = refl;
  every_frame = λ x i. rw (e, f) i;
  no_other = λ x i. rw (e, f) at i;
}
