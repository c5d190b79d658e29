-- The calls at a place, as its share of the card's calls.
use Rattle.std.proofs.Common.{◌≡◌, ℕ, ◌+◌, Bool, true, false, cond, eqb, List, [], ◌∷◌, ◌++◌, Some, None, Option, sym, refl, ap, ◌∙◌, add-zero, arith}
use Rattle.pdu.specs.declared.refusal.Refusal.{Refusal}
use Rattle.family.specs.Meaning.{RecordOf}
use Rattle.transport.specs.Families.{FamilyOf, PlaceOf}
use Rattle.airing.specs.Calls.{Call as PlaceCall, stored}
use Rattle.card.specs.Calls.{Call, store, withdraw, draw, accepted_draws, store_unless, store_of, call_at, with_call, calls_at}
use Rattle.card.specs.Rounds.{calls_since}

-- a store at a place, made or not, is passed over by what passes over stores
pub store_skipped : {X S T : Type 0} (φ : List (PlaceCall T) → X) → ((r : RecordOf T) (xs : List (PlaceCall T)) → φ (stored r ∷ xs) ≡ φ xs) →
    (b : Bool) (f : FamilyOf S T) (o : Option (RecordOf T)) (xs : List (PlaceCall T)) → φ (with_call (cond b (store_of f o) None) xs) ≡ φ xs
store_skipped φ skips false f o xs = refl
store_skipped φ skips true f None xs = refl
store_skipped {X} {S} {T} φ skips true f (Some r) xs =
    let P : Option Refusal → Type 0 = λ e. φ (with_call (store_unless e r) xs) ≡ φ xs in
    elim (f.meaning.refusal f.setting r) as P [ None ↦ skips r xs | Some e ↦ refl ]

with_call_lem : {T : Type 0} (o : Option (PlaceCall T)) (xs ys : List (PlaceCall T)) → with_call o (xs ++ ys) ≡ with_call o xs ++ ys
with_call_lem None xs ys = refl
with_call_lem (Some c) xs ys = refl

pub calls_split : {S T R : Type 0} (p : PlaceOf S T R) (h since : List (Call R)) → calls_at p (since ++ h) ≡ calls_since p h since ++ calls_at p h
calls_split p h [] = refl
calls_split p h (c ∷ since) = ap (with_call (call_at p (since ++ h) c)) (calls_split p h since) ∙ with_call_lem (call_at p (since ++ h) c) (calls_since p h since) (calls_at p h)

pub draws_split : {R : Type 0} (h since : List (Call R)) → accepted_draws (since ++ h) ≡ accepted_draws h + accepted_draws since
draws_split h [] = sym (add-zero (accepted_draws h))
draws_split h (store n r ∷ since) = draws_split h since
draws_split h (withdraw n ∷ since) = draws_split h since
draws_split h (draw size ∷ since) = let e = draws_split h since in let k : ℕ = cond (eqb size 10) 1 0 in let f : accepted_draws (since ++ h) + k ≡ accepted_draws h + (accepted_draws since + k) = omega arith in f
