-- The slots of a table, against a series.
use Rattle.std.proofs.Common.{◌≡◌, ℕ, zero, suc, ◌+◌, ◌<◌, ◌≤◌, true, false, List, [], ◌∷◌, ◌++◌, length, get_or, take, set, replicate, Some, None, Option, sym, refl, ap, ap₂, ◌∙◌, inl, inr, add-one, arith}
use Rattle.std.specs.Option.{is_none}
use Rattle.std.proofs.lemmas.Bool.{cases_eq}
use Rattle.std.proofs.lemmas.List.{length-set}
use Rattle.std.proofs.Math.Seq.{take-suc-set}
use Rattle.family.specs.Meaning.{Meaning}
use Rattle.gatherer.specs.declared.gatherer.Table.{Table}
use Rattle.gatherer.specs.Series.{frames_told, frames_below, frames_up_to, full_series, appended}
use Rattle.gatherer.specs.Agrees.{Slots, slot, held_below}

pub none_held : (n i : ℕ) → get_or (replicate {A = Option ℕ} n None) i None ≡ None
none_held zero i = refl
none_held (suc n) zero = refl
none_held (suc n) (suc i) = none_held n i

appended_none : (o : Option (List ℕ)) → appended o None ≡ None
appended_none None = refl
appended_none (Some xs) = refl

-- the first i frames are those in the slots below i
pub record Copied (t : Table) (frames : List ℕ) (i : ℕ) : Type 0 where
  pub whole : length frames ≡ 64
  pub held : held_below t i ≡ Some (take i frames)

pub copied_more : (t : Table) (frames : List ℕ) (i x : ℕ) → Copied t frames i → i < 64 → slot t i ≡ Some x → Copied t (set frames i x) (i + 1)
copied_more t frames i x k l e =
    let before = k.held in
    let more : take (suc i) (set frames i x) ≡ take i frames ++ (x ∷ []) = take-suc-set frames i x (omega (arith, k.whole)) in
    record { whole = length-set frames i x ∙ k.whole; held = rw (add-one i, before, e) (ap Some (sym more)) }

none_is : (o : Option ℕ) → is_none o ≡ true → o ≡ None
none_is None e = refl
none_is (Some x) e = absurd cc

some_is : (o : Option ℕ) → is_none o ≡ false → (x : ℕ) × (o ≡ Some x)
some_is None e = absurd cc
some_is (Some x) e = (x, refl)

-- none of the slots below i is empty
pub record Unbroken (t : Table) (i : ℕ) : Type 0 where
  pub frames : List ℕ
  pub held : held_below t i ≡ Some frames

pub unbroken_more : (t : Table) (i : ℕ) → Unbroken t i → is_none (slot t i) ≡ false → Unbroken t (i + 1)
unbroken_more t i k e =
    let here = some_is (slot t i) e in
    let more : held_below t (suc i) ≡ Some (k.frames ++ (here.0 ∷ [])) = ap₂ appended k.held here.1 in
    record { frames = k.frames ++ (here.0 ∷ []); held = rw (add-one i) more }

-- one of the slots below n is empty
pub held_none : (t : Table) (n k : ℕ) → k < n → slot t k ≡ None → held_below t n ≡ None
held_none t zero k l e = absurd (omega arith)
held_none t (suc n) k l e =
    elim (cases_eq k n) [
      | inl same ↦ rw (← same, e) (appended_none (held_below t k))
      | inr other ↦ (let before : held_below t n ≡ None = held_none t n k (omega arith) e in rw before refl)
    ]

-- nor are all of them held then
pub gap_below : (t : Table) (n k : ℕ) → k < n → is_none (slot t k) ≡ true → true ≡ is_none (held_below t n)
gap_below t n k l e = ap is_none (sym (held_none t n k l (none_is (slot t k) e)))

-- the frames held are the latest of the series
held_frames : {S T : Type 0} (m : Meaning S T) (s : S) (xs : List ℕ) (t : Table) → Slots m s xs t → (n : ℕ) → n ≤ 64 → held_below t n ≡ frames_below m s xs n
held_frames m s xs t slots zero h = refl
held_frames m s xs t slots (suc n) h =
    let before = held_frames m s xs t slots n (omega arith) in
    let here = slots n (omega arith) in
    rw (before, here) refl

-- if n frames are told, those held below n are the full series
pub held_full : {S T : Type 0} (m : Meaning S T) (s : S) (xs : List ℕ) (t : Table) → Slots m s xs t → (n : ℕ) → n ≤ 64 → frames_told m s xs ≡ Some n → full_series m s xs ≡ held_below t n
held_full m s xs t slots n few told = ap (frames_up_to m s xs) told ∙ sym (held_frames m s xs t slots n few)
