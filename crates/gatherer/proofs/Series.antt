-- The series of a history, and the latest frames in it.
use Rattle.std.proofs.Common.{◌≡◌, ℕ, true, false, eqb, List, [], ◌∷◌, Some, Ok, Option, sym, refl, subst, inl, inr}
use Rattle.std.proofs.lemmas.Bool.{cases_eq, eq-eqb, ne_eqb}
use Rattle.family.specs.Meaning.{Meaning, last_due}
use Rattle.gatherer.specs.Series.{Event, accepted, forgotten, frames_under, series, latest_frame}
use Rattle.gatherer.specs.Agrees.{LawfulFrames}
use Rattle.gatherer.specs.Promises.{In}

module _ {S T : Type 0} (m : Meaning S T) (s : S) where
  -- the latest frame of number i is one of the series, and has the number i
  pub latest_is : (i x : ℕ) (xs : List ℕ) → latest_frame m s i xs ≡ Some x → In x xs × (m.number s x ≡ i)
  latest_is i x [] e = absurd cc
  latest_is i x (y ∷ ys) e =
      elim (cases_eq (m.number s y) i) [
        | inl n ↦ (let t : eqb (m.number s y) i ≡ true = eq-eqb _ _ n in
            let f : ◌≡◌ {A = Option ℕ} (Some y) (Some x) = rw t at e in
            let q : y ≡ x = cc in
            (inl (sym q), rw (← q) n))
        | inr n ↦ (let t : eqb (m.number s y) i ≡ false = ne_eqb _ _ n in
            let p = latest_is i x ys (rw t at e) in
            (inr p.0, p.1))
      ]

  -- one more frame of the sequence number
  pub under_more : (q y : ℕ) (h : List Event) → m.sequence s y ≡ q → frames_under m s q (accepted y ∷ h) ≡ y ∷ frames_under m s q h
  under_more q y h e = let t : eqb (m.sequence s y) q ≡ true = eq-eqb _ _ e in rw t refl

  pub under_none : (q y : ℕ) (h : List Event) → (m.sequence s y ≡ q → ⊥) → frames_under m s q (accepted y ∷ h) ≡ []
  under_none q y h n = let t : eqb (m.sequence s y) q ≡ false = ne_eqb _ _ n in rw t refl

  -- each frame of a series was accepted, and so is lawful
  pub under_all : (q x : ℕ) (h : List Event) → LawfulFrames m s h → In x (frames_under m s q h) → m.lawful s x ≡ true
  under_all q x [] l i = absurd i
  under_all q x (forgotten ∷ h) l i = absurd i
  under_all q x (accepted y ∷ h) l i =
      elim (cases_eq (m.sequence s y) q) [
        | inl e ↦ (let k : In x (y ∷ frames_under m s q h) = subst (In x) (under_more q y h e) i in
            elim k [ inl same ↦ rw same l.0 | inr more ↦ under_all q x h l.1 more ])
        | inr n ↦ absurd (subst (In x) (under_none q y h n) i)
      ]

  pub series_lawful : (x : ℕ) (h : List Event) → LawfulFrames m s h → In x (series m s h) → m.lawful s x ≡ true
  series_lawful x [] l i = absurd i
  series_lawful x (forgotten ∷ h) l i = absurd i
  series_lawful x (accepted y ∷ h) l (inl e) = rw e l.0
  series_lawful x (accepted y ∷ h) l (inr i) = under_all (m.sequence s y) x h l.1 i

  -- the last number is told by a frame 0
  pub last_told : (x : ℕ) → m.lawful s x ≡ true → m.number s x ≡ 0 → last_due m s x ≡ Ok (m.last s x)
  last_told x l n = let e : eqb (m.number s x) 0 ≡ true = eq-eqb _ _ n in rw (l, e) refl

  -- and so by the latest frame 0 of a series
  pub last_told_in : (x : ℕ) (h : List Event) → LawfulFrames m s h → latest_frame m s 0 (series m s h) ≡ Some x → last_due m s x ≡ Ok (m.last s x)
  last_told_in x h l e = let is = latest_is 0 x (series m s h) e in last_told x (series_lawful x h l is.0) is.1
