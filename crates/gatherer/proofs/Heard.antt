-- A record whose cut was heard whole is due.
use Rattle.std.proofs.Common.{◌≡◌, ℕ, zero, suc, ◌<◌, ◌≤◌, true, false, eqb, List, [], ◌∷◌, ◌++◌, length, get_or, take, Some, sym, refl, ap, ◌∙◌, subst, inl, inr, add-one, arith, take_all}
use Rattle.std.proofs.lemmas.List.{take_more}
use Rattle.std.proofs.lemmas.Bool.{cases_eq, eq-eqb, ne_eqb}
use Rattle.family.specs.Meaning.{Meaning, RecordOf, Fit, Laws}
use Rattle.gatherer.specs.Series.{Event, frames_under, series, latest_frame, told_by, frames_below, frames_up_to, full_series}
use Rattle.gatherer.specs.Due.{outcome, joined_outcome, joins_to, attempted, record_due, shown_after}
use Rattle.gatherer.specs.Promises.{accepted_after, In, HeardWhole}
use Rattle.gatherer.proofs.Series.{under_more}

-- where a member of a list stands
pub position : (x : ℕ) (xs : List ℕ) → In x xs → (i : ℕ) × (i < length xs) × (get_or xs i 0 ≡ x)
position x [] h = absurd h
position x (y ∷ ys) (inl e) = (0, omega arith, sym e)
position x (y ∷ ys) (inr h) = let p = position x ys h in (suc p.0, omega (arith, p.1), p.2)

pub member : (xs : List ℕ) (i : ℕ) → i < length xs → In (get_or xs i 0) xs
member [] i h = absurd (omega arith)
member (y ∷ ys) zero h = inl refl
member (y ∷ ys) (suc i) h = inr (member ys i (omega arith))

module _ {S T : Type 0} (m : Meaning S T) (laws : Laws m) (s : S) (r : RecordOf T) (q : ℕ) (fit : Fit m s r q) where
  abbrev pub frames : List ℕ
  frames = m.cut s r q

  pub sequence_of_lem : (x : ℕ) → In x frames → m.sequence s x ≡ q
  sequence_of_lem x h = let p = position x frames h in subst (λ (y : ℕ). m.sequence s y ≡ q) p.2 (laws.cut_in_sequence s r q p.0 fit p.1)

  under_after : (ys : List ℕ) (h : List Event) → ((x : ℕ) → In x ys → In x frames) → frames_under m s q (accepted_after ys h) ≡ ys ++ frames_under m s q h
  under_after [] h all = refl
  under_after (y ∷ ys) h all =
      under_more m s q y (accepted_after ys h) (sequence_of_lem y (all y (inl refl))) ∙ ap (λ (l : List ℕ). y ∷ l) (under_after ys h (λ x i. all x (inr i)))

  -- the frame of the cut with the number i is frame i
  pub numbered : (y i : ℕ) → In y frames → m.number s y ≡ i → y ≡ get_or frames i 0
  numbered y i h e =
      let p = position y frames h in
      let n : m.number s y ≡ p.0 = subst (λ (x : ℕ). m.number s x ≡ p.0) p.2 (laws.cut_numbered s r q p.0 fit p.1) in
      sym p.2 ∙ ap (λ (k : ℕ). get_or frames k 0) (sym n ∙ e)

  latest_of : (ys zs : List ℕ) (i : ℕ) → i < length frames → ((x : ℕ) → In x ys → In x frames) → In (get_or frames i 0) ys → latest_frame m s i (ys ++ zs) ≡ Some (get_or frames i 0)
  latest_of [] zs i l all h = absurd h
  latest_of (y ∷ ys) zs i l all h =
      elim (cases_eq (m.number s y) i) [
        | inl e ↦ (let t : eqb (m.number s y) i ≡ true = eq-eqb _ _ e in rw t (ap Some (numbered y i (all y (inl refl)) e)))
        | inr n ↦ (let t : eqb (m.number s y) i ≡ false = ne_eqb _ _ n in
            let later : In (get_or frames i 0) ys = elim h [ inl e ↦ absurd (n (subst (λ (x : ℕ). m.number s x ≡ i) e (laws.cut_numbered s r q i fit l))) | inr k ↦ k ] in
            rw t (latest_of ys zs i l (λ x k. all x (inr k)) later))
      ]

  below_of : (xs : List ℕ) → ((i : ℕ) → i < length frames → latest_frame m s i xs ≡ Some (get_or frames i 0)) → (n : ℕ) → n ≤ length frames → frames_below m s xs n ≡ Some (take n frames)
  below_of xs at zero h = refl
  below_of xs at (suc n) h =
      let before = below_of xs at n (omega arith) in
      let here = at n (omega arith) in
      let more : take (suc n) frames ≡ take n frames ++ (get_or frames n 0 ∷ []) = rw (← add-one n) (take_more frames n 0 (omega arith)) in
      rw (before, here) (ap Some (sym more))

  full_of : (xs : List ℕ) → ((i : ℕ) → i < length frames → latest_frame m s i xs ≡ Some (get_or frames i 0)) → full_series m s xs ≡ Some frames
  full_of xs at =
      let some = laws.some_frames s r q fit in
      let first = at 0 (omega arith) in
      let last : suc (m.last s (get_or frames 0 0)) ≡ length frames = omega (arith, laws.cut_tells_last s r q fit) in
      ap (λ o. frames_up_to m s xs (told_by m s o)) first ∙ ap (frames_below m s xs) last ∙ below_of xs at (length frames) (omega arith) ∙ ap Some (take_all _ frames (omega arith))

  pub due_after : (ys : List ℕ) (h : List Event) → ((x : ℕ) → In x ys → In x frames) → ((x : ℕ) → In x frames → In x ys) → record_due m s (accepted_after ys h) ≡ Some r
  due_after [] h all each = absurd (each (get_or frames 0 0) (member frames 0 (laws.some_frames s r q fit)))
  due_after (y ∷ ys) h all each =
      let zs = frames_under m s q h in
      let e : m.sequence s y ≡ q = sequence_of_lem y (all y (inl refl)) in
      let ser : series m s (accepted_after (y ∷ ys) h) ≡ (y ∷ ys) ++ zs = ap (λ (k : ℕ). y ∷ frames_under m s k (accepted_after ys h)) e ∙ ap (λ (l : List ℕ). y ∷ l) (under_after ys h (λ x i. all x (inr i))) in
      let f : full_series m s ((y ∷ ys) ++ zs) ≡ Some frames = full_of ((y ∷ ys) ++ zs) (λ i l. latest_of (y ∷ ys) zs i l all (each _ (member frames i l))) in
      let t : attempted m s (accepted_after (y ∷ ys) h) ≡ joins_to r = ap (λ l. outcome m s (full_series m s l)) ser ∙ ap (outcome m s) f ∙ ap joined_outcome (laws.cut_joins s r q fit) in
      ap (shown_after (record_due m s (accepted_after ys h))) t

pub heard : {S T : Type 0} (m : Meaning S T) → Laws m → (s : S) (h : List Event) (r : RecordOf T) → HeardWhole m s h r → record_due m s h ≡ Some r
heard m laws s h r w = ap (record_due m s) w.events ∙ due_after m laws s r w.sequence w.fits w.frames w.before w.no_other w.every_frame
