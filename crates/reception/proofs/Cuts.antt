-- A series of frames of one cut is not full, or joins to the record of the cut.
use Rattle.std.proofs.Common.{◌≡◌, ℕ, zero, suc, ◌<◌, ◌≤◌, ◌⊎◌, List, [], ◌∷◌, ◌++◌, length, get_or, take, Some, None, Option, sym, refl, ap, ◌∙◌, subst, inl, inr, add-one, arith, take_all}
use Rattle.std.proofs.lemmas.List.{take_more}
use Rattle.family.specs.Meaning.{Meaning, RecordOf, Fit, Laws}
use Rattle.gatherer.specs.Series.{latest_frame, told_by, appended, frames_below, frames_up_to, full_series}
use Rattle.gatherer.specs.Due.{Outcome, not_full, joins_to, outcome, joined_outcome}
use Rattle.gatherer.specs.Promises.{In}
use Rattle.gatherer.proofs.Series.{latest_is}
use Rattle.gatherer.proofs.Heard.{position, numbered}

-- what came of a series is nothing yet, or the record r
abbrev pub NotFullOr : {T : Type 0} → RecordOf T → Outcome T → Type 0
NotFullOr r o = (o ≡ not_full) ⊎ (o ≡ joins_to r)

module _ {S T : Type 0} (m : Meaning S T) (laws : Laws m) (s : S) (r : RecordOf T) (q : ℕ) (fit : Fit m s r q) where
  abbrev frames : List ℕ
  frames = m.cut s r q

  -- every frame of the series is one of the cut
  module _ (xs : List ℕ) (all : (x : ℕ) → In x xs → In x (m.cut s r q)) where
    latest_in_cut : (i y : ℕ) → latest_frame m s i xs ≡ Some y → (y ≡ get_or frames i 0) × (i < length frames)
    latest_in_cut i y e =
        let is = latest_is m s i y xs e in
        let in_cut = all y is.0 in
        let p = position y frames in_cut in
        let n : m.number s y ≡ p.0 = subst (λ (x : ℕ). m.number s x ≡ p.0) p.2 (laws.cut_numbered s r q p.0 fit p.1) in
        (numbered m laws s r q fit y i in_cut is.1, subst (λ (k : ℕ). k < length frames) (sym n ∙ is.1) p.1)

    appended_in_cut : (n : ℕ) (o : Option (List ℕ)) (p : Option ℕ) (ys : List ℕ) → appended o p ≡ Some ys →
        ((zs : List ℕ) → o ≡ Some zs → (zs ≡ take n frames) × (n ≤ length frames)) → ((y : ℕ) → p ≡ Some y → (y ≡ get_or frames n 0) × (n < length frames)) → (ys ≡ take (suc n) frames) × (suc n ≤ length frames)
    appended_in_cut n None p ys e f g = absurd cc
    appended_in_cut n (Some zs) None ys e f g = absurd cc
    appended_in_cut n (Some zs) (Some y) ys e f g =
        let before = (f zs refl).0 in
        let here = g y refl in
        let is : zs ++ (y ∷ []) ≡ ys = cc in
        let more : take (suc n) frames ≡ take n frames ++ (get_or frames n 0 ∷ []) = rw (← add-one n) (take_more frames n 0 here.1) in
        (sym is ∙ ap (λ l. l ++ (y ∷ [])) before ∙ ap (λ (x : ℕ). take n frames ++ (x ∷ [])) here.0 ∙ sym more, omega (arith, here.1))

    below_in_cut : (n : ℕ) (ys : List ℕ) → frames_below m s xs n ≡ Some ys → (ys ≡ take n frames) × (n ≤ length frames)
    below_in_cut zero ys e = ((let f : ys ≡ [] = cc in f), omega arith)
    below_in_cut (suc n) ys e = appended_in_cut n (frames_below m s xs n) (latest_frame m s n xs) ys e (λ zs f. below_in_cut n zs f) (λ y f. latest_in_cut n y f)

    all_told : (o : Option (List ℕ)) → frames_below m s xs (length frames) ≡ o → NotFullOr r (outcome m s o)
    all_told None e = inl refl
    all_told (Some ys) e =
        let whole : ys ≡ frames = (below_in_cut (length frames) ys e).0 ∙ take_all _ frames (omega arith) in
        inr (ap joined_outcome (ap (m.joined s) whole ∙ laws.cut_joins s r q fit))

    by_first : (o : Option ℕ) → latest_frame m s 0 xs ≡ o → NotFullOr r (outcome m s (frames_up_to m s xs (told_by m s o)))
    by_first None e = inl refl
    by_first (Some x) e =
        let last : suc (m.last s x) ≡ length frames = rw (latest_in_cut 0 x e).0 (omega (arith, laws.cut_tells_last s r q fit)) in
        all_told (frames_below m s xs (suc (m.last s x))) (ap (frames_below m s xs) (sym last))

    pub not_full_or_joins : NotFullOr r (outcome m s (full_series m s xs))
    not_full_or_joins = by_first (latest_frame m s 0 xs) refl
