-- A record that is due was accepted whole.
use Rattle.std.proofs.Common.{◌≡◌, ℕ, zero, suc, ◌⊎◌, List, [], ◌∷◌, ◌++◌, Some, None, Option, sym, refl, ap, ◌∙◌, subst, inl, inr}
use Rattle.std.proofs.lemmas.Bool.{cases_eq}
use Rattle.family.specs.Meaning.{Meaning, RecordOf, Laws}
use Rattle.gatherer.specs.Series.{Event, accepted, forgotten, frames_under, series, latest_frame, frames_told, frames_below, frames_up_to, appended, full_series}
use Rattle.gatherer.specs.Due.{Outcome, not_full, no_record, joins_to, outcome, joined_outcome, attempted, record_due, shown_after}
use Rattle.gatherer.specs.Promises.{accepted_after, In, AcceptedWhole}
use Rattle.gatherer.proofs.Series.{latest_is, under_more, under_none}
use Rattle.gatherer.proofs.Heard.{member}

in_append : (x y : ℕ) (xs : List ℕ) → In x (xs ++ (y ∷ [])) → In x xs ⊎ (x ≡ y)
in_append x y [] (inl e) = inr e
in_append x y [] (inr i) = absurd i
in_append x y (z ∷ zs) (inl e) = inl (inl e)
in_append x y (z ∷ zs) (inr i) = elim (in_append x y zs i) [ inl k ↦ inl (inr k) | inr e ↦ inr e ]

in_appended : (o : Option (List ℕ)) (p : Option ℕ) (ys : List ℕ) (x : ℕ) → appended o p ≡ Some ys → In x ys → ((zs : List ℕ) × (o ≡ Some zs) × In x zs) ⊎ (p ≡ Some x)
in_appended None p ys x e i = absurd cc
in_appended (Some zs) None ys x e i = absurd cc
in_appended (Some zs) (Some y) ys x e i =
    let f : ys ≡ zs ++ (y ∷ []) = cc in
    elim (in_append x y zs (subst (In x) f i)) [ inl k ↦ inl (zs, refl, k) | inr same ↦ inr (ap Some (sym same)) ]

module _ {S T : Type 0} (m : Meaning S T) (s : S) where
  -- each of the latest frames below n is one of the series
  below_in : (xs : List ℕ) (n : ℕ) (ys : List ℕ) (x : ℕ) → frames_below m s xs n ≡ Some ys → In x ys → In x xs
  below_in xs zero ys x e i = absurd (let f : ys ≡ [] = cc in subst (In x) f i)
  below_in xs (suc n) ys x e i =
      elim (in_appended (frames_below m s xs n) (latest_frame m s n xs) ys x e i) [
        | inl k ↦ below_in xs n k.0 x k.1 k.2
        | inr latest ↦ (latest_is m s n x xs latest).0
      ]

  full_in : (xs : List ℕ) (o : Option ℕ) (ys : List ℕ) (x : ℕ) → frames_up_to m s xs o ≡ Some ys → In x ys → In x xs
  full_in xs None ys x e i = absurd cc
  full_in xs (Some n) ys x e i = below_in xs n ys x e i

  -- a series that joins to a record is full
  joins_full : (o : Option (List ℕ)) (r : RecordOf T) → outcome m s o ≡ joins_to r → (ys : List ℕ) × (o ≡ Some ys) × (m.joined s ys ≡ Some r)
  joins_full None r e = absurd cc
  joins_full (Some ys) r e =
      let P : Option (RecordOf T) → Type 0 = λ o. joined_outcome o ≡ joins_to r → o ≡ Some r in
      let go : (o : Option (RecordOf T)) → P o = λ o. elim o as P [ None ↦ λ f. absurd cc | Some q ↦ λ f. cc ] in
      (ys, refl, go (m.joined s ys) e)

  -- a run of frames under one sequence number ends a history
  under_run : (q : ℕ) (h : List Event) → (before : List Event) × (h ≡ accepted_after (frames_under m s q h) before)
  under_run q [] = ([], refl)
  under_run q (forgotten ∷ h) = (forgotten ∷ h, refl)
  under_run q (accepted y ∷ h) =
      elim (cases_eq (m.sequence s y) q) [
        | inl e ↦ (let p = under_run q h in (p.0, rw (under_more m s q y h e) (ap (λ (l : List Event). accepted y ∷ l) p.1)))
        | inr n ↦ (accepted y ∷ h, rw (under_none m s q y h n) refl)
      ]

  under_one : (q x : ℕ) (h : List Event) → In x (frames_under m s q h) → m.sequence s x ≡ q
  under_one q x [] i = absurd i
  under_one q x (forgotten ∷ h) i = absurd i
  under_one q x (accepted y ∷ h) i =
      elim (cases_eq (m.sequence s y) q) [
        | inl e ↦ (let k : In x (y ∷ frames_under m s q h) = subst (In x) (under_more m s q y h e) i in
            elim k [ inl same ↦ rw same e | inr more ↦ under_one q x h more ])
        | inr n ↦ absurd (subst (In x) (under_none m s q y h n) i)
      ]

module _ {S T : Type 0} (m : Meaning S T) (laws : Laws m) (s : S) where
  -- the series that joins to a record now
  joined_whole : (x : ℕ) (h : List Event) (r : RecordOf T) → attempted m s (accepted x ∷ h) ≡ joins_to r → AcceptedWhole m s (accepted x ∷ h) r
  joined_whole x h r e =
      let xs = series m s (accepted x ∷ h) in
      let full = joins_full m s (full_series m s xs) r e in
      let a_cut = laws.joined_is_cut s r full.0 full.2 in
      let q = a_cut.0 in
      let fit = a_cut.1 in
      let every : (y : ℕ) → In y (m.cut s r q) → In y xs = λ y i. full_in m s xs (frames_told m s xs) full.0 y full.1 (subst (In y) (sym a_cut.2) i) in
      let one : (y : ℕ) → In y xs → m.sequence s y ≡ m.sequence s x = λ y i. elim i [ inl same ↦ ap (m.sequence s) same | inr more ↦ under_one m s (m.sequence s x) y h more ] in
      let some = laws.some_frames s r q fit in
      let same : m.sequence s x ≡ q = sym (one _ (every _ (member (m.cut s r q) 0 some))) ∙ laws.cut_in_sequence s r q 0 fit some in
      let run = under_run m s (m.sequence s x) h in
      record {
        sequence = q;
        fits = fit;
        later = [];
        frames = xs;
        before = run.0;
        events = ap (λ (l : List Event). accepted x ∷ l) run.1;
        no_forget = tt;
        every_frame = every;
        one_sequence = λ y i. one y i ∙ same;
      }

  -- one more frame accepted later
  whole_later : (x : ℕ) (h : List Event) (r : RecordOf T) → AcceptedWhole m s h r → AcceptedWhole m s (accepted x ∷ h) r
  whole_later x h r w = record {
    sequence = w.sequence;
    fits = w.fits;
    later = accepted x ∷ w.later;
    frames = w.frames;
    before = w.before;
    events = ap (λ (l : List Event). accepted x ∷ l) w.events;
    no_forget = w.no_forget;
    every_frame = w.every_frame;
    one_sequence = w.one_sequence;
  }

  pub whole : (h : List Event) (r : RecordOf T) → record_due m s h ≡ Some r → AcceptedWhole m s h r
  whole [] r e = absurd cc
  whole (forgotten ∷ h) r e = absurd cc
  whole (accepted x ∷ h) r e =
      let P : Outcome T → Type 0 = λ o. attempted m s (accepted x ∷ h) ≡ o → shown_after (record_due m s h) o ≡ Some r → AcceptedWhole m s (accepted x ∷ h) r in
      let go : (o : Outcome T) → P o = λ o. elim o as P [
        | not_full ↦ λ t f. whole_later x h r (whole h r f)
        | no_record ↦ λ t f. whole_later x h r (whole h r f)
        | joins_to q ↦ λ t f. joined_whole x h r (t ∙ ap joins_to (let k : q ≡ r = cc in k))
      ] in
      go (attempted m s (accepted x ∷ h)) refl e
