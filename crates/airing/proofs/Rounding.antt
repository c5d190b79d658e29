-- A round of draws gives each frame once.
use Rattle.std.proofs.Common.{◌≡◌, ℕ, zero, suc, ◌+◌, ◌%◌, ◌<◌, ◌≤◌, true, false, cond, eqb, ltb, List, [], ◌∷◌, ◌++◌, length, get_or, sym, refl, ap, ◌∙◌, subst, inl, inr, mod-lt, add-one, arith}
use Rattle.std.proofs.lemmas.Bool.{cases_lt, cases_eq, eq-eqb, ne_eqb, lt-ltb, le-ltb}
use Rattle.family.specs.Meaning.{Meaning, RecordOf, Laws}
use Rattle.airing.specs.Calls.{Call, stored, withdrawn, drawn, changes, on_air, frames_given}
use Rattle.airing.specs.Due.{sequence_after, current_due, cut_of}
use Rattle.airing.specs.Rounds.{Unbroken, draws, frames_since, occurrences, Round, EachFrameOnce}
use Rattle.airing.specs.Agrees.{LawfulRecords}
use Rattle.airing.proofs.Turns.{only_one, distance, distance_reaches, distance_fits}
use Rattle.airing.proofs.Changes.{lawful_before, on_air_stands, stands_fit}

-- n frames of the cut xs in turn, from frame g on
unfoldable pub turns : List ℕ → ℕ → ℕ → List ℕ
turns xs g zero = []
turns xs g (suc n) = get_or xs ((g + n) % length xs) 0 ∷ turns xs g n

once : (xs : List ℕ) (g i : ℕ) → i < length xs → ((k j : ℕ) → k < length xs → j < length xs → get_or xs k 0 ≡ get_or xs j 0 → k ≡ j) → (n : ℕ) → n ≤ length xs →
    occurrences (get_or xs i 0) (turns xs g n) ≡ cond (ltb (distance g i (length xs)) n) 1 0
unfolding turns
once xs g i l differ zero h = rw (le-ltb (distance g i (length xs)) 0 (omega arith)) refl
once xs g i l differ (suc n) h =
    let before = once xs g i l differ n (omega arith) in
    let d = distance g i (length xs) in
    let k = (g + n) % length xs in
    let k_fits : k < length xs = mod-lt (g + n) (omega arith) in
    let d_fits = distance_fits g i (length xs) l in
    let reaches = distance_reaches g i (length xs) l in
    elim (cases_eq n d) [
      | inl e ↦ (let here : eqb (get_or xs k 0) (get_or xs i 0) ≡ true = eq-eqb _ _ (ap (λ (v : ℕ). get_or xs v 0) (ap (λ (v : ℕ). (g + v) % length xs) e ∙ reaches)) in
          let not_yet : ltb d n ≡ false = le-ltb _ _ (omega arith) in
          let now : ltb d (suc n) ≡ true = lt-ltb _ _ (omega arith) in
          rw (here, before, not_yet, now) refl)
      | inr ne ↦ (let elsewhere : eqb (get_or xs k 0) (get_or xs i 0) ≡ false = ne_eqb _ _ (λ e. ne (only_one g n d (length xs) (omega arith) d_fits (differ k i k_fits l e ∙ sym reaches))) in
          elim (cases_lt d n) [
            | inl past ↦ (let f : ltb d n ≡ true = lt-ltb _ _ past in
                let f2 : ltb d (suc n) ≡ true = lt-ltb _ _ (omega arith) in rw (elsewhere, before, f, f2) refl)
            | inr ahead ↦ (let f : ltb d n ≡ false = le-ltb _ _ ahead in
                let f2 : ltb d (suc n) ≡ false = le-ltb _ _ (omega arith) in rw (elsewhere, before, f, f2) refl)
          ])
    ]

module _ {S T : Type 0} (m : Meaning S T) (s : S) (h : List (Call T)) (on : on_air h ≡ true) where
  pub record Kept (since : List (Call T)) : Type 0 where
    pub same_changes : changes (since ++ h) ≡ changes h
    pub still_on : on_air (since ++ h) ≡ true
    pub given : frames_given (since ++ h) ≡ frames_given h + draws since

  pub kept : (since : List (Call T)) → Unbroken since h → Kept since
  kept [] u = record { same_changes = refl; still_on = on; given = omega arith }
  kept (withdrawn ∷ since) u = absurd u
  kept (stored r ∷ since) u = let k = kept since u.1 in record { same_changes = rw u.0 k.same_changes; still_on = refl; given = rw u.0 k.given }
  kept (drawn ∷ since) u = let k = kept since u in record { same_changes = k.same_changes; still_on = k.still_on; given = rw k.still_on (omega (arith, k.given)) }

  -- the frames given are those of the cut in turn
  pub in_turn : (r : RecordOf T) (rs : List (RecordOf T)) → changes h ≡ r ∷ rs → (since : List (Call T)) → Unbroken since h → frames_since m s h since ≡ turns (m.cut s r (sequence_after m rs)) (frames_given h) (draws since)
  unfolding turns
  in_turn r rs cs [] u = refl
  in_turn r rs cs (withdrawn ∷ since) u = absurd u
  in_turn r rs cs (stored x ∷ since) u = in_turn r rs cs since u.1
  in_turn r rs cs (drawn ∷ since) u =
      let k = kept since u in
      let before = in_turn r rs cs since u in
      rw (k.still_on, k.same_changes, cs, k.given, before, add-one (draws since)) refl

  each_once : (laws : Laws m) (since : List (Call T)) → LawfulRecords m s h → Unbroken since h → draws since ≡ length (cut_of m s (current_due m s h)) →
      (i : ℕ) → i < length (cut_of m s (current_due m s h)) → occurrences (get_or (cut_of m s (current_due m s h)) i 0) (frames_since m s h since) ≡ 1
  each_once laws since l u =
      let k = on_air_stands m s h l on in
      let r = k.latest in
      let q = sequence_after m k.earlier in
      let xs = m.cut s r q in
      let fit = stands_fit m s laws k in
      let cut_is : cut_of m s (current_due m s h) ≡ xs = rw k.changes_are refl in
      let P : List ℕ → Type 0 = λ c. draws since ≡ length c → (i : ℕ) → i < length c → occurrences (get_or c i 0) (frames_since m s h since) ≡ 1 in
      let differ : (a b : ℕ) → a < length xs → b < length xs → get_or xs a 0 ≡ get_or xs b 0 → a ≡ b = λ a b la lb e. sym (laws.cut_numbered s r q a fit la) ∙ ap (m.number s) e ∙ laws.cut_numbered s r q b fit lb in
      let there : P xs = λ n i li.
      (let reached : ltb (distance (frames_given h) i (length xs)) (length xs) ≡ true = lt-ltb _ _ (distance_fits (frames_given h) i (length xs) li) in
      ap (occurrences (get_or xs i 0)) (in_turn r k.earlier k.changes_are since u) ∙ ap (λ (v : ℕ). occurrences (get_or xs i 0) (turns xs (frames_given h) v)) n
      ∙ once xs (frames_given h) i li differ (length xs) (omega arith) ∙ rw reached refl) in
      subst P (sym cut_is) there

pub round : {S T : Type 0} (m : Meaning S T) (laws : Laws m) (s : S) (h : List (Call T)) → LawfulRecords m s h → (w : Round m s h) → EachFrameOnce m s h w
round m laws s h l w =
    each_once m s w.before w.on_air laws w.since (lawful_before m s w.before w.since (subst (λ c. LawfulRecords m s c) w.calls l)) w.unbroken w.as_many
