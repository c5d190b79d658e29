-- A place with no more than three changes: at most two lie between any two frames.
use Rattle.std.proofs.Common.{ℕ, ◌≤◌, Bool, true, false, cond, List, [], ◌∷◌, length, arith}
use Rattle.family.specs.Meaning.{Meaning, Laws}
use Rattle.gatherer.specs.Series.{accepted, forgotten}
use Rattle.airing.specs.Calls.{Call, stored, withdrawn, drawn, is_change, changes}
use Rattle.airing.specs.Agrees.{LawfulRecords}
use Rattle.reception.specs.Runs.{Step, card, monitor, card_calls, changes_at_draw, Relayed, change_counts, FewChangesBetween}
use Rattle.reception.proofs.Draws.{frame_last_drawn_lem}

-- each count is from 1 to n
abbrev WithinTotal : ℕ → List ℕ → Type 0
WithinTotal n [] = Unit {0}
WithinTotal n (k ∷ ks) = (1 ≤ k) × (k ≤ n) × WithinTotal n ks

few : (ks : List ℕ) → WithinTotal 3 ks → FewChangesBetween ks
few [] w = tt
few (k ∷ []) w = tt
few (k ∷ j ∷ ks) w = (omega (arith, w.1, w.2.0), few (j ∷ ks) w.2)

-- a call leaves as many changes or more
no_fewer : {T : Type 0} (c : Call T) (h : List (Call T)) → length (changes h) ≤ length (changes (c ∷ h))
no_fewer {T} (stored r) h =
    let P : Bool → Type 0 = λ b. length (changes h) ≤ length (cond b (r ∷ changes h) (changes h)) in
    elim (is_change h r) as P [ true ↦ omega arith | false ↦ omega arith ]
no_fewer withdrawn h = omega arith
no_fewer drawn h = omega arith

at_draw : {T : Type 0} (h : List (Call T)) → changes_at_draw h ≤ length (changes h)
at_draw [] = omega arith
at_draw (stored r ∷ h) = omega (arith, at_draw h, no_fewer (stored r) h)
at_draw (withdrawn ∷ h) = at_draw h
at_draw (drawn ∷ h) = omega arith

module _ {S T : Type 0} (m : Meaning S T) (laws : Laws m) (s : S) where
  lawful_rest : (c : Call T) (h : List (Call T)) → LawfulRecords m s (c ∷ h) → LawfulRecords m s h
  lawful_rest (stored r) h l = l.2
  lawful_rest withdrawn h l = l
  lawful_rest drawn h l = l

  within : (n : ℕ) (a : List (Step T)) → LawfulRecords m s (card_calls a) → Relayed m s a → length (changes (card_calls a)) ≤ n → WithinTotal n (change_counts a)
  within n [] l r e = tt
  within n (card c ∷ a) l r e = within n a (lawful_rest c (card_calls a) l) r (omega (arith, no_fewer c (card_calls a)))
  within n (monitor forgotten ∷ a) l r e = tt
  within n (monitor (accepted x) ∷ a) l r e =
      let k = (frame_last_drawn_lem m laws s (card_calls a) x l r.0).change.count in
      (omega arith, omega (arith, at_draw (card_calls a)), within n a l r.1 e)

  pub few_changes : (a : List (Step T)) → LawfulRecords m s (card_calls a) → Relayed m s a → length (changes (card_calls a)) ≤ 3 → FewChangesBetween (change_counts a)
  few_changes a l r e = few (change_counts a) (within 3 a l r e)
