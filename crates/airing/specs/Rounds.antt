-- A round of draws: as many as the record on air has frames.
use Rattle.std.specs.Prelude.{◌≡◌, ℕ, ◌+◌, ◌<◌, true, false, cond, List, [], ◌∷◌, ◌++◌, length, Some, None, Option, ◌==◌, slice_index}
use Rattle.family.specs.Meaning.{Meaning}
use Rattle.airing.specs.Calls.{Call, stored, withdrawn, drawn, is_change, on_air}
use Rattle.airing.specs.Due.{current_due, cut_of, frame_drawn}

-- Among the calls since h there is no change and no withdraw.
abbrev pub Unbroken : {T : Type 0} → List (Call T) → List (Call T) → Type 0
Unbroken [] h = Unit {0}
Unbroken (stored r ∷ since) h = (is_change (since ++ h) r ≡ false) × Unbroken since h
Unbroken (withdrawn ∷ since) h = ⊥
Unbroken (drawn ∷ since) h = Unbroken since h

-- How many of the calls are draws.
abbrev pub draws : {T : Type 0} → List (Call T) → ℕ
draws [] = 0
draws (stored r ∷ since) = draws since
draws (withdrawn ∷ since) = draws since
draws (drawn ∷ since) = draws since + 1

-- A frame, if there is one, before the others.
abbrev pub with_frame : Option ℕ → List ℕ → List ℕ
with_frame None xs = xs
with_frame (Some x) xs = x ∷ xs

-- The frames that the draws since h gave, the latest first.
abbrev pub frames_since : {S T : Type 0} → Meaning S T → S → List (Call T) → List (Call T) → List ℕ
frames_since m s h [] = []
frames_since m s h (stored r ∷ since) = frames_since m s h since
frames_since m s h (withdrawn ∷ since) = frames_since m s h since
frames_since m s h (drawn ∷ since) = with_frame (frame_drawn m s (since ++ h)) (frames_since m s h since)

-- How often x is in the list.
abbrev pub occurrences : ℕ → List ℕ → ℕ
occurrences x [] = 0
occurrences x (y ∷ ys) = cond (y == x) (occurrences x ys + 1) (occurrences x ys)

-- The calls h end in a round: from some time on, with a record on air, no change and no withdraw came, and as many draws as the record has frames.
pub record Round {S T : Type 0} (m : Meaning S T) (s : S) (h : List (Call T)) : Type 0 where
  pub before : List (Call T)
  pub since : List (Call T)
  pub calls : h ≡ since ++ before
  pub on_air : on_air before ≡ true
  pub unbroken : Unbroken since before
  pub as_many : draws since ≡ length (cut_of m s (current_due m s before))

-- The frames drawn in the round hold each frame of the record's cut exactly once.
abbrev pub EachFrameOnce : {S T : Type 0} (m : Meaning S T) (s : S) (h : List (Call T)) → Round m s h → Type 0
EachFrameOnce m s h w = (i : ℕ) → i < length (cut_of m s (current_due m s w.before)) →
    occurrences (slice_index (cut_of m s (current_due m s w.before)) i) (frames_since m s w.before w.since) ≡ 1
