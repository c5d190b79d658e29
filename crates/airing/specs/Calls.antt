-- What a place has on air, counted from its calls. The latest call comes first; a store that is refused is none of them.
use Rattle.std.specs.Prelude.{ℕ, ◌+◌, Bool, true, false, cond, not, List, [], ◌∷◌, Some, None, Option}
use Rattle.family.specs.Meaning.{RecordOf, equal_records}

-- A store that was accepted, a withdraw, or a draw.
pub data Call (T : Type 0) : Type 0 where
  stored : RecordOf T → Call T
  withdrawn : Call T
  drawn : Call T

-- The record accepted last.
abbrev pub last_accepted : {T : Type 0} → List (Call T) → Option (RecordOf T)
last_accepted [] = None
last_accepted (stored r ∷ h) = Some r
last_accepted (withdrawn ∷ h) = last_accepted h
last_accepted (drawn ∷ h) = last_accepted h

-- Whether r is unequal to the record before it, or there is none.
abbrev pub is_unequal_to : {T : Type 0} → Option (RecordOf T) → RecordOf T → Bool
is_unequal_to None r = true
is_unequal_to (Some before) r = not (equal_records before r)

-- Whether an accepted store of r after h is a change: r is unequal to the record accepted before it, or the first.
abbrev pub is_change : {T : Type 0} → List (Call T) → RecordOf T → Bool
is_change h r = is_unequal_to (last_accepted h) r

-- The records of the changes, the latest first.
abbrev pub changes : {T : Type 0} → List (Call T) → List (RecordOf T)
changes [] = []
changes (stored r ∷ h) = cond (is_change h r) (r ∷ changes h) (changes h)
changes (withdrawn ∷ h) = changes h
changes (drawn ∷ h) = changes h

-- Whether an accepted store came after the latest withdraw.
abbrev pub on_air : {T : Type 0} → List (Call T) → Bool
on_air [] = false
on_air (stored r ∷ h) = true
on_air (withdrawn ∷ h) = false
on_air (drawn ∷ h) = on_air h

-- How many draws gave a frame since the latest change.
abbrev pub frames_given : {T : Type 0} → List (Call T) → ℕ
frames_given [] = 0
frames_given (stored r ∷ h) = cond (is_change h r) 0 (frames_given h)
frames_given (withdrawn ∷ h) = frames_given h
frames_given (drawn ∷ h) = cond (on_air h) (frames_given h + 1) (frames_given h)
