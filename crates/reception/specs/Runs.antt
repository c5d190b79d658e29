-- One place of a card and the same place of a monitor: what was called and heard there, in one list. The latest step comes first.
use Rattle.std.specs.Prelude.{◌≡◌, ℕ, ◌+◌, ◌≤◌, List, [], ◌∷◌, length, Some, None, Option}
use Rattle.family.specs.Meaning.{Meaning}
use Rattle.gatherer.specs.Series.{Event, accepted, forgotten}
use Rattle.airing.specs.Calls.{Call, stored, withdrawn, drawn, changes}
use Rattle.airing.specs.Due.{frame_drawn}

-- A call of the card's place, or an event at the monitor's.
pub data Step (T : Type 0) : Type 0 where
  card : Call T → Step T
  monitor : Event → Step T

-- The calls of the card's place.
abbrev pub card_calls : {T : Type 0} → List (Step T) → List (Call T)
card_calls [] = []
card_calls (card c ∷ a) = c ∷ card_calls a
card_calls (monitor e ∷ a) = card_calls a

-- The events at the monitor's place.
abbrev pub monitor_events : {T : Type 0} → List (Step T) → List Event
monitor_events [] = []
monitor_events (card c ∷ a) = monitor_events a
monitor_events (monitor e ∷ a) = e ∷ monitor_events a

-- The frame that the latest draw gave, if it gave one.
abbrev pub frame_last_drawn : {S T : Type 0} → Meaning S T → S → List (Call T) → Option ℕ
frame_last_drawn m s [] = None
frame_last_drawn m s (stored r ∷ h) = frame_last_drawn m s h
frame_last_drawn m s (withdrawn ∷ h) = frame_last_drawn m s h
frame_last_drawn m s (drawn ∷ h) = frame_drawn m s h

-- How many changes came before the latest draw.
abbrev pub changes_at_draw : {T : Type 0} → List (Call T) → ℕ
changes_at_draw [] = 0
changes_at_draw (stored r ∷ h) = changes_at_draw h
changes_at_draw (withdrawn ∷ h) = changes_at_draw h
changes_at_draw (drawn ∷ h) = length (changes h)

-- Every frame that the monitor accepted is the one that the card drew last: frames may be lost, and repeated on the spot.
abbrev pub Relayed : {S T : Type 0} → Meaning S T → S → List (Step T) → Type 0
Relayed m s [] = Unit {0}
Relayed m s (card c ∷ a) = Relayed m s a
Relayed m s (monitor forgotten ∷ a) = Relayed m s a
Relayed m s (monitor (accepted x) ∷ a) = (frame_last_drawn m s (card_calls a) ≡ Some x) × Relayed m s a

-- For each frame accepted since the opening or the last forget, how many changes came before its draw.
abbrev pub change_counts : {T : Type 0} → List (Step T) → List ℕ
change_counts [] = []
change_counts (card c ∷ a) = change_counts a
change_counts (monitor forgotten ∷ a) = []
change_counts (monitor (accepted x) ∷ a) = changes_at_draw (card_calls a) ∷ change_counts a

-- At most two changes lie between the draw of one frame accepted and that of the next.
abbrev pub FewChangesBetween : List ℕ → Type 0
FewChangesBetween [] = Unit {0}
FewChangesBetween (k ∷ []) = Unit {0}
FewChangesBetween (k ∷ j ∷ ks) = (k ≤ j + 2) × FewChangesBetween (j ∷ ks)
