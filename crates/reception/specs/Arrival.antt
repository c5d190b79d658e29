-- A round of draws that is heard.
use Rattle.std.specs.Prelude.{◌≡◌, ◌≤◌, Bool, true, false, List, [], ◌∷◌, ◌++◌, length, Some}
use Rattle.family.specs.Meaning.{Meaning}
use Rattle.gatherer.specs.Series.{accepted, forgotten}
use Rattle.airing.specs.Calls.{stored, withdrawn, drawn, on_air}
use Rattle.airing.specs.Due.{current_due, cut_of}
use Rattle.airing.specs.Rounds.{Unbroken, draws}
use Rattle.reception.specs.Runs.{Step, card, monitor, card_calls, frame_last_drawn}

-- In the steps since the run b nothing was forgotten, no frame but the one drawn last was accepted, and every draw was heard before the next; heard_now says that the latest draw is heard after these steps.
abbrev pub EveryDrawHeard : {S T : Type 0} → Meaning S T → S → List (Step T) → (heard_now : Bool) → List (Step T) → Type 0
EveryDrawHeard m s b heard_now [] = Unit {0}
EveryDrawHeard m s b heard_now (card (stored r) ∷ since) = EveryDrawHeard m s b heard_now since
EveryDrawHeard m s b heard_now (card withdrawn ∷ since) = EveryDrawHeard m s b heard_now since
EveryDrawHeard m s b heard_now (card drawn ∷ since) = (heard_now ≡ true) × EveryDrawHeard m s b false since
EveryDrawHeard m s b heard_now (monitor forgotten ∷ since) = ⊥
EveryDrawHeard m s b heard_now (monitor (accepted x) ∷ since) = (frame_last_drawn m s (card_calls (since ++ b)) ≡ Some x) × EveryDrawHeard m s b true since

-- The run a ends in a round that was heard: whatever came before, from some time on, with a record on air, no change and no withdraw came, every draw was heard, and there were as many as the record has frames, or more.
pub record RoundHeard {S T : Type 0} (m : Meaning S T) (s : S) (a : List (Step T)) : Type 0 where
  pub before : List (Step T)
  pub since : List (Step T)
  pub steps : a ≡ since ++ before
  pub on_air : on_air (card_calls before) ≡ true
  pub unbroken : Unbroken (card_calls since) (card_calls before)
  pub heard : EveryDrawHeard m s before false since
  pub enough : length (cut_of m s (current_due m s (card_calls before))) ≤ draws (card_calls since)
