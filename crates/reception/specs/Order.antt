-- What a monitor's place shows of a card's changes there.
use Rattle.std.specs.Prelude.{◌≡◌, ◌⊎◌, List, [], ◌∷◌, Some, None, Option, ◌≢◌}
use Rattle.family.specs.Meaning.{Meaning, RecordOf}
use Rattle.gatherer.specs.declared.answer.Answer.{Answer}
use Rattle.gatherer.specs.declared.answer.Answer.TheVariants.{Incomplete, NewlyShown, ShownBefore, DoesNotJoin}
use Rattle.gatherer.specs.Series.{Event, accepted, forgotten}
use Rattle.gatherer.specs.Due.{record_due, answer_due}

-- The record that an answer tells to be newly shown, before the others.
abbrev pub with_newly_shown : {T : Type 0} → Answer → Option (RecordOf T) → List (RecordOf T) → List (RecordOf T)
with_newly_shown Incomplete o rs = rs
with_newly_shown ShownBefore o rs = rs
with_newly_shown DoesNotJoin o rs = rs
with_newly_shown NewlyShown None rs = rs
with_newly_shown NewlyShown (Some r) rs = r ∷ rs

-- The records newly shown since the opening or the last forget: those due after the frames that were answered so.
abbrev pub newly_shown : {S T : Type 0} → Meaning S T → S → List Event → List (RecordOf T)
newly_shown m s [] = []
newly_shown m s (forgotten ∷ e) = []
newly_shown m s (accepted x ∷ e) = with_newly_shown (answer_due m s e x) (record_due m s (accepted x ∷ e)) (newly_shown m s e)

-- xs is ys with some left out, in the same order.
pub data Within {A : Type 0} : List A → List A → Type 0 where
  nothing : Within [] []
  omitted : {xs ys : List A} {y : A} → Within xs ys → Within xs (y ∷ ys)
  taken : {xs ys : List A} {y : A} → Within xs ys → Within (y ∷ xs) (y ∷ ys)

-- x is one of the list.
abbrev pub Among : {A : Type 0} → A → List A → Type 0
Among x [] = ⊥
Among x (y ∷ ys) = (x ≡ y) ⊎ Among x ys

-- No frame since the opening or the last forget completed a series that does not join.
abbrev pub AlwaysJoined : {S T : Type 0} → Meaning S T → S → List Event → Type 0
AlwaysJoined m s [] = Unit {0}
AlwaysJoined m s (forgotten ∷ e) = Unit {0}
AlwaysJoined m s (accepted x ∷ e) = (answer_due m s e x ≢ DoesNotJoin) × AlwaysJoined m s e

-- What is shown after the events e, of a card with these changes.
pub record ShowsChanges {S T : Type 0} (m : Meaning S T) (s : S) (changes : List (RecordOf T)) (e : List Event) : Type 0 where
  -- the records newly shown are records of changes, in their order, each change at most once
  pub in_order : Within (newly_shown m s e) changes
  -- the record shown is that of a change
  pub of_a_change : (r : RecordOf T) → record_due m s e ≡ Some r → Among r changes
  -- no two texts were mixed
  pub always_joined : AlwaysJoined m s e
