-- What was heard of a station: its messages, each by itself. The latest comes first.
use Rattle.std.specs.Prelude.{List, [], ◌∷◌, None, Option}
use Rattle.std.specs.Option.{option_or}
use Rattle.message.specs.declared.message.Message.{Message}

-- A message was heard, or everything was forgotten.
pub data Hearing : Type 0 where
  heard : Message → Hearing
  forgot : Hearing

-- The latest that messages told of something since the opening or the last forget, where one message tells it or nothing of it.
abbrev pub latest : {A : Type 0} → (Message → Option A) → List Hearing → Option A
latest told [] = None
latest told (forgot ∷ h) = None
latest told (heard m ∷ h) = option_or (told m) (latest told h)
