-- A draw, from what its parts did.
use Rattle.std.proofs.Common.{◌≡◌, ℕ, ◌+◌, ◌%◌, List, ◌∷◌, Option, ap, ◌∙◌}
use native.Mathlib.Nat.{mod-add-mod}
use Rattle.message.specs.declared.message.Message.{Message as MessageType}
use Rattle.transport.specs.declared.head.Head.{Head}
use Rattle.transport.specs.Families.{Families}
use Rattle.card.specs.declared.station.Station.{Station}
use Rattle.card.specs.declared.card.Card.{Card}
use Rattle.card.specs.declared.card.Turn.{Turn}
use Rattle.card.specs.Calls.{Call, draw, accepted_draws}
use Rattle.card.specs.Agrees.{Agrees, FrameTaken, turn_number}

-- c is the card as found, d with the frame drawn, and t the turn that comes next
module _ {N T M U E V : Type 0} (f : Families N T M U E V) (st : Station) (h : List (Call (Head T U V))) (c d : Card N M E T U V) (agrees : Agrees f st h c) where
  pub turned : (o : Option MessageType) (t : Turn) → FrameTaken f h o d → d.turn ≡ c.turn → d.station ≡ c.station → turn_number t ≡ (turn_number d.turn + 1) % 4 → Agrees f st (draw 10 ∷ h) (record d { turn = t })
  turned o t taken turn station passed = record {
    station_fits = agrees.station_fits;
    station_is = station ∙ agrees.station_is;
    turn_is = passed ∙ ap (λ t. (turn_number t + 1) % 4) turn ∙ ap (λ (n : ℕ). (n + 1) % 4) agrees.turn_is ∙ mod-add-mod (accepted_draws h) 4 1;
    name_agrees = taken.name_agrees;
    message_agrees = taken.message_agrees;
    alert_agrees = taken.alert_agrees;
  }
