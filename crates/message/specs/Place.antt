-- The places of texts.
use Rattle.std.specs.Prelude.{ℕ, cond, Some, None, Option, Result, ◌==◌}
use Rattle.std.specs.Option.{ok_or}
use Rattle.pdu.specs.declared.refusal.Refusal.{Refusal}
use Rattle.pdu.specs.declared.refusal.Refusal.TheVariants.{HeadSettingOrPlace}
use Rattle.message.specs.declared.place.Place.{Place}
use Rattle.message.specs.declared.place.Place.TheVariants.{Name, Message, Alert}

-- The message number of a place's frames.
abbrev pub place_number : Place → ℕ
place_number Name = 2
place_number Message = 5
place_number Alert = 9

-- The place whose frames have a message number.
abbrev pub place_with : ℕ → Option Place
place_with n = cond (n == 2) (Some Name) (cond (n == 5) (Some Message) (cond (n == 9) (Some Alert) None))

-- That place; a number that no place has is refused.
abbrev pub place_taken : ℕ → Result Place Refusal
place_taken n = ok_or (place_with n) HeadSettingOrPlace
