-- What was heard in range.
use Rattle.std.specs.Prelude.{◌≡◌, Bool, true, List, [], ◌∷◌, Some, None, Option}
use Rattle.message.specs.declared.location.LocationHalf.{LocationHalf}
use Rattle.message.specs.Location.{half_in_range}
use Rattle.station_information.specs.Hearings.{Hearing, heard, forgot}
use Rattle.station_information.specs.Latest.{half_in}

-- Whether a half of the location, where there is one, is in range.
abbrev pub none_or_in_range : Option LocationHalf → Bool
none_or_in_range None = true
none_or_in_range (Some half) = half_in_range half

-- Every half of the location that was heard is in range.
abbrev pub HalvesInRange : List Hearing → Type 0
HalvesInRange [] = Unit {0}
HalvesInRange (forgot ∷ h) = HalvesInRange h
HalvesInRange (heard m ∷ h) = (none_or_in_range (half_in m) ≡ true) × HalvesInRange h
