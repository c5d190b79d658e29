-- The location, once halves in range were heard.
use Rattle.std.proofs.Common.{◌≡◌, ℕ, Bool, true, ◌&&◌, List, [], ◌∷◌, Some, None, Ok, Err, Option, refl}
use Rattle.std.specs.Option.{option_or}
use Rattle.std.proofs.lemmas.Bool.{and_from}
use Rattle.pdu.specs.declared.refusal.Refusal.TheVariants.{OutOfRange}
use Rattle.message.specs.declared.message.Message.{Message}
use Rattle.message.specs.declared.message.Message.TheVariants.{StationId, ShortName, Frame, Location, Service, Parameter, Universal}
use Rattle.message.specs.declared.location.LocationHalf.{LocationHalf}
use Rattle.message.specs.declared.location.LocationHalf.TheVariants.{Latitude, Longitude}
use Rattle.message.specs.Location.{LatitudeHalf, LongitudeHalf, latitude_in_range, longitude_in_range, half_in_range, half_packed}
use Rattle.message.proofs.Ranges.{range_parts}
use Rattle.message.specs.Message.{payload_of}
use Rattle.station_information.specs.Hearings.{Hearing, heard, forgot, latest}
use Rattle.station_information.specs.Latest.{half_in, latitude_of, latitude_in, longitude_of, longitude_in, location_from, location_due}
use Rattle.station_information.specs.Ranges.{none_or_in_range, HalvesInRange}

-- what every half in range tells holds of the latest that was told
latest_in_range : {A : Type 0} (told : Option LocationHalf → Option A) (good : A → Bool) →
    ((half : Option LocationHalf) (a : A) → none_or_in_range half ≡ true → told half ≡ Some a → good a ≡ true) →
    (h : List Hearing) (a : A) → HalvesInRange h → latest (λ m. told (half_in m)) h ≡ Some a → good a ≡ true
latest_in_range told good each [] a all e = absurd (cc)
latest_in_range told good each (forgot ∷ h) a all e = absurd (cc)
latest_in_range {A} told good each (heard m ∷ h) a all e =
    let P : Option A → Type 0 = λ o. told (half_in m) ≡ o → option_or o (latest (λ m. told (half_in m)) h) ≡ Some a → good a ≡ true in
    let go : (o : Option A) → P o = λ o. elim o as P [
      | None ↦ λ t f. latest_in_range told good each h a all.1 f
      | Some b ↦ λ t f. each (half_in m) a all.0 (cc)
    ] in
    go (told (half_in m)) refl e

latitude_good : (half : Option LocationHalf) (a : LatitudeHalf) → none_or_in_range half ≡ true → latitude_of half ≡ Some a → latitude_in_range a ≡ true
latitude_good None a g e = absurd (cc)
latitude_good (Some (Latitude b)) a g e = let same : b ≡ a = cc in rw (← same) g
latitude_good (Some (Longitude b)) a g e = absurd (cc)

longitude_good : (half : Option LocationHalf) (a : LongitudeHalf) → none_or_in_range half ≡ true → longitude_of half ≡ Some a → longitude_in_range a ≡ true
longitude_good None a g e = absurd (cc)
longitude_good (Some (Latitude b)) a g e = absurd (cc)
longitude_good (Some (Longitude b)) a g e = let same : b ≡ a = cc in rw (← same) g

-- halves in range are never refused as out of range
from_in_range : (a : Option LatitudeHalf) (b : Option LongitudeHalf) → ((x : LatitudeHalf) → a ≡ Some x → latitude_in_range x ≡ true) → ((y : LongitudeHalf) → b ≡ Some y → longitude_in_range y ≡ true) →
    location_from a b ≡ Err OutOfRange → ⊥
from_in_range None b p q e = cc
from_in_range (Some x) None p q e = cc
from_in_range (Some x) (Some y) p q e =
    let t : (latitude_in_range x && longitude_in_range y) ≡ true = and_from _ _ (p x refl) (q y refl) in
    let f = rw t at e in
    cc

pub located : (h : List Hearing) → HalvesInRange h → location_due h ≡ Err OutOfRange → ⊥
located h all =
    from_in_range (latest latitude_in h) (latest longitude_in h)
    (λ x. latest_in_range latitude_of latitude_in_range latitude_good h x all)
    (λ y. latest_in_range longitude_of longitude_in_range longitude_good h y all)

-- a message with a payload, as each that was read, is in range
pub half_in_range_lem : (m : Message) (p : ℕ) → payload_of m ≡ Ok p → none_or_in_range (half_in m) ≡ true
half_in_range_lem (StationId s) p e = refl
half_in_range_lem (ShortName s) p e = refl
half_in_range_lem (Frame place x) p e = refl
half_in_range_lem (Location half) p e = (range_parts (half_in_range half) (half_packed half) p e).0
half_in_range_lem (Service s) p e = refl
half_in_range_lem (Parameter q) p e = refl
half_in_range_lem (Universal x) p e = refl
