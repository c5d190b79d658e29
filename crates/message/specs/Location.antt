-- Message 4, one half of the transmitter's location: bit 1, latitude 22 bits, upper four altitude bits; or bit 0, longitude 22, lower four.
use Rattle.std.specs.Prelude.{ℕ, ◌+◌, ◌*◌, ◌^◌, Bool, cond, ◌&&◌, Result, ◌==◌, nat_le, nat_lt, unsigned_abs}
use Rattle.pdu.specs.declared.refusal.Refusal.{Refusal}
use Rattle.message.specs.declared.location.Angle.{Angle}
use Rattle.message.specs.declared.location.Altitude.{Altitude}
use Rattle.message.specs.declared.location.Half.{Half}
use Rattle.message.specs.declared.location.LocationHalf.{LocationHalf}
use Rattle.message.specs.declared.location.LocationHalf.TheVariants.{Latitude, Longitude}
use Rattle.message.specs.Bits.{field, signed, unsigned}
use Rattle.message.specs.Results.{in_range}

-- An angle of 22 bits, signed, in units of 1/8192 degree.
abbrev pub angle_of : ℕ → Angle
angle_of p = record { 0 = signed (2 ^ 21) (field 22 4 p) }

-- A latitude is within 90 degrees, a longitude within 180.
abbrev pub latitude_limit : ℕ
latitude_limit = 90 * 8192

abbrev pub longitude_limit : ℕ
longitude_limit = 180 * 8192

abbrev pub LatitudeHalf : Type 0
LatitudeHalf = Half latitude_limit

abbrev pub LongitudeHalf : Type 0
LongitudeHalf = Half longitude_limit

-- The half in a payload, under the limit of its angle: the angle, then four bits of the altitude.
abbrev pub half_under : (limit : ℕ) → ℕ → Half limit
half_under limit p = record { angle = angle_of p; altitude = field 4 0 p }

abbrev pub half_of : ℕ → LocationHalf
half_of p = cond (field 1 26 p == 1) (Latitude (half_under latitude_limit p)) (Longitude (half_under longitude_limit p))

-- The angle is within its limit, and the altitude has four bits.
abbrev pub in_range_under : (limit : ℕ) → Half limit → Bool
in_range_under limit h = nat_le (unsigned_abs h.angle.0) limit && nat_lt h.altitude 16

abbrev pub latitude_in_range : LatitudeHalf → Bool
latitude_in_range h = in_range_under latitude_limit h

abbrev pub longitude_in_range : LongitudeHalf → Bool
longitude_in_range h = in_range_under longitude_limit h

abbrev pub half_in_range : LocationHalf → Bool
half_in_range (Latitude h) = latitude_in_range h
half_in_range (Longitude h) = longitude_in_range h

-- The angle, followed by the altitude's bits.
abbrev pub packed_under : (limit : ℕ) → Half limit → ℕ
packed_under limit h = unsigned (2 ^ 21) h.angle.0 * 16 + h.altitude

abbrev pub half_packed : LocationHalf → ℕ
half_packed (Latitude h) = 2 ^ 26 + packed_under latitude_limit h
half_packed (Longitude h) = packed_under longitude_limit h

-- The location that two halves tell together: latitude, longitude, and the altitude in units of 16 m.
abbrev pub location_of : LatitudeHalf → LongitudeHalf → Result (Angle × Angle × Altitude) Refusal
location_of a b = in_range (latitude_in_range a && longitude_in_range b) (a.angle, b.angle, record { 0 = a.altitude * 16 + b.altitude })
