-- Message 0, the station ID, and message 1, the short name.
use Rattle.std.specs.Prelude.{ℕ, ◌+◌, ◌*◌, ◌/◌, ◌%◌, ◌^◌, Bool, cond, ◌&&◌, List, [], ◌∷◌, ◌++◌, map, Some, None, Ok, Err, codes, Option, Result, ◌==◌, nat_le, nat_lt, slice_index_or}
use Rattle.pdu.specs.declared.refusal.Refusal.{Refusal}
use Rattle.pdu.specs.declared.refusal.Refusal.TheVariants.{OutOfRange}
use Rattle.message.specs.declared.station.StationId.{StationId}
use Rattle.message.specs.declared.station.CallSignExtension.{CallSignExtension}
use Rattle.message.specs.declared.station.CallSignExtension.TheVariants.{Nothing, DashFm}
use Rattle.message.specs.declared.station.ShortName.{ShortName}
use Rattle.message.specs.Bits.{field}
use Rattle.message.specs.Results.{in_range, and_then}

-- The station ID: country code 10 bits, reserved 3, facility 19.
abbrev pub station_of : ℕ → StationId
station_of p = record { country = record { 0 = field 10 22 p }; reserved = field 3 19 p; facility = field 19 0 p }

abbrev pub station_in_range : StationId → Bool
station_in_range s = (nat_lt s.country.0 1024 && nat_lt s.reserved 8) && nat_lt s.facility (2 ^ 19)

abbrev pub station_packed : StationId → ℕ
station_packed s = (s.country.0 * 8 + s.reserved) * 2 ^ 19 + s.facility

-- The two letters of a country code, if both of its halves are letters: A is 0, and its character code is 65.
abbrev pub letters_of : ℕ → Option (ℕ × ℕ)
letters_of code = cond (nat_le (code / 32) 25 && nat_le (code % 32) 25) (Some (65 + code / 32, 65 + code % 32)) None

-- The 32 codes of a short name's characters; the last one is no character.
abbrev pub symbols : List (Option ℕ)
symbols = map Some (codes "ABCDEFGHIJKLMNOPQRSTUVWXYZ ?-*$") ++ (None ∷ [])

-- The character that a code stands for.
abbrev pub symbol_of : ℕ → Option ℕ
symbol_of code = slice_index_or symbols code None

-- The extension: 0 is none, 1 is "-FM"; 2 and 3 are refused.
abbrev pub extension_of : ℕ → Result CallSignExtension Refusal
extension_of n = cond (n == 0) (Ok Nothing) (cond (n == 1) (Ok DashFm) (Err OutOfRange))

abbrev pub extension_bits : CallSignExtension → ℕ
extension_bits Nothing = 0
extension_bits DashFm = 1

-- The short name: four characters of 5 bits, extension 2.
abbrev pub short_name_with : ℕ → CallSignExtension → ShortName
short_name_with p e = record {
  characters = (record { 0 = field 5 17 p }, record { 0 = field 5 12 p }, record { 0 = field 5 7 p }, record { 0 = field 5 2 p });
  extension = e;
}

-- No character has code 31.
abbrev pub short_name_in_range : ShortName → Bool
short_name_in_range s = (nat_lt s.characters.0.0 31 && nat_lt s.characters.1.0 31) && (nat_lt s.characters.2.0 31 && nat_lt s.characters.3.0 31)

abbrev pub short_name_of : ℕ → Result ShortName Refusal
short_name_of p = and_then (extension_of (field 2 0 p)) (λ e. in_range (short_name_in_range (short_name_with p e)) (short_name_with p e))

abbrev pub short_name_packed : ShortName → ℕ
short_name_packed s = (((s.characters.0.0 * 32 + s.characters.1.0) * 32 + s.characters.2.0) * 32 + s.characters.3.0) * 4 + extension_bits s.extension
