-- The worked bytes: what known bytes say, by the definitions that the calls' contracts use.
use Rattle.std.specs.Prelude.{◌≡◌, ℕ, ◌+◌, ◌*◌, ◌/◌, ◌^◌, Bool, true, false, List, [], ◌∷◌, pos, negsuc, Some, None, Ok, codes, slice_index_or, refl}
use Rattle.std.proofs.Common.{lit<}
use Rattle.message.specs.declared.location.Angle.{Angle}
use Rattle.message.specs.declared.location.Altitude.{Altitude}
use Rattle.message.specs.declared.location.LocationHalf.TheVariants.{Latitude, Longitude}
use Rattle.message.specs.declared.message.Message.{Message as MessageType}
use Rattle.message.specs.declared.message.Message.TheVariants.{StationId, Frame, Location, Parameter}
use Rattle.message.specs.declared.parameter.Parameter.TheVariants.{Local}
use Rattle.message.specs.declared.place.Place.TheVariants.{Name, Message, Alert}
use Rattle.message.specs.Location.{LatitudeHalf, LongitudeHalf, location_of}
use Rattle.message.specs.Message.{parsed}
use Rattle.family.specs.Meaning.{RecordOf, Meaning}
use Rattle.family.specs.Family.{meaning_of}
use Rattle.name.specs.Name.{name_layout}
use Rattle.station_message.specs.declared.message.MessageHead.{MessageHead}
use Rattle.station_message.specs.Message.{message_layout}
use Rattle.alert.specs.declared.alert.Alert.{Alert as AlertFamily}
use Rattle.alert.specs.declared.alert.AlertHead.{AlertHead}
use Rattle.alert.specs.Alert.{alert_layout}
use Rattle.contents.specs.declared.contents.Contents.{Contents}
use Rattle.contents.specs.Contents.{read_from}

-- A PDU's bytes with what they say; a message's number and payload with what they say; two halves with the location that they tell; a record of each family, cut under sequence number 0.
pub data Entry : Type 0 where
  bytes : List ℕ → Contents → Entry
  payload : ℕ → ℕ → MessageType → Entry
  halves : LatitudeHalf → LongitudeHalf → Angle × Angle × Altitude → Entry
  name_cut : List ℕ → List ℕ → Entry
  message_cut : RecordOf MessageHead → List ℕ → Entry
  alert_cut : RecordOf AlertHead → List ℕ → Entry

-- The record is lawful, the frames are its cut, and they join to it.
pub record Carries {S T : Type 0} (m : Meaning S T) (s : S) (r : RecordOf T) (xs : List ℕ) : Type 0 where
  pub lawful : m.refusal s r ≡ None
  pub cut : m.cut s r 0 ≡ xs
  pub joined : m.joined s xs ≡ Some r

-- The alerts with generator 9.
abbrev alerts : AlertFamily
alerts = record { generator = 9; small = lit< tt; odd = refl }

abbrev pub Right : Entry → Type 0
Right (bytes bs c) = read_from bs ≡ Ok c
Right (payload n p m) = parsed n p ≡ Ok m
Right (halves a b l) = location_of a b ≡ Ok l
Right (name_cut t xs) = Carries (meaning_of name_layout) (record {}) (record { head = tt; text = t }) xs
Right (message_cut r xs) = Carries (meaning_of message_layout) (record {}) r xs
Right (alert_cut r xs) = Carries (meaning_of alert_layout) alerts r xs

-- One message, and neither the reserved bit nor a bit of the pair is set.
abbrev alone : MessageType → Bool → Contents
alone m locked = record { first = m; second = None; reserved = false; time_locked = locked; pair = 0 }

abbrev country : ℕ → MessageType
country code = StationId (record { country = record { 0 = code }; reserved = 0; facility = 0 })

abbrev pub pdus : List (List ℕ)
pdus =
    (0x00 ∷ 0x40 ∷ 0x00 ∷ 0x00 ∷ 0x00 ∷ 0x00 ∷ 0x00 ∷ 0x00 ∷ 0x02 ∷ 0x00 ∷ [])
    ∷ (0x00 ∷ 0x40 ∷ 0x00 ∷ 0x00 ∷ 0x00 ∷ 0x00 ∷ 0x00 ∷ 0x00 ∷ 0x4A ∷ 0x97 ∷ [])
    ∷ (0x02 ∷ 0x92 ∷ 0x00 ∷ 0x00 ∷ 0x00 ∷ 0x00 ∷ 0x00 ∷ 0x00 ∷ 0x01 ∷ 0x71 ∷ [])
    ∷ (0x14 ∷ 0x00 ∷ 0x02 ∷ 0x41 ∷ 0x54 ∷ 0x45 ∷ 0x53 ∷ 0x54 ∷ 0x0D ∷ 0x66 ∷ [])
    ∷ (0x08 ∷ 0x08 ∷ 0x20 ∷ 0x00 ∷ 0x00 ∷ 0x00 ∷ 0x00 ∷ 0x00 ∷ 0x03 ∷ 0x62 ∷ [])
    ∷ (0x24 ∷ 0x00 ∷ 0x00 ∷ 0x70 ∷ 0x03 ∷ 0x00 ∷ 0x00 ∷ 0x00 ∷ 0x00 ∷ 0x8E ∷ [])
    ∷ (0x24 ∷ 0x10 ∷ 0x00 ∷ 0x00 ∷ 0x00 ∷ 0x00 ∷ 0x00 ∷ 0x00 ∷ 0x08 ∷ 0x24 ∷ [])
    ∷ []

-- Frame 0 of the message "TEST": length 4 and checksum 65, then the four characters.
abbrev test : ℕ
test = (4 * 2 ^ 7 + 65) * 2 ^ 32 + 0x54455354

-- The only frame of the name "A": the first of seven characters.
abbrev letter_a : ℕ
letter_a = 65 * 2 ^ 45

-- The two frames of an alert of seven zero bytes: length 7, check 0, control length 3; and frame number 1.
abbrev alert0 : ℕ
alert0 = (7 * 2 ^ 12 + 3) * 2 ^ 24

abbrev alert1 : ℕ
alert1 = 2 ^ 52

-- The two known halves of a location, each 27 bits left-justified in 28.
abbrev latitude : LatitudeHalf
latitude = record { angle = record { 0 = pos 321095 }; altitude = 0 }

abbrev longitude : LongitudeHalf
longitude = record { angle = record { 0 = negsuc 629296 }; altitude = 6 }

-- The local time with the offset 11011010100, 1748 without its sign, which is −300 minutes.
abbrev eastern : MessageType
eastern = Parameter (Local (record { offset = record { 0 = negsuc 299 }; schedule = 0; practised_locally = false; in_effect = false }))

abbrev pub table : List Entry
table =
    bytes (slice_index_or pdus 0 []) (alone (country 64) false)
    ∷ bytes (slice_index_or pdus 1 []) (alone (country 64) true)
    ∷ bytes (slice_index_or pdus 2 []) (alone (country 658) false)
    ∷ bytes (slice_index_or pdus 3 []) (alone (Frame Message test) false)
    ∷ bytes (slice_index_or pdus 4 []) (alone (Frame Name letter_a) false)
    ∷ bytes (slice_index_or pdus 5 []) (alone (Frame Alert alert0) false)
    ∷ bytes (slice_index_or pdus 6 []) (alone (Frame Alert alert1) false)
    ∷ payload 4 (0x89CC8E0 / 2) (Location (Latitude latitude))
    ∷ payload 4 (0x6CCB9EC / 2) (Location (Longitude longitude))
    ∷ halves latitude longitude (record { 0 = pos 321095 }, record { 0 = negsuc 629296 }, record { 0 = 6 })
    ∷ payload 7 (3 * 2 ^ 16 + 1748 * 2 ^ 5) eastern
    ∷ name_cut (codes "A") (letter_a ∷ [])
    ∷ message_cut (record { head = record { priority = 0; encoding = 0 }; text = codes "TEST" }) (test ∷ [])
    ∷ alert_cut (record { head = record { encoding = 0; control_length = 3 }; text = 0 ∷ 0 ∷ 0 ∷ 0 ∷ 0 ∷ 0 ∷ 0 ∷ [] }) (alert0 ∷ alert1 ∷ [])
    ∷ []
