-- A message: its number, and what its payload says.
use Rattle.std.specs.Prelude.{ℕ, ◌^◌, cond, List, [], ◌∷◌, Some, None, Ok, Err, Option, Result, ◌==◌, nat_lt, slice_index_or}
use Rattle.pdu.specs.declared.refusal.Refusal.{Refusal}
use Rattle.pdu.specs.declared.refusal.Refusal.TheVariants.{ReservedMessage, OutOfRange}
use Rattle.message.specs.declared.message.Message.{Message as MessageType}
use Rattle.message.specs.declared.message.Message.TheVariants.{StationId, ShortName, Frame, Location, Service, Parameter, Universal}
use Rattle.message.specs.Place.{place_number, place_with}
use Rattle.message.specs.Results.{in_range, and_then}
use Rattle.message.specs.Station.{station_of, station_in_range, station_packed, short_name_of, short_name_in_range, short_name_packed}
use Rattle.message.specs.Location.{half_of, half_in_range, half_packed}
use Rattle.message.specs.Service.{service_of, service_in_range, service_packed}
use Rattle.message.specs.Parameter.{parameter_of, parameter_in_range, parameter_packed}

-- The payload sizes in bits, by message number; numbers 3 and 10 to 15 are reserved.
abbrev pub sizes : List (Option ℕ)
sizes = Some 32 ∷ Some 22 ∷ Some 58 ∷ None ∷ Some 27 ∷ Some 58 ∷ Some 27 ∷ Some 22 ∷ Some 58 ∷ Some 58 ∷ None ∷ None ∷ None ∷ None ∷ None ∷ None ∷ []

abbrev pub size_of : ℕ → Option ℕ
size_of n = slice_index_or sizes n None

-- The number of a message.
abbrev pub number_of : MessageType → ℕ
number_of (StationId s) = 0
number_of (ShortName s) = 1
number_of (Frame place x) = place_number place
number_of (Location h) = 4
number_of (Service s) = 6
number_of (Parameter q) = 7
number_of (Universal x) = 8

-- What a payload of a message that is no text frame says.
abbrev pub single_of : ℕ → ℕ → Result MessageType Refusal
single_of n p =
    cond (n == 0) (Ok (StationId (station_of p)))
    (cond (n == 1) (and_then (short_name_of p) (λ s. Ok (ShortName s)))
    (cond (n == 4) (and_then (in_range (half_in_range (half_of p)) (half_of p)) (λ h. Ok (Location h)))
    (cond (n == 6) (and_then (service_of p) (λ s. Ok (Service s)))
    (cond (n == 7) (Ok (Parameter (parameter_of p)))
    (cond (n == 8) (Ok (Universal p)) (Err ReservedMessage))))))

-- What a payload says: a frame of a text where the number is a place's.
abbrev pub message_of : ℕ → ℕ → Result MessageType Refusal
message_of n p = elim (place_with n) [ Some place ↦ Ok (Frame place p) | None ↦ single_of n p ]

-- What any payload says under any message number: first a reserved number is refused, then a payload that does not fit the size.
abbrev pub parsed : ℕ → ℕ → Result MessageType Refusal
parsed n p = elim (size_of n) [ None ↦ Err ReservedMessage | Some size ↦ cond (nat_lt p (2 ^ size)) (message_of n p) (Err OutOfRange) ]

-- The payload of a message whose fields are in range.
abbrev pub payload_of : MessageType → Result ℕ Refusal
payload_of (StationId s) = in_range (station_in_range s) (station_packed s)
payload_of (ShortName s) = in_range (short_name_in_range s) (short_name_packed s)
payload_of (Frame place x) = in_range (nat_lt x (2 ^ 58)) x
payload_of (Location h) = in_range (half_in_range h) (half_packed h)
payload_of (Service s) = in_range (service_in_range s) (service_packed s)
payload_of (Parameter q) = in_range (parameter_in_range q) (parameter_packed q)
payload_of (Universal x) = in_range (nat_lt x (2 ^ 58)) x
