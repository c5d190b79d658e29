-- Message 7, a parameter: index 6 bits, value 16. Index 0 is the pending and the current leap seconds, two signed bytes; index 3 is the local time: offset from UTC in minutes, signed, 11 bits, schedule 3, and two flags of daylight saving time. Other values are not read.
use Rattle.std.specs.Prelude.{ℕ, ◌+◌, ◌*◌, Bool, cond, not, ◌&&◌, ◌==◌, nat_lt}
use Rattle.pdu.specs.Fields.{flag, bit_of}
use Rattle.message.specs.declared.parameter.LeapSeconds.{LeapSeconds}
use Rattle.message.specs.declared.parameter.LocalTime.{LocalTime}
use Rattle.message.specs.declared.parameter.Parameter.{Parameter}
use Rattle.message.specs.declared.parameter.Parameter.TheVariants.{Leap, Local, Unread}
use Rattle.message.specs.Bits.{field, signed, unsigned, fits_signed}

abbrev pub leap_of : ℕ → LeapSeconds
leap_of p = record { pending = signed 128 (field 8 8 p); current = signed 128 (field 8 0 p) }

abbrev pub local_of : ℕ → LocalTime
local_of p = record { offset = record { 0 = signed 1024 (field 11 5 p) }; schedule = field 3 2 p; practised_locally = flag (field 1 1 p); in_effect = flag (field 1 0 p) }

abbrev pub parameter_of : ℕ → Parameter
parameter_of p = cond (field 6 16 p == 0) (Leap (leap_of p)) (cond (field 6 16 p == 3) (Local (local_of p)) (Unread (field 6 16 p) (field 16 0 p)))

-- An index has six bits, and those that are read have a case of their own.
abbrev pub parameter_in_range : Parameter → Bool
parameter_in_range (Leap l) = fits_signed 128 l.pending && fits_signed 128 l.current
parameter_in_range (Local l) = fits_signed 1024 l.offset.0 && nat_lt l.schedule 8
parameter_in_range (Unread i v) = (nat_lt i 64 && not (i == 0)) && not (i == 3)

abbrev pub parameter_packed : Parameter → ℕ
parameter_packed (Leap l) = unsigned 128 l.pending * 256 + unsigned 128 l.current
parameter_packed (Local l) = 3 * 65536 + ((unsigned 1024 l.offset.0 * 8 + l.schedule) * 2 + bit_of l.practised_locally) * 2 + bit_of l.in_effect
parameter_packed (Unread i v) = i * 65536 + v
