-- Message 6, a service: category 2 bits; audio (0) is access 1, program 6, type 8, reserved 5, sound 5; data (1) is 25 unread bits; 2 and 3 are refused.
use Rattle.std.specs.Prelude.{ℕ, ◌+◌, ◌*◌, ◌^◌, Bool, cond, ◌&&◌, Ok, Err, Result, ◌==◌, nat_lt}
use Rattle.pdu.specs.declared.refusal.Refusal.{Refusal}
use Rattle.pdu.specs.declared.refusal.Refusal.TheVariants.{OutOfRange}
use Rattle.pdu.specs.Fields.{flag, bit_of}
use Rattle.message.specs.declared.service.AudioService.{AudioService}
use Rattle.message.specs.declared.service.Service.{Service}
use Rattle.message.specs.declared.service.Service.TheVariants.{Audio, Data}
use Rattle.message.specs.Bits.{field}

abbrev pub audio_of : ℕ → AudioService
audio_of p = record { restricted = flag (field 1 24 p); program = field 6 18 p; program_type = field 8 10 p; reserved = field 5 5 p; sound = field 5 0 p }

abbrev pub service_of : ℕ → Result Service Refusal
service_of p = cond (field 2 25 p == 0) (Ok (Audio (audio_of p))) (cond (field 2 25 p == 1) (Ok (Data (field 25 0 p))) (Err OutOfRange))

abbrev pub service_in_range : Service → Bool
service_in_range (Audio a) = (nat_lt a.program 64 && nat_lt a.reserved 32) && nat_lt a.sound 32
service_in_range (Data d) = nat_lt d (2 ^ 25)

abbrev pub service_packed : Service → ℕ
service_packed (Audio a) = (((bit_of a.restricted * 64 + a.program) * 256 + a.program_type) * 32 + a.reserved) * 32 + a.sound
service_packed (Data d) = 2 ^ 25 + d
