-- When what is kept of a station agrees with what was heard.
use Rattle.std.specs.Prelude.{◌≡◌, ℕ, ◌<◌, List, None, Option, slice_index_or}
use Rattle.std.specs.Option.{option_or}
use Rattle.message.specs.declared.message.Message.{Message}
use Rattle.message.specs.declared.service.AudioService.{AudioService}
use Rattle.station_information.specs.declared.information.StationInformation.{StationInformation}
use Rattle.station_information.specs.declared.information.Program.{Program}
use Rattle.station_information.specs.Hearings.{Hearing, latest}
use Rattle.station_information.specs.Latest.{station_id_in, short_name_in, latitude_in, longitude_in, leap_in, local_in, program_in}

-- The audio service of program n in the table of programs.
abbrev pub audio_at : ℕ → List Program → Option AudioService
audio_at n programs = (slice_index_or programs n (record { audio = None })).audio

-- Each part is the latest that was heard of it.
pub record Tells (h : List Hearing) (k : StationInformation) : Type 0 where
  pub station_id_is : k.station_id ≡ latest station_id_in h
  pub short_name_is : k.short_name ≡ latest short_name_in h
  pub latitude_is : k.latitude ≡ latest latitude_in h
  pub longitude_is : k.longitude ≡ latest longitude_in h
  pub leap_seconds_are : k.leap_seconds ≡ latest leap_in h
  pub local_time_is : k.local_time ≡ latest local_in h
  pub programs_are : (n : ℕ) → n < 64 → audio_at n k.programs ≡ latest (program_in n) h

-- What holds of what is kept whatever was heard, as long as it tells that.
-- What was heard is no part of the value, so a contract speaks of every list of hearings that it tells.
abbrev pub InEveryHistory : StationInformation → (List Hearing → Type 0) → Type 0
InEveryHistory k P = (h : List Hearing) → Tells h k → P h

-- Each part is what the message m tells of it, or else as it was before.
pub record Updated (m : Message) (before after : StationInformation) : Type 0 where
  pub station_id_is : after.station_id ≡ option_or (station_id_in m) before.station_id
  pub short_name_is : after.short_name ≡ option_or (short_name_in m) before.short_name
  pub latitude_is : after.latitude ≡ option_or (latitude_in m) before.latitude
  pub longitude_is : after.longitude ≡ option_or (longitude_in m) before.longitude
  pub leap_seconds_are : after.leap_seconds ≡ option_or (leap_in m) before.leap_seconds
  pub local_time_is : after.local_time ≡ option_or (local_in m) before.local_time
  pub programs_are : (n : ℕ) → n < 64 → audio_at n after.programs ≡ option_or (program_in n m) (audio_at n before.programs)
