-- What one message tells of a station.
use Rattle.std.specs.Prelude.{ℕ, Bool, true, false, cond, List, Some, None, Err, Option, Result, ◌==◌, nat_lt}
use Rattle.std.specs.Option.{ok_or}
use Rattle.pdu.specs.declared.refusal.Refusal.{Refusal}
use Rattle.pdu.specs.declared.refusal.Refusal.TheVariants.{OutOfRange, NothingThere}
use Rattle.message.specs.declared.message.Message.{Message}
use Rattle.message.specs.declared.message.Message.TheVariants.{StationId, ShortName, Frame, Location, Service, Parameter, Universal}
use Rattle.message.specs.declared.station.StationId.{StationId as Id}
use Rattle.message.specs.declared.station.ShortName.{ShortName as Short}
use Rattle.message.specs.declared.location.Angle.{Angle}
use Rattle.message.specs.declared.location.Altitude.{Altitude}
use Rattle.message.specs.declared.location.LocationHalf.{LocationHalf}
use Rattle.message.specs.declared.location.LocationHalf.TheVariants.{Latitude, Longitude}
use Rattle.message.specs.declared.service.AudioService.{AudioService}
use Rattle.message.specs.declared.service.Service.{Service as ServiceType}
use Rattle.message.specs.declared.service.Service.TheVariants.{Audio, Data}
use Rattle.message.specs.declared.parameter.LeapSeconds.{LeapSeconds}
use Rattle.message.specs.declared.parameter.LocalTime.{LocalTime}
use Rattle.message.specs.declared.parameter.Parameter.{Parameter as ParameterType}
use Rattle.message.specs.declared.parameter.Parameter.TheVariants.{Leap, Local, Unread}
use Rattle.message.specs.Location.{LatitudeHalf, LongitudeHalf, location_of}
use Rattle.station_information.specs.Hearings.{Hearing, latest}

-- Whether a message tells nothing of the station: a text frame, 58 unread bits, a data service, an unread parameter.
abbrev pub is_unread : Message → Bool
is_unread (StationId s) = false
is_unread (ShortName s) = false
is_unread (Frame p x) = true
is_unread (Location h) = false
is_unread (Service (Audio a)) = false
is_unread (Service (Data d)) = true
is_unread (Parameter (Leap l)) = false
is_unread (Parameter (Local l)) = false
is_unread (Parameter (Unread i v)) = true
is_unread (Universal x) = true

-- The station ID in a message.
abbrev pub station_id_in : Message → Option Id
station_id_in (StationId s) = Some s
station_id_in (ShortName s) = None
station_id_in (Frame p x) = None
station_id_in (Location h) = None
station_id_in (Service s) = None
station_id_in (Parameter q) = None
station_id_in (Universal x) = None

-- The short name in a message.
abbrev pub short_name_in : Message → Option Short
short_name_in (StationId s) = None
short_name_in (ShortName s) = Some s
short_name_in (Frame p x) = None
short_name_in (Location h) = None
short_name_in (Service s) = None
short_name_in (Parameter q) = None
short_name_in (Universal x) = None

-- The half of the location in a message.
abbrev pub half_in : Message → Option LocationHalf
half_in (StationId s) = None
half_in (ShortName s) = None
half_in (Frame p x) = None
half_in (Location h) = Some h
half_in (Service s) = None
half_in (Parameter q) = None
half_in (Universal x) = None

-- The service in a message.
abbrev pub service_in : Message → Option ServiceType
service_in (StationId s) = None
service_in (ShortName s) = None
service_in (Frame p x) = None
service_in (Location h) = None
service_in (Service s) = Some s
service_in (Parameter q) = None
service_in (Universal x) = None

-- The parameter in a message.
abbrev pub parameter_in : Message → Option ParameterType
parameter_in (StationId s) = None
parameter_in (ShortName s) = None
parameter_in (Frame p x) = None
parameter_in (Location h) = None
parameter_in (Service s) = None
parameter_in (Parameter q) = Some q
parameter_in (Universal x) = None

-- The half of the location with the latitude.
abbrev pub latitude_of : Option LocationHalf → Option LatitudeHalf
latitude_of None = None
latitude_of (Some (Latitude h)) = Some h
latitude_of (Some (Longitude h)) = None

-- The half with the latitude in a message.
abbrev pub latitude_in : Message → Option LatitudeHalf
latitude_in m = latitude_of (half_in m)

-- The half of the location with the longitude.
abbrev pub longitude_of : Option LocationHalf → Option LongitudeHalf
longitude_of None = None
longitude_of (Some (Latitude h)) = None
longitude_of (Some (Longitude h)) = Some h

-- The half with the longitude in a message.
abbrev pub longitude_in : Message → Option LongitudeHalf
longitude_in m = longitude_of (half_in m)

-- The audio service of one program.
abbrev pub program_of : ℕ → Option ServiceType → Option AudioService
program_of n None = None
program_of n (Some (Data d)) = None
program_of n (Some (Audio a)) = cond (a.program == n) (Some a) None

-- The audio service of program n in a message.
abbrev pub program_in : ℕ → Message → Option AudioService
program_in n m = program_of n (service_in m)

-- The leap seconds.
abbrev pub leap_of : Option ParameterType → Option LeapSeconds
leap_of None = None
leap_of (Some (Leap l)) = Some l
leap_of (Some (Local l)) = None
leap_of (Some (Unread i v)) = None

-- The leap seconds in a message.
abbrev pub leap_in : Message → Option LeapSeconds
leap_in m = leap_of (parameter_in m)

-- The local time.
abbrev pub local_of : Option ParameterType → Option LocalTime
local_of None = None
local_of (Some (Leap l)) = None
local_of (Some (Local l)) = Some l
local_of (Some (Unread i v)) = None

-- The local time in a message.
abbrev pub local_in : Message → Option LocalTime
local_in m = local_of (parameter_in m)

-- What a question answers: 22 while nothing was heard.
abbrev pub or_nothing : {A : Type 0} → Option A → Result A Refusal
or_nothing o = ok_or o NothingThere

-- The location, once both of its halves were heard.
abbrev pub location_from : Option LatitudeHalf → Option LongitudeHalf → Result (Angle × Angle × Altitude) Refusal
location_from None b = Err NothingThere
location_from (Some a) None = Err NothingThere
location_from (Some a) (Some b) = location_of a b

-- What the question about the location answers.
abbrev pub location_due : List Hearing → Result (Angle × Angle × Altitude) Refusal
location_due h = location_from (latest latitude_in h) (latest longitude_in h)

-- The entry of a program; numbers above 63 are out of range.
abbrev pub program_due : ℕ → List Hearing → Result AudioService Refusal
program_due n h = cond (nat_lt n 64) (or_nothing (latest (program_in n) h)) (Err OutOfRange)
