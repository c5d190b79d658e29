-- What is due of a monitor after what it heard.
use Rattle.std.specs.Prelude.{ℕ, List, Some, None, Ok, Err, Option, Result}
use Rattle.pdu.specs.declared.refusal.Refusal.{Refusal}
use Rattle.pdu.specs.declared.refusal.Refusal.TheVariants.{HeadSettingOrPlace}
use Rattle.message.specs.declared.place.Place.{Place}
use Rattle.message.specs.declared.place.Place.TheVariants.{Name, Message, Alert}
use Rattle.message.specs.declared.message.Message.{Message as MessageType}
use Rattle.message.specs.declared.message.Message.TheVariants.{StationId, ShortName, Frame, Location, Service, Parameter, Universal}
use Rattle.message.specs.Place.{place_with}
use Rattle.message.specs.Results.{and_then}
use Rattle.transport.specs.Transport.{read_with}
use Rattle.transport.specs.Families.{FamilyOf, Families, lawful_in}
use Rattle.gatherer.specs.declared.answer.Answer.{Answer}
use Rattle.gatherer.specs.Series.{missing_due}
use Rattle.gatherer.specs.Due.{answer_due, fresh_due}
use Rattle.station_information.specs.Hearings.{Hearing}
use Rattle.monitor.specs.Calls.{Call, hearings, events_at}

-- The answer that a place's family makes due to the frame x.
abbrev pub answer_at : {S T : Type 0} → FamilyOf S T → Place → List Hearing → ℕ → Answer
answer_at f p k x = answer_due f.meaning f.setting (events_at p k) x

-- The answer due to a frame, by its place.
abbrev pub frame_answer : {N T M U E V : Type 0} → Families N T M U E V → List Hearing → Place → ℕ → Answer
frame_answer f k Name x = answer_at f.name Name k x
frame_answer f k Message x = answer_at f.message Message k x
frame_answer f k Alert x = answer_at f.alert Alert k x

-- The answer due to a message: a text frame answers by its place.
abbrev pub message_answer : {N T M U E V : Type 0} → Families N T M U E V → List Hearing → MessageType → Option Answer
message_answer f k (Frame p x) = Some (frame_answer f k p x)
message_answer f k (StationId s) = None
message_answer f k (ShortName s) = None
message_answer f k (Location h) = None
message_answer f k (Service s) = None
message_answer f k (Parameter q) = None
message_answer f k (Universal x) = None

-- The answer due to an offer: that of its first message, since a frame fills the message area and is never one of two.
abbrev pub offer_due : {N T M U E V : Type 0} → Families N T M U E V → List Call → List ℕ → Result (Option Answer) Refusal
offer_due f h bs = and_then (read_with (lawful_in f) bs) (λ c. Ok (message_answer f (hearings (lawful_in f) h) c.first))

-- The fresh count of the place with a message number.
abbrev pub placed_fresh : {N T M U E V : Type 0} → Families N T M U E V → List Hearing → Option Place → Result ℕ Refusal
placed_fresh f k None = Err HeadSettingOrPlace
placed_fresh f k (Some Name) = Ok (fresh_due f.name.meaning f.name.setting (events_at Name k))
placed_fresh f k (Some Message) = Ok (fresh_due f.message.meaning f.message.setting (events_at Message k))
placed_fresh f k (Some Alert) = Ok (fresh_due f.alert.meaning f.alert.setting (events_at Alert k))

-- The sum of 2^i over the missing frames i of the place with a message number.
abbrev pub placed_missing : {N T M U E V : Type 0} → Families N T M U E V → List Hearing → Option Place → Result ℕ Refusal
placed_missing f k None = Err HeadSettingOrPlace
placed_missing f k (Some Name) = missing_due f.name.meaning f.name.setting (events_at Name k)
placed_missing f k (Some Message) = missing_due f.message.meaning f.message.setting (events_at Message k)
placed_missing f k (Some Alert) = missing_due f.alert.meaning f.alert.setting (events_at Alert k)

abbrev pub fresh_count_due : {N T M U E V : Type 0} → Families N T M U E V → List Call → ℕ → Result ℕ Refusal
fresh_count_due f h n = placed_fresh f (hearings (lawful_in f) h) (place_with n)

abbrev pub missing_sum_due : {N T M U E V : Type 0} → Families N T M U E V → List Call → ℕ → Result ℕ Refusal
missing_sum_due f h n = placed_missing f (hearings (lawful_in f) h) (place_with n)
