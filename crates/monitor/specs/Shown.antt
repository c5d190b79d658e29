-- What a monitor shows at its places.
use Rattle.std.specs.Prelude.{◌≡◌, ℕ, List, Some, None, Ok, Err, Option, Result}
use Rattle.pdu.specs.declared.refusal.Refusal.{Refusal}
use Rattle.pdu.specs.declared.refusal.Refusal.TheVariants.{HeadSettingOrPlace}
use Rattle.message.specs.declared.place.Place.{Place}
use Rattle.message.specs.declared.place.Place.TheVariants.{Name, Message, Alert}
use Rattle.message.specs.Place.{place_with}
use Rattle.transport.specs.declared.head.Head.{Head}
use Rattle.transport.specs.declared.head.Head.TheVariants.{Name as NameHead, Message as MessageHead, Alert as AlertHead}
use Rattle.transport.specs.Families.{FamilyOf, Families, lawful_in}
use Rattle.gatherer.specs.Promises.{HeadShown, TextShown}
use Rattle.station_information.specs.Hearings.{Hearing}
use Rattle.monitor.specs.Calls.{Call, hearings, events_at}

-- A place's own head as one of any place.
abbrev pub as_head : {T R : Type 0} → (T → R) → Result T Refusal → Result R Refusal
as_head make (Ok head) = Ok (make head)
as_head make (Err e) = Err e

-- The answer is what the place shows, as a head of the place.
pub record HeadAt {S T R : Type 0} (f : FamilyOf S T) (p : Place) (make : T → R) (k : List Hearing) (answer : Result R Refusal) : Type 0 where
  pub own : Result T Refusal
  pub answer_is : answer ≡ as_head make own
  pub shown : HeadShown f.meaning f.setting (events_at p k) own

-- What the question for the head answers, by the place asked for.
abbrev pub HeadAnswered : {N T M U E V : Type 0} → Families N T M U E V → List Hearing → Option Place → Result (Head T U V) Refusal → Type 0
HeadAnswered f k None answer = answer ≡ Err HeadSettingOrPlace
HeadAnswered f k (Some Name) answer = HeadAt f.name Name NameHead k answer
HeadAnswered f k (Some Message) answer = HeadAt f.message Message MessageHead k answer
HeadAnswered f k (Some Alert) answer = HeadAt f.alert Alert AlertHead k answer

-- What the question for the text answers, and what it leaves in a buffer that held other bytes.
abbrev pub TextAnswered : {N T M U E V : Type 0} → Families N T M U E V → List Hearing → Option Place → List ℕ → Result ℕ Refusal → List ℕ → Type 0
TextAnswered f k None found answer left = (answer ≡ Err HeadSettingOrPlace) × (left ≡ found)
TextAnswered f k (Some Name) found answer left = TextShown f.name.meaning f.name.setting (events_at Name k) found answer left
TextAnswered f k (Some Message) found answer left = TextShown f.message.meaning f.message.setting (events_at Message k) found answer left
TextAnswered f k (Some Alert) found answer left = TextShown f.alert.meaning f.alert.setting (events_at Alert k) found answer left

-- The same after the calls h, for a message number.
abbrev pub HeadDue : {N T M U E V : Type 0} → Families N T M U E V → List Call → ℕ → Result (Head T U V) Refusal → Type 0
HeadDue f h n answer = HeadAnswered f (hearings (lawful_in f) h) (place_with n) answer

abbrev pub TextDue : {N T M U E V : Type 0} → Families N T M U E V → List Call → ℕ → List ℕ → Result ℕ Refusal → List ℕ → Type 0
TextDue f h n found answer left = TextAnswered f (hearings (lawful_in f) h) (place_with n) found answer left
