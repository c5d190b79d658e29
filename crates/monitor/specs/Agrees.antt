-- When a monitor agrees with its calls: its state is what they lead to.
use Rattle.std.specs.Prelude.{◌≡◌, ℕ, List, ◌∷◌, Option, Result}
use Rattle.pdu.specs.declared.refusal.Refusal.{Refusal}
use Rattle.message.specs.declared.place.Place.TheVariants.{Name, Message, Alert}
use Rattle.message.specs.declared.message.Message.{Message as MessageType}
use Rattle.family.specs.Meaning.{Meaning}
use Rattle.transport.specs.Families.{Families, families, lawful_in}
use Rattle.gatherer.specs.declared.answer.Answer.{Answer}
use Rattle.gatherer.specs.Agrees.{Agrees as AgreesAt}
use Rattle.station_information.specs.Hearings.{Hearing, heard}
use Rattle.station_information.specs.Tells.{Tells}
use Rattle.monitor.specs.declared.monitor.Monitor.{Monitor}
use Rattle.monitor.specs.Calls.{Call, offer, hearings, events_at}
use Rattle.monitor.specs.Due.{message_answer, offer_due}

-- The monitor is what the messages heard lead to, with these families.
pub record Holds {N T M U E V : Type 0} (f : Families N T M U E V) (k : List Hearing) (w : Monitor N M E T U V) : Type 0 where
  pub name_agrees : AgreesAt f.name.meaning f.name.setting (events_at Name k) w.name
  pub message_agrees : AgreesAt f.message.meaning f.message.setting (events_at Message k) w.message
  pub alert_agrees : AgreesAt f.alert.meaning f.alert.setting (events_at Alert k) w.alert
  pub information_is : Tells k w.information

-- The monitor is what its calls lead to.
abbrev pub Agrees : {N T M U E V : Type 0} → Families N T M U E V → List Call → Monitor N M E T U V → Type 0
Agrees f h w = Holds f (hearings (lawful_in f) h) w

-- A monitor's own families, by what each means.
abbrev pub families_of : {N T M U E V : Type 0} → Meaning N T → Meaning M U → Meaning E V → Monitor N M E T U V → Families N T M U E V
families_of nm mm em w = families nm w.name.family mm w.message.family em w.alert.family

-- What holds of a monitor whatever its families and its calls were, as long as it agrees with them. The calls are no part of a monitor, so a contract speaks of every list of calls that agrees with it.
abbrev pub InEveryHistory : {N T M U E V : Type 0} → Meaning N T → Meaning M U → Meaning E V → Monitor N M E T U V → (Families N T M U E V → List Call → Type 0) → Type 0
InEveryHistory {N} {T} {M} {U} {E} {V} nm mm em w P = (n : N) (m : M) (e : E) (h : List Call) → Agrees (families nm n mm m em e) h w → P (families nm n mm m em e) h

-- A message was heard: the answer is the one due, and the monitor holds it.
pub record HeardSo {N T M U E V : Type 0} (f : Families N T M U E V) (k : List Hearing) (x : MessageType) (answer : Option Answer) (w : Monitor N M E T U V) : Type 0 where
  pub answer_is : answer ≡ message_answer f k x
  pub holds : Holds f (heard x ∷ k) w

-- An offer after h, accepted or refused: the answer is the one due, and the monitor agrees with the longer list.
pub record OfferedSo {N T M U E V : Type 0} (f : Families N T M U E V) (h : List Call) (bs : List ℕ) (answer : Result (Option Answer) Refusal) (w : Monitor N M E T U V) : Type 0 where
  pub answer_is : answer ≡ offer_due f h bs
  pub agrees : Agrees f (offer bs ∷ h) w
