-- The three families of a station, one for each place.
use Rattle.std.specs.Prelude.{ℕ, Bool, Some, None, Option}
use Rattle.family.specs.Meaning.{Meaning}
use Rattle.message.specs.declared.place.Place.{Place}
use Rattle.message.specs.declared.place.Place.TheVariants.{Name, Message, Alert}
use Rattle.transport.specs.declared.families.Families.{Families as Lent}
use Rattle.transport.specs.declared.head.Head.{Head}
use Rattle.transport.specs.declared.head.Head.TheVariants.{Name as NameHead, Message as MessageHead, Alert as AlertHead}
use Rattle.transport.specs.Transport.{lawful_at}

-- A family by what it means and by its settings.
pub record FamilyOf (S T : Type 0) : Type 0 where
  pub meaning : Meaning S T
  pub setting : S

-- The families of the names, the messages and the alerts.
pub record Families (N T M U E V : Type 0) : Type 0 where
  pub name : FamilyOf N T
  pub message : FamilyOf M U
  pub alert : FamilyOf E V

-- Three families, each by its meaning and its settings.
abbrev pub families : {N T M U E V : Type 0} → Meaning N T → N → Meaning M U → M → Meaning E V → E → Families N T M U E V
families nm n mm m em e = record {
  name = record { meaning = nm; setting = n };
  message = record { meaning = mm; setting = m };
  alert = record { meaning = em; setting = e };
}

-- Which frames are lawful at each place.
abbrev pub lawful_in : {N T M U E V : Type 0} → Families N T M U E V → Place → ℕ → Bool
lawful_in f = lawful_at (f.name.meaning.lawful f.name.setting) (f.message.meaning.lawful f.message.setting) (f.alert.meaning.lawful f.alert.setting)

-- The same of families that are lent together, by what each means.
abbrev pub lawful_to : {N T M U E V : Type 0} → Meaning N T → Meaning M U → Meaning E V → Lent N M E → Place → ℕ → Bool
lawful_to nm mm em f = lawful_at (nm.lawful f.name.now) (mm.lawful f.message.now) (em.lawful f.alert.now)

-- A place of a station with heads of the sort R: which one it is, its family, and the heads that are its own.
pub record PlaceOf (S T R : Type 0) : Type 0 where
  pub place : Place
  pub family : FamilyOf S T
  pub own_head : R → Option T

abbrev pub name_head : {T U V : Type 0} → Head T U V → Option T
name_head (NameHead h) = Some h
name_head (MessageHead h) = None
name_head (AlertHead h) = None

abbrev pub message_head : {T U V : Type 0} → Head T U V → Option U
message_head (NameHead h) = None
message_head (MessageHead h) = Some h
message_head (AlertHead h) = None

abbrev pub alert_head : {T U V : Type 0} → Head T U V → Option V
alert_head (NameHead h) = None
alert_head (MessageHead h) = None
alert_head (AlertHead h) = Some h

-- The three places of a station.
abbrev pub name_place : {N T M U E V : Type 0} → Families N T M U E V → PlaceOf N T (Head T U V)
name_place f = record { place = Name; family = f.name; own_head = name_head }

abbrev pub message_place : {N T M U E V : Type 0} → Families N T M U E V → PlaceOf M U (Head T U V)
message_place f = record { place = Message; family = f.message; own_head = message_head }

abbrev pub alert_place : {N T M U E V : Type 0} → Families N T M U E V → PlaceOf E V (Head T U V)
alert_place f = record { place = Alert; family = f.alert; own_head = alert_head }
