-- When a place agrees with its calls: its state is what they lead to.
use Rattle.std.specs.Prelude.{◌≡◌, ℕ, Bool, false, cond, List, [], ◌∷◌, Some, None, Ok, Option, Result}
use Rattle.pdu.specs.declared.refusal.Refusal.{Refusal}
use Rattle.family.specs.Meaning.{Meaning, RecordOf, Bytes}
use Rattle.family.specs.Texts.{record_view}
use Rattle.airing.specs.declared.place.Current.{Current}
use Rattle.airing.specs.declared.place.Place.{Place}
use Rattle.airing.specs.declared.stored.Stored.{Stored}
use Rattle.airing.specs.Calls.{Call, stored, withdrawn, drawn, on_air}
use Rattle.airing.specs.Due.{CurrentOf, answer_due, current_due, frame_drawn}
use Rattle.airing.specs.Rounds.{Round, EachFrameOnce}

-- The current record, by the bytes of its text.
abbrev pub current_view : {T : Type 0} → Current T → CurrentOf T
current_view c = record { «record» = record_view c.«record»; sequence = c.sequence; next = c.next }

-- What a place holds.
abbrev pub held_view : {T : Type 0} → Option (Current T) → Option (CurrentOf T)
held_view None = None
held_view (Some c) = Some (current_view c)

-- What is on air of what a place holds.
abbrev pub aired_in : {T : Type 0} → Option (Current T) → Option (Current T)
aired_in None = None
aired_in (Some c) = cond c.on_air (Some c) None

-- Whether what a place holds is on air.
abbrev pub held_on_air : {T : Type 0} → Option (Current T) → Bool
held_on_air None = false
held_on_air (Some c) = c.on_air

-- Whether a record is on air at a place.
abbrev pub is_on_air : {S T : Type 0} → Place S T → Bool
is_on_air p = held_on_air p.current

-- Every record accepted is lawful, and its text is bytes.
abbrev pub LawfulRecords : {S T : Type 0} → Meaning S T → S → List (Call T) → Type 0
LawfulRecords m s [] = Unit {0}
LawfulRecords m s (stored r ∷ h) = (m.refusal s r ≡ None) × Bytes r.text × LawfulRecords m s h
LawfulRecords m s (withdrawn ∷ h) = LawfulRecords m s h
LawfulRecords m s (drawn ∷ h) = LawfulRecords m s h

-- The place is what the calls lead to, with this family.
pub record Agrees {S T : Type 0} (m : Meaning S T) (s : S) (h : List (Call T)) (p : Place S T) : Type 0 where
  pub family_is : p.family ≡ s
  pub records_lawful : LawfulRecords m s h
  pub current_is : held_view p.current ≡ current_due m s h
  pub on_air_is : is_on_air p ≡ on_air h

-- What holds of a place whatever calls led to it.
abbrev pub InEveryHistory : {S T : Type 0} → Meaning S T → Place S T → (S → List (Call T) → Type 0) → Type 0
InEveryHistory {S} {T} m p P = (s : S) (h : List (Call T)) → Agrees m s h p → P s h

-- The record r was accepted after h: the answer is the one due, and the place agrees with the longer list.
pub record Accepted {S T : Type 0} (m : Meaning S T) (s : S) (h : List (Call T)) (r : RecordOf T) (answer : Result Stored Refusal) (p : Place S T) : Type 0 where
  pub answer_is : answer ≡ Ok (answer_due h r)
  pub agrees : Agrees m s (stored r ∷ h) p

-- A frame was drawn after h: it is the one due, the place agrees with the longer list, and a round that ends here holds each frame once.
pub record Drawn {S T : Type 0} (m : Meaning S T) (s : S) (h : List (Call T)) (frame : Option ℕ) (p : Place S T) : Type 0 where
  pub frame_is : frame ≡ frame_drawn m s h
  pub agrees : Agrees m s (drawn ∷ h) p
  pub each_once : (w : Round m s (drawn ∷ h)) → EachFrameOnce m s (drawn ∷ h) w
