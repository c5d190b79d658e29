-- What the exercise does at the card.
use Rattle.std.specs.Prelude.{◌≡◌, ℕ, zero, suc, List, ◌∷◌, Ok, Result}
use Rattle.std.specs.declared.alloc.AllocError.{AllocError}
use Rattle.family.specs.Meaning.{RecordOf}
use Rattle.family.specs.Texts.{bytes_of}
use Rattle.family.specs.declared.text.Record.{Record}
use Rattle.transport.specs.declared.head.Head.{Head}
use Rattle.transport.specs.declared.head.Head.TheVariants.{Name, Message, Alert}
use Rattle.transport.specs.Families.{Families}
use Rattle.card.specs.Calls.{Call, store, draw}
use Rattle.card.specs.declared.station.Station.{Station}
use Rattle.air.specs.Runs.{Step, card_calls}
use Rattle.bench.specs.declared.bench.Bench.{Bench}
use Rattle.course.specs.declared.exercise.Texts.{Texts}
use Rattle.bench.specs.Ran.{Ran}

-- So many draws into ten bytes after the calls h.
abbrev pub drawn_times : {R : Type 0} → ℕ → List (Call R) → List (Call R)
drawn_times zero h = h
drawn_times (suc n) h = draw 10 ∷ drawn_times n h

-- A record of one place as one of any place.
abbrev pub placed : {T R : Type 0} → (T → R) → Record T → RecordOf R
placed make r = record { head = make r.head; text = bytes_of r.text }

-- The three texts are stored, the name first.
abbrev pub texts_stored : {T U V : Type 0} → Texts T U V → List (Call (Head T U V)) → List (Call (Head T U V))
texts_stored t h = store 9 (placed Alert t.alert) ∷ store 5 (placed Message t.message) ∷ store 2 (placed Name t.name) ∷ h

-- The message is stored once more, as when its acknowledgement is lost, and then changed.
abbrev pub message_changed : {T U V : Type 0} → Texts T U V → List (Call (Head T U V)) → List (Call (Head T U V))
message_changed t h = store 5 (placed Message t.changed) ∷ store 5 (placed Message t.message) ∷ h

-- The calls of the exercise at the card, with so many draws in each half, after the calls h.
abbrev pub exercise_calls : {T U V : Type 0} → Texts T U V → ℕ → List (Call (Head T U V)) → List (Call (Head T U V))
exercise_calls t n h = drawn_times n (message_changed t (drawn_times n (texts_stored t h)))

-- The bench went on from the run a, and unless memory ran out the card's calls are these.
pub record WentOn {N T M U E V : Type 0} (f : Families N T M U E V) (st : Station) (calls : List (Call (Head T U V))) (answer : Result (Unit {0}) AllocError) (b : Bench N M E T U V) : Type 0 where
  pub run : List (Step (Head T U V))
  pub ran : Ran f st run b
  pub calls_are : answer ≡ Ok tt → card_calls run ≡ calls
