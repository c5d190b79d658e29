-- The text that a place of a monitor shows.
use Rattle.std.specs.Prelude.{◌≡◌, ℕ, cond, List, take, replicate, Some, None, Ok, Err, Option, Result, nat_le}
use Rattle.pdu.specs.declared.refusal.Refusal.{Refusal}
use Rattle.message.specs.declared.place.Place.{Place}
use Rattle.message.specs.Place.{place_number}
use Rattle.family.specs.declared.text.Text.{Text}
use Rattle.family.specs.Texts.{bytes_of}
use Rattle.transport.specs.Families.{Families}
use Rattle.monitor.specs.Calls.{Call}
use Rattle.monitor.specs.Shown.{TextDue}

-- The bytes of a text, if there is one.
abbrev pub bytes_in : Option Text → Option (List ℕ)
bytes_in None = None
bytes_in (Some t) = Some (bytes_of t)

-- The bytes that a copy left at the front of a buffer of 381 bytes, unless it was refused.
abbrev pub copied : Result ℕ Refusal → List ℕ → Option (List ℕ)
copied (Ok n) left = cond (nat_le n 381) (Some (take n left)) None
copied (Err e) left = None

-- The text is what the place's text leaves in a buffer as long as the longest text, after the monitor's calls h.
pub record ShowsText {N T M U E V : Type 0} (f : Families N T M U E V) (h : List Call) (p : Place) (t : Option Text) : Type 0 where
  pub answer : Result ℕ Refusal
  pub left : List ℕ
  pub due : TextDue f h (place_number p) (replicate 381 0) answer left
  pub text_is : bytes_in t ≡ copied answer left
