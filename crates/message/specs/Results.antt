-- Answers that may be refused.
use Rattle.std.specs.Prelude.{Bool, cond, Ok, Err, Result}
use Rattle.pdu.specs.declared.refusal.Refusal.{Refusal}
use Rattle.pdu.specs.declared.refusal.Refusal.TheVariants.{OutOfRange}

-- The answer x if all of its fields are in range.
abbrev pub in_range : {A : Type 0} → Bool → A → Result A Refusal
in_range ok x = cond ok (Ok x) (Err OutOfRange)

-- The second answer, from the first, unless the first is refused.
abbrev pub and_then : {A B : Type 0} → Result A Refusal → (A → Result B Refusal) → Result B Refusal
and_then (Ok a) f = f a
and_then (Err e) f = Err e
