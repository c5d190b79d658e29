-- What is counted at the bench.
use Rattle.std.specs.Prelude.{ℕ, ◌+◌, min, Bool, true, false, cond, ◌&&◌, Some, None, Ok, Err, Option, Result, ◌==◌}
use Rattle.pdu.specs.declared.refusal.Refusal.{Refusal}
use Rattle.airing.specs.declared.stored.Stored.{Stored}
use Rattle.airing.specs.declared.stored.Stored.TheVariants.{Changed, Unchanged}
use Rattle.gatherer.specs.declared.answer.Answer.{Answer}
use Rattle.fading.specs.declared.fade.Fade.{Fade}
use Rattle.fading.specs.declared.fade.Fade.TheVariants.{Heard, Lost, Doubled, Turned}
use Rattle.bench.specs.declared.tally.Changes.{Changes}
use Rattle.bench.specs.declared.tally.Tally.{Tally}

-- A count stops at the largest u32.
abbrev pub stopped : ℕ → ℕ
stopped n = min n 4294967295

-- One more where something is so.
abbrev pub counted_if : Bool → ℕ → ℕ
counted_if b n = cond b (stopped (n + 1)) n

-- Whether a store was a change.
abbrev pub is_changed : Result Stored Refusal → Bool
is_changed (Ok Changed) = true
is_changed (Ok Unchanged) = false
is_changed (Err e) = false

-- The changes by place, after a store at a message number with this answer.
abbrev pub changes_after : ℕ → Result Stored Refusal → Changes → Changes
changes_after n answer c = record {
  name = counted_if (n == 2 && is_changed answer) c.name;
  message = counted_if (n == 5 && is_changed answer) c.message;
  alert = counted_if (n == 9 && is_changed answer) c.alert;
}

-- The counts after a store at a message number with this answer.
abbrev pub tally_after_store : ℕ → Result Stored Refusal → Tally → Tally
tally_after_store n answer t = record {
  drawn = t.drawn;
  lost = t.lost;
  doubled = t.doubled;
  turned = t.turned;
  turned_accepted = t.turned_accepted;
  changes = changes_after n answer t.changes;
}

-- Whether a fade lost the PDU.
abbrev pub is_lost : Fade → Bool
is_lost Heard = false
is_lost Lost = true
is_lost Doubled = false
is_lost (Turned b) = false

-- Whether it doubled the PDU.
abbrev pub is_doubled : Fade → Bool
is_doubled Heard = false
is_doubled Lost = false
is_doubled Doubled = true
is_doubled (Turned b) = false

-- Whether it turned a bit of the PDU.
abbrev pub is_turned : Fade → Bool
is_turned Heard = false
is_turned Lost = false
is_turned Doubled = false
is_turned (Turned b) = true

-- Whether an offer was made and accepted.
abbrev pub is_accepted : Option (Result (Option Answer) Refusal) → Bool
is_accepted None = false
is_accepted (Some (Ok a)) = true
is_accepted (Some (Err e)) = false

-- The counts after a PDU was drawn and met a fade, and its first copy had this answer.
abbrev pub tally_after_pdu : Fade → Option (Result (Option Answer) Refusal) → Tally → Tally
tally_after_pdu fade first t = record {
  drawn = stopped (t.drawn + 1);
  lost = counted_if (is_lost fade) t.lost;
  doubled = counted_if (is_doubled fade) t.doubled;
  turned = counted_if (is_turned fade) t.turned;
  turned_accepted = counted_if (is_turned fade && is_accepted first) t.turned_accepted;
  changes = t.changes;
}

-- The counts after a turned PDU, whose copy had this answer.
abbrev pub turned_counted : Option (Result (Option Answer) Refusal) → Tally → Tally
turned_counted first t = record {
  drawn = t.drawn;
  lost = t.lost;
  doubled = t.doubled;
  turned = stopped (t.turned + 1);
  turned_accepted = counted_if (is_accepted first) t.turned_accepted;
  changes = t.changes;
}

-- The counts of a new bench.
abbrev pub nothing_counted : Tally
nothing_counted = record { drawn = 0; lost = 0; doubled = 0; turned = 0; turned_accepted = 0; changes = record { name = 0; message = 0; alert = 0 } }
