-- The message area: fields that follow one another, highest bit first.
use Rattle.std.specs.Prelude.{ℕ, ◌+◌, ◌*◌, ◌/◌, ◌%◌, ◌^◌, Bool, cond, ◌&&◌, Ok, Err, Result, nat_lt}
use Rattle.std.specs.Option.{ok_or}
use Rattle.pdu.specs.declared.refusal.Refusal.{Refusal}
use Rattle.pdu.specs.declared.refusal.Refusal.TheVariants.{ReservedMessage, PayloadsTooLong}
use Rattle.message.specs.Message.{size_of}
use Rattle.message.specs.Results.{and_then}

-- What stands before the last so many bits of an area, and those bits.
abbrev pub upper : ℕ → ℕ → ℕ
upper following area = area / 2 ^ following

abbrev pub lower : ℕ → ℕ → ℕ
lower following area = area % 2 ^ following

-- Some bits, followed by an area of so many bits.
abbrev pub joined : ℕ → ℕ → ℕ → ℕ
joined first width area = first * 2 ^ width + area

-- The payload size of a message number; a reserved one is refused.
abbrev pub size_due : ℕ → Result ℕ Refusal
size_due n = ok_or (size_of n) ReservedMessage

-- The payload size of a message for which there is so much room.
abbrev pub size_within : ℕ → ℕ → Result ℕ Refusal
size_within room n = and_then (size_due n) (λ size. cond (nat_lt room size) (Err PayloadsTooLong) (Ok size))

-- The payload size of the first message: with extension 1 it has at most 54 bits.
abbrev pub first_size : Bool → ℕ → Result ℕ Refusal
first_size extension n = and_then (size_due n) (λ size. cond (extension && nat_lt 54 size) (Err PayloadsTooLong) (Ok size))

-- The payload size of the second message: both payloads have at most 54 bits.
abbrev pub second_size : ℕ → ℕ → Result ℕ Refusal
second_size first n = and_then (size_due n) (λ size. cond (nat_lt 54 (first + size)) (Err PayloadsTooLong) (Ok size))
