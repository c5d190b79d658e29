-- The fields of a PDU: bit 0 is the type, bit 1 the extension, bits 2 to 5 the first message's number, bits 6 to 63 the message area, bit 64 reserved, bit 65 time locked, bits 66 and 67 a pair, bits 68 to 79 the check.
use Rattle.std.specs.Prelude.{◌≡◌, ℕ, ◌+◌, ◌*◌, ◌%◌, ◌^◌, ◌<◌, Bool, cond, ◌&&◌, Ok, Err, Result, ◌==◌, nat_lt}
use Rattle.pdu.specs.declared.refusal.Refusal.{Refusal}
use Rattle.pdu.specs.declared.refusal.Refusal.TheVariants.{CheckDiffers, TypeNotZero, OutOfRange}
use Rattle.pdu.specs.declared.pdu.Pdu.{Pdu}
use Rattle.pdu.specs.declared.fields.Fields.{Fields}
use Rattle.pdu.specs.Bytes.{number_of, bytes_of, bits}
use Rattle.pdu.specs.Check.{check_of}

-- A flag is the bit 1.
abbrev pub flag : ℕ → Bool
flag b = b == 1

abbrev pub bit_of : Bool → ℕ
bit_of b = cond b 1 0

-- The fields between the type and the check.
abbrev pub fields_of : ℕ → Fields
fields_of n = record {
  extension = flag (bits 1 1 n);
  number = bits 2 4 n;
  area = bits 6 58 n;
  reserved = flag (bits 64 1 n);
  time_locked = flag (bits 65 1 n);
  pair = bits 66 2 n;
}

-- The check is tested first, then the type.
abbrev pub tested : ℕ → ℕ → Result (Unit {0}) Refusal
tested n check = cond (n % 4096 == check) (cond (bits 0 1 n == 0) (Ok tt) (Err TypeNotZero)) (Err CheckDiffers)

-- What a PDU says between its type and its check.
abbrev pub parsed : Pdu → Result Fields Refusal
parsed p = elim (tested (number_of p.bytes) (check_of p.bytes)) [ Ok _ ↦ Ok (fields_of (number_of p.bytes)) | Err e ↦ Err e ]

-- Each field fits its bits.
abbrev pub fit : Fields → Bool
fit f = (nat_lt f.number 16 && nat_lt f.area (2 ^ 58)) && nat_lt f.pair 4

-- The number with these fields, type 0 and a check of zero.
abbrev pub unchecked_number : Fields → ℕ
unchecked_number f =
    ((((bit_of f.extension * 16 + f.number) * 2 ^ 58 + f.area) * 2 + bit_of f.reserved) * 2 + bit_of f.time_locked) * 2 ^ 14
    + f.pair * 2 ^ 12

-- The PDU with a number of 80 bits whose check bits are zero, and with its check.
abbrev pub checked : ℕ → Pdu
checked n = record { bytes = bytes_of (n + check_of (bytes_of n)) }

-- The PDU with these fields.
abbrev pub composed : Fields → Result Pdu Refusal
composed f = cond (fit f) (Ok (checked (unchecked_number f))) (Err OutOfRange)

-- The answer to reading the fields of a PDU. Fields that were read make the same PDU again.
pub record IsRead (p : Pdu) (answer : Result Fields Refusal) : Type 0 where
  pub value : answer ≡ parsed p
  pub written_again : (f : Fields) → answer ≡ Ok f → composed f ≡ Ok p
  pub area_small : (f : Fields) → answer ≡ Ok f → f.area < 2 ^ 58

-- The answer to writing fields to a PDU. A PDU that was written has these fields.
pub record IsWritten (f : Fields) (answer : Result Pdu Refusal) : Type 0 where
  pub value : answer ≡ composed f
  pub read_again : (p : Pdu) → answer ≡ Ok p → parsed p ≡ Ok f
