-- A flag and its bit.
use Rattle.std.proofs.Common.{◌≡◌, ℕ, zero, suc, ◌<◌, Bool, true, false, refl, arith}
use Rattle.pdu.specs.Fields.{flag, bit_of}

pub flag_bit : (b : Bool) → flag (bit_of b) ≡ b
flag_bit true = refl
flag_bit false = refl

pub bit_flag : (n : ℕ) → n < 2 → bit_of (flag n) ≡ n
bit_flag zero h = refl
bit_flag (suc zero) h = refl
bit_flag (suc (suc n)) h = absurd (omega arith)

pub bit_small : (b : Bool) → bit_of b < 2
bit_small true = omega arith
bit_small false = omega arith
