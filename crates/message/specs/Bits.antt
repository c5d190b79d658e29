-- Fields of a payload, and signed numbers in two's complement.
use Rattle.std.specs.Prelude.{ℕ, suc, ◌-◌, ◌*◌, ◌/◌, ◌%◌, ◌^◌, Bool, cond, ℤ, pos, negsuc, nat_lt}

-- The field of so many bits that are followed by so many others.
abbrev pub field : ℕ → ℕ → ℕ → ℕ
field many following n = n / 2 ^ following % 2 ^ many

-- The signed number that a field holds, of which half the values are below zero.
abbrev pub signed : ℕ → ℕ → ℤ
signed half n = cond (nat_lt n half) (pos n) (negsuc (2 * half - suc n))

-- Whether a signed number fits such a field.
abbrev pub fits_signed : ℕ → ℤ → Bool
fits_signed half (pos n) = nat_lt n half
fits_signed half (negsuc n) = nat_lt n half

-- The field that holds a signed number.
abbrev pub unsigned : ℕ → ℤ → ℕ
unsigned half (pos n) = n
unsigned half (negsuc n) = 2 * half - suc n
