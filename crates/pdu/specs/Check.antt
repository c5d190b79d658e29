-- The check of a PDU: bit i is the coefficient of X^i, the twelve check bits count as zero, and the generator is X^12 + X^11 + X^3 + X + 1.
use Rattle.std.specs.Prelude.{ℕ, zero, suc, ◌+◌, ◌-◌, ◌/◌, ◌%◌, ◌^◌, cond, List, [], ◌∷◌, nat_lt, slice_index}
use Rattle.pdu.specs.Division.{remainder}

-- Bit i of the PDU.
abbrev pub bit_at : List ℕ → ℕ → ℕ
bit_at bs i = slice_index bs (i / 8) / 2 ^ (7 - i % 8) % 2

-- The coefficient of X^i: the check stands in bits 68 to 79, which count as zero.
abbrev pub coefficient : List ℕ → ℕ → ℕ
coefficient bs i = cond (nat_lt i 68) (bit_at bs i) 0

-- The values of f below n, that of n - 1 first.
unfoldable pub down_from : (ℕ → ℕ) → ℕ → List ℕ
down_from f zero = []
down_from f (suc n) = f n ∷ down_from f n

-- The coefficients of the PDU's polynomial, that of X^79 first.
abbrev pub coefficients : List ℕ → List ℕ
coefficients bs = down_from (coefficient bs) 80

-- The generator without X^12: X^11 + X^3 + X + 1.
abbrev pub generator : ℕ
generator = 2 ^ 11 + 2 ^ 3 + 2 + 1

-- The check that ten bytes should carry.
abbrev pub check_of : List ℕ → ℕ
check_of bs = remainder 12 generator (coefficients bs)
