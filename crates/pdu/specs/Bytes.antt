-- The ten bytes as one number of 80 bits: bit 0, the highest bit of byte 0, is its highest.
use Rattle.std.specs.Prelude.{◌≡◌, ℕ, ◌+◌, ◌-◌, ◌*◌, ◌/◌, ◌%◌, ◌^◌, ◌<◌, cond, List, [], ◌∷◌, length, Ok, Err, Result, ◌==◌, slice_index}
use Rattle.pdu.specs.declared.refusal.Refusal.{Refusal}
use Rattle.pdu.specs.declared.refusal.Refusal.TheVariants.{NotTenBytes}
use Rattle.pdu.specs.declared.pdu.Pdu.{Pdu}

-- A list of ten bytes.
abbrev pub TenBytes : List ℕ → Type 0
TenBytes bs = (length bs ≡ 10) × ((i : ℕ) → slice_index bs i < 256)

-- The number that ten bytes spell.
abbrev pub number_of : List ℕ → ℕ
number_of bs =
    slice_index bs 0 * 2 ^ 72 + slice_index bs 1 * 2 ^ 64 + slice_index bs 2 * 2 ^ 56 + slice_index bs 3 * 2 ^ 48 + slice_index bs 4 * 2 ^ 40
    + slice_index bs 5 * 2 ^ 32 + slice_index bs 6 * 2 ^ 24 + slice_index bs 7 * 2 ^ 16 + slice_index bs 8 * 2 ^ 8 + slice_index bs 9

-- The list has ten bytes, and n is the number that they spell.
abbrev pub Spells : List ℕ → ℕ → Type 0
Spells bs n = TenBytes bs × (n ≡ number_of bs)

-- The ten bytes that spell a number below 2^80.
abbrev pub bytes_of : ℕ → List ℕ
bytes_of n =
    n / 2 ^ 72 % 256 ∷ n / 2 ^ 64 % 256 ∷ n / 2 ^ 56 % 256 ∷ n / 2 ^ 48 % 256 ∷ n / 2 ^ 40 % 256
    ∷ n / 2 ^ 32 % 256 ∷ n / 2 ^ 24 % 256 ∷ n / 2 ^ 16 % 256 ∷ n / 2 ^ 8 % 256 ∷ n % 256 ∷ []

-- The field of a number of 80 bits that starts at a bit and has so many bits.
abbrev pub bits : ℕ → ℕ → ℕ → ℕ
bits start many n = n / 2 ^ (80 - start - many) % 2 ^ many

-- A slice is a PDU if it has ten bytes.
abbrev pub taken : List ℕ → Result Pdu Refusal
taken bs = cond (length bs == 10) (Ok (record { bytes = bs })) (Err NotTenBytes)
