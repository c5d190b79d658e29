-- The bytes that a text spells.
use Rattle.std.specs.Prelude.{ℕ, ◌+◌, ◌*◌, List, [], ◌∷◌, ◌++◌, length, Option, Some, None, Result, Ok, Err}
use Rattle.hexadecimal.specs.declared.Reading.TheVariants.{Blank, UpperDigit, Byte, NoDigit}
use Rattle.hexadecimal.specs.declared.text.TextError.{TextError}
use Rattle.hexadecimal.specs.declared.text.TextError.TheVariants.{NoDigit as NoDigitAt, OddDigits}
use Rattle.hexadecimal.specs.Hexadecimal.{reading_of}

-- A text that ends within a byte has an odd number of digits.
abbrev pub ended : List ℕ → Option ℕ → Result (List ℕ) TextError
ended bytes None = Ok bytes
ended bytes (Some upper) = Err (OddDigits (2 * length bytes + 1))

-- What the characters from this column on spell, behind these bytes and maybe an upper digit; the first character that is no digit is told.
abbrev pub spelled : ℕ → List ℕ → Option ℕ → List ℕ → Result (List ℕ) TextError
spelled column bytes upper [] = ended bytes upper
spelled column bytes upper (c ∷ cs) = elim (reading_of upper c) [
  | Blank ↦ spelled (column + 1) bytes upper cs
  | UpperDigit d ↦ spelled (column + 1) bytes (Some d) cs
  | Byte b ↦ spelled (column + 1) (bytes ++ b ∷ []) None cs
  | NoDigit ↦ Err (NoDigitAt column c)
]
