-- Hexadecimal digits, by the codes of their characters.
use Rattle.std.specs.Prelude.{ℕ, ◌+◌, ◌-◌, ◌*◌, ◌%◌, cond, ◌&&◌, ◌||◌, Some, None, Option, ◌==◌, nat_le}
use Rattle.hexadecimal.specs.declared.Reading.{Reading}
use Rattle.hexadecimal.specs.declared.Reading.TheVariants.{Blank, UpperDigit, Byte, NoDigit}

-- The value of a digit: 0 to 9, A to F, a to f.
abbrev pub digit_of : ℕ → Option ℕ
digit_of c =
    cond (nat_le 48 c && nat_le c 57) (Some (c - 48))
    (cond (nat_le 65 c && nat_le c 70) (Some (c - 65 + 10))
    (cond (nat_le 97 c && nat_le c 102) (Some (c - 97 + 10)) None))

-- A digit behind an upper digit completes a byte.
abbrev pub digit_read : Option ℕ → ℕ → Reading
digit_read None d = UpperDigit d
digit_read (Some upper) d = Byte (upper % 16 * 16 + d)

-- A blank or a tab is passed over; any other character is no digit.
abbrev pub other_read : ℕ → Reading
other_read c = cond (c == 32 || c == 9) Blank NoDigit

abbrev pub reading_of : Option ℕ → ℕ → Reading
reading_of upper c = elim (digit_of c) [ Some d ↦ digit_read upper d | None ↦ other_read c ]
