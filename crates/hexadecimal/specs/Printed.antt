-- Bytes printed for a person.
use Rattle.std.specs.Prelude.{ℕ, ◌+◌, ◌/◌, ◌%◌, Bool, cond, not, ◌&&◌, ◌||◌, List, [], ◌∷◌, ◌++◌, nat_le, nat_lt, ◌==◌}
use Rattle.std.specs.List.{flat_map}

-- The digit of a value below 16: 0 to 9, then A to F.
abbrev pub digit_with : ℕ → ℕ
digit_with d = cond (nat_lt d 10) (48 + d) (55 + d)

abbrev pub byte_digits : ℕ → List ℕ
byte_digits b = digit_with (b / 16) ∷ digit_with (b % 16) ∷ []

-- Two digits for each byte.
abbrev pub digits_of : List ℕ → List ℕ
digits_of bytes = flat_map byte_digits bytes

-- Whether a byte stands as it is: printable ASCII, but not a quotation mark or a backslash where marks are escaped.
abbrev pub is_plain : Bool → ℕ → Bool
is_plain marks b = (nat_le 32 b && nat_lt b 127) && not (marks && (b == 34 || b == 92))

-- A byte as it is, or as \x and two digits.
abbrev pub shown : Bool → ℕ → List ℕ
shown marks b = cond (is_plain marks b) (b ∷ []) (92 ∷ 120 ∷ byte_digits b)

abbrev pub quoted : Bool → List ℕ → List ℕ
quoted marks bytes = (34 ∷ []) ++ flat_map (shown marks) bytes ++ 34 ∷ []
