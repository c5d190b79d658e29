-- A text as the dividend of a polynomial X^d + g.
use Rattle.std.specs.Prelude.{ℕ, ◌-◌, ◌/◌, ◌%◌, ◌^◌, List, ◌++◌, map, replicate}
use Rattle.std.specs.List.{range_with_len, flat_map}
use Rattle.pdu.specs.Division.{remainder}

-- The bits of a byte, the highest first.
abbrev pub bits_of : ℕ → List ℕ
bits_of b = map (λ k. b / 2 ^ (7 - k) % 2) (range_with_len 0 8)

-- The coefficients: the bits of the text, byte 0 first, and then d zeros.
abbrev pub dividend : ℕ → List ℕ → List ℕ
dividend d t = flat_map bits_of t ++ replicate d 0

-- What is left when the text followed by d zeros is divided by X^d + g.
unfoldable pub text_remainder : ℕ → ℕ → List ℕ → ℕ
text_remainder d g t = remainder d g (dividend d t)
