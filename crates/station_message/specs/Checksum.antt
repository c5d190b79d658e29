-- The checksum of a message's text.
use Rattle.std.specs.Prelude.{ℕ, ◌+◌, ◌/◌, ◌%◌, ◌^◌, List, sum}

-- A sum of 16 bits without its highest, bit 15.
abbrev pub without_top : ℕ → ℕ
without_top n = n % 2 ^ 15

-- All bytes are added, bit 15 of the sum is cleared, its high and its low byte are added, and the lowest seven bits kept.
abbrev pub checksum_of : List ℕ → ℕ
checksum_of t = (without_top (sum t) / 256 + sum t % 256) % 128
