-- The frames of a family of two.
use Rattle.std.specs.Prelude.{ℕ, ◌+◌, ◌*◌}

-- A frame is its sequence number, its number and a byte.
abbrev pub frame_of : ℕ → ℕ → ℕ → ℕ
frame_of q i b = (q * 2 + i) * 256 + b
