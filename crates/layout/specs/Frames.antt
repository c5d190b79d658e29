-- The bytes of a text in frames. A frame is its leading fields, then bytes of the text, then its trailing fields, the highest bits first.
use Rattle.std.specs.Prelude.{ℕ, zero, suc, ◌+◌, ◌-◌, ◌*◌, ◌/◌, ◌%◌, ◌^◌, ◌<◌, ◌≤◌, cond, List, map, length, ◌==◌, nat_lt, slice_index}
use Rattle.std.specs.List.{range_with_len}
use Rattle.layout.specs.declared.layout.FrameLayout.{FrameLayout}
use Rattle.layout.specs.declared.layout.FrameFields.{FrameFields}

-- The number n followed by k bytes of the text t from place p on, of w bits each; past the text's end they are zero.
abbrev pub with_bytes : ℕ → ℕ → List ℕ → ℕ → ℕ → ℕ
with_bytes n w t p zero = n
with_bytes n w t p (suc k) = with_bytes n w t p k * 2 ^ w + slice_index t (p + k)

-- Byte j of the k bytes of w bits that stand lowest in the number x.
abbrev pub byte_of : ℕ → ℕ → ℕ → ℕ → ℕ
byte_of w k j x = x / 2 ^ (w * (k - 1 - j)) % 2 ^ w

-- How many frames hold n bytes.
abbrev pub frame_count : FrameLayout → ℕ → ℕ
frame_count l n = 1 + (n - l.first_bytes + (l.later_bytes - 1)) / l.later_bytes

-- The place in the text of the first byte of frame i.
abbrev pub place_of : FrameLayout → ℕ → ℕ
place_of l i = cond (i == 0) 0 (l.first_bytes + (i - 1) * l.later_bytes)

-- How many bytes frame i has.
abbrev pub bytes_in : FrameLayout → ℕ → ℕ
bytes_in l i = cond (i == 0) l.first_bytes l.later_bytes

-- The fields before the bytes of frame i.
abbrev pub leading_of : FrameFields → ℕ → ℕ
leading_of f i = cond (i == 0) f.first_leading (f.later_leading + i * f.number_unit)

-- Frame i of the text t.
abbrev pub frame_of : FrameLayout → FrameFields → List ℕ → ℕ → ℕ
frame_of l f t i = with_bytes (leading_of f i) l.byte_bits t (place_of l i) (bytes_in l i) * 2 ^ l.trailing_bits + f.trailing

-- The frames of the text t, in order.
abbrev pub cut_of : FrameLayout → FrameFields → List ℕ → List ℕ
cut_of l f t = map (frame_of l f t) (range_with_len 0 (frame_count l (length t)))

-- Byte j of the text in the frames xs; a frame that is absent counts as zero.
abbrev pub byte_at : FrameLayout → List ℕ → ℕ → ℕ
byte_at l xs j =
    cond (nat_lt j l.first_bytes) (byte_of l.byte_bits l.first_bytes j (slice_index xs 0 / 2 ^ l.trailing_bits))
    (byte_of l.byte_bits l.later_bytes ((j - l.first_bytes) % l.later_bytes) (slice_index xs (1 + (j - l.first_bytes) / l.later_bytes) / 2 ^ l.trailing_bits))

-- The first n bytes in the frames xs.
abbrev pub text_in : FrameLayout → List ℕ → ℕ → List ℕ
text_in l xs n = map (byte_at l xs) (range_with_len 0 n)

-- Each byte of the text t has w bits.
abbrev pub FitBits : ℕ → List ℕ → Type 0
FitBits w t = (j : ℕ) → slice_index t j < 2 ^ w

-- Each frame holds one to seven bytes of at most eight bits, and at most three bits behind them.
pub record FitLayout (l : FrameLayout) : Type 0 where
  pub byte_bits_few : l.byte_bits ≤ 8
  pub trailing_bits_few : l.trailing_bits ≤ 3
  pub first_some : 1 ≤ l.first_bytes
  pub first_few : l.first_bytes ≤ 7
  pub later_some : 1 ≤ l.later_bytes
  pub later_few : l.later_bytes ≤ 7

-- The fields of frames 0 to 63 leave room for the bytes.
pub record FitFields (l : FrameLayout) (f : FrameFields) : Type 0 where
  pub first_fits : (f.first_leading + 1) * 2 ^ (l.byte_bits * l.first_bytes) ≤ 2 ^ 61
  pub later_fits : (f.later_leading + 64 * f.number_unit) * 2 ^ (l.byte_bits * l.later_bytes) ≤ 2 ^ 61
  pub leading_fits : f.later_leading + 64 * f.number_unit ≤ 2 ^ 61
  pub unit_some : 1 ≤ f.number_unit
  pub trailing_fits : f.trailing < 2 ^ l.trailing_bits

-- The text t can be cut between the fields f.
pub record Cuttable (l : FrameLayout) (f : FrameFields) (t : List ℕ) : Type 0 where
  pub layout_fits : FitLayout l
  pub fields_fit : FitFields l f
  pub bytes_fit : FitBits l.byte_bits t
  pub few_frames : frame_count l (length t) ≤ 64
