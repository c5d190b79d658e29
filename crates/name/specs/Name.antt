-- The station name: 1 to 56 characters, seven to a frame, the last frame filled with zeros.
use Rattle.std.specs.Prelude.{ℕ, zero, suc, ◌+◌, ◌-◌, ◌*◌, ◌/◌, ◌%◌, ◌^◌, Bool, true, cond, ◌&&◌, List, [], ◌∷◌, length, Some, None, Option, ◌==◌, nat_le, nat_lt}
use Rattle.pdu.specs.declared.refusal.Refusal.{Refusal}
use Rattle.pdu.specs.declared.refusal.Refusal.TheVariants.{TextLength, TextByte}
use Rattle.layout.specs.declared.layout.FrameLayout.{FrameLayout}
use Rattle.layout.specs.declared.layout.FrameFields.{FrameFields}
use Rattle.layout.specs.Frames.{frame_count, byte_at}
use Rattle.family.specs.Family.{FamilyLayout}
use Rattle.name.specs.declared.name.Name.{Name}

-- Seven characters of seven bits in each frame, and three bits behind them.
abbrev pub frame_layout : FrameLayout
frame_layout = record { byte_bits = 7; trailing_bits = 3; first_bytes = 7; later_bytes = 7 }

-- Each byte is 1 to 127.
abbrev pub characters : List ℕ → Bool
characters [] = true
characters (b ∷ bs) = (nat_le 1 b && nat_le b 127) && characters bs

-- The length is tested before the bytes.
abbrev pub text_refusal : List ℕ → Option Refusal
text_refusal t = cond (nat_le 1 (length t) && nat_le (length t) 56) (cond (characters t) None (Some TextByte)) (Some TextLength)

-- The frames of a text of n bytes tell the last number and their own before the characters, and the sequence number q behind them.
abbrev pub fields_of : ℕ → ℕ → FrameFields
fields_of n q = record {
  first_leading = (frame_count frame_layout n - 1) * 8;
  later_leading = (frame_count frame_layout n - 1) * 8;
  number_unit = 1;
  trailing = q;
}

-- The last number that a frame tells.
abbrev pub last_in : ℕ → ℕ
last_in x = x / 2 ^ 55 % 8

-- A frame's own number.
abbrev pub number_in : ℕ → ℕ
number_in x = x / 2 ^ 52 % 8

-- A frame's sequence number.
abbrev pub sequence_in : ℕ → ℕ
sequence_in x = x % 8

-- The first place from j on, and before j + k, where f is zero, or else j + k.
abbrev pub until_zero : (ℕ → ℕ) → ℕ → ℕ → ℕ
until_zero f j zero = j
until_zero f j (suc k) = cond (f j == 0) j (until_zero f (j + 1) k)

-- The layout of the family of names; a name ends before the first zero.
abbrev pub name_layout : FamilyLayout Name (Unit {0})
name_layout = record {
  modulus = 8;
  frame_layout = frame_layout;
  refusal = λ _ r. text_refusal r.text;
  lawful = λ _ x. nat_lt x (2 ^ 58) && nat_le (number_in x) (last_in x);
  number = λ _ x. number_in x;
  sequence = λ _ x. sequence_in x;
  last = λ _ x. last_in x;
  fields = λ _ r q. fields_of (length r.text) q;
  head_of = λ _ _. tt {0};
  length_of = λ _ xs. until_zero (byte_at frame_layout xs) 0 56;
}
