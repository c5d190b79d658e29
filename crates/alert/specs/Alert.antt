-- The alert: 7 to 381 bytes, three in frame 0 and six in each later frame, the last frame filled with zeros. Its control length counts pairs of bytes.
use Rattle.std.specs.Prelude.{ℕ, ◌+◌, ◌-◌, ◌*◌, ◌/◌, ◌%◌, ◌^◌, min, Bool, true, cond, ◌&&◌, ◌||◌, List, length, Some, None, Ok, Err, Option, Result, ◌==◌, nat_le, nat_lt, slice_index}
use Rattle.pdu.specs.declared.refusal.Refusal.{Refusal}
use Rattle.pdu.specs.declared.refusal.Refusal.TheVariants.{TextLength, HeadSettingOrPlace}
use Rattle.layout.specs.declared.layout.FrameLayout.{FrameLayout}
use Rattle.layout.specs.declared.layout.FrameFields.{FrameFields}
use Rattle.layout.specs.Frames.{frame_count}
use Rattle.family.specs.Family.{FamilyLayout}
use Rattle.alert.specs.declared.alert.Alert.{Alert}
use Rattle.alert.specs.declared.alert.AlertHead.{AlertHead}
use Rattle.pdu.specs.Dividend.{text_remainder}

-- The alerts by their generator.
abbrev pub generator_view : Result Alert Refusal → Result ℕ Refusal
generator_view (Ok a) = Ok a.generator
generator_view (Err e) = Err e

-- A generator is odd, and from 1 to 127.
abbrev pub generator_taken : ℕ → Result ℕ Refusal
generator_taken g = cond (nat_lt g 128 && g % 2 == 1) (Ok g) (Err HeadSettingOrPlace)

-- The check of a text: its remainder by X^7 plus the generator.
abbrev pub check_of : Alert → List ℕ → ℕ
check_of a t = text_remainder 7 a.generator t

-- Bytes of eight bits, three in frame 0 and six in each later frame, with nothing behind them.
abbrev pub frame_layout : FrameLayout
frame_layout = record { byte_bits = 8; trailing_bits = 0; first_bytes = 3; later_bytes = 6 }

-- The encoding is 0 or 4, and the control length 3 to 31.
abbrev pub lawful_head : AlertHead → Bool
lawful_head h = (h.encoding == 0 || h.encoding == 4) && (nat_le 3 h.control_length && nat_le h.control_length 31)

-- A text has 7 to 381 bytes, and its control data is part of it.
abbrev pub lawful_length : AlertHead → ℕ → Bool
lawful_length h n = nat_le 7 n && (nat_le n 381 && nat_le (2 * h.control_length) n)

-- The head is tested before the length.
abbrev pub alert_refusal : AlertHead → ℕ → Option Refusal
alert_refusal h n = cond (lawful_head h) (cond (lawful_length h n) None (Some TextLength)) (Some HeadSettingOrPlace)

-- The fields of a text of n bytes with the check c, under the sequence number q: frame 0 tells the sequence number, the encoding, the length, the check and the control length, a later frame its number and the sequence number.
abbrev pub fields_of : ℕ → AlertHead → ℕ → ℕ → FrameFields
fields_of q h n c = record {
  first_leading = (((q * 32 + h.encoding) * 512 + n) * 128 + c) * 32 + h.control_length;
  later_leading = q * 4;
  number_unit = 16;
  trailing = 0;
}

-- A frame's own number.
abbrev pub number_in : ℕ → ℕ
number_in x = x / 2 ^ 52 % 64

-- A frame's sequence number.
abbrev pub sequence_in : ℕ → ℕ
sequence_in x = x / 2 ^ 50 % 4

-- The reserved bits of a frame.
abbrev pub reserved_in : ℕ → ℕ
reserved_in x = x / 2 ^ 48 % 4

-- The head that frame 0 tells.
abbrev pub head_in : ℕ → AlertHead
head_in x = record { encoding = x / 2 ^ 45 % 8; control_length = x / 2 ^ 24 % 32 }

-- The length of the text that frame 0 tells.
abbrev pub length_in : ℕ → ℕ
length_in x = x / 2 ^ 36 % 512

-- The last number follows from the length.
abbrev pub last_in : ℕ → ℕ
last_in x = frame_count frame_layout (length_in x) - 1

-- Every frame has zero reserved bits, and frame 0 keeps the ranges of head and length.
abbrev pub lawful_frame : ℕ → Bool
lawful_frame x = (nat_lt x (2 ^ 58) && reserved_in x == 0) && cond (number_in x == 0) (lawful_head (head_in x) && lawful_length (head_in x) (length_in x)) true

-- The layout of the family of alerts; no more bytes are looked for than a text holds.
abbrev pub alert_layout : FamilyLayout Alert AlertHead
alert_layout = record {
  modulus = 4;
  frame_layout = frame_layout;
  refusal = λ _ r. alert_refusal r.head (length r.text);
  lawful = λ _ x. lawful_frame x;
  number = λ _ x. number_in x;
  sequence = λ _ x. sequence_in x;
  last = λ _ x. last_in x;
  fields = λ s r q. fields_of q r.head (length r.text) (check_of s r.text);
  head_of = λ _ x. head_in x;
  length_of = λ _ xs. min (length_in (slice_index xs 0)) 381;
}
