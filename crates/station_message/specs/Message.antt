-- The station message: 4 to 190 bytes, four in frame 0 and six in each later frame, the last frame filled with zeros.
use Rattle.std.specs.Prelude.{ℕ, ◌+◌, ◌-◌, ◌*◌, ◌/◌, ◌%◌, ◌^◌, Bool, cond, ◌&&◌, ◌||◌, length, Some, None, Option, ◌==◌, nat_le, nat_lt, slice_index}
use Rattle.pdu.specs.declared.refusal.Refusal.{Refusal}
use Rattle.pdu.specs.declared.refusal.Refusal.TheVariants.{TextLength, HeadSettingOrPlace}
use Rattle.layout.specs.declared.layout.FrameLayout.{FrameLayout}
use Rattle.layout.specs.declared.layout.FrameFields.{FrameFields}
use Rattle.layout.specs.Frames.{frame_count}
use Rattle.family.specs.Family.{FamilyLayout}
use Rattle.station_message.specs.declared.message.StationMessage.{StationMessage}
use Rattle.station_message.specs.declared.message.MessageHead.{MessageHead}
use Rattle.station_message.specs.Checksum.{checksum_of}

-- Bytes of eight bits, four in frame 0 and six in each later frame, with nothing behind them.
abbrev pub frame_layout : FrameLayout
frame_layout = record { byte_bits = 8; trailing_bits = 0; first_bytes = 4; later_bytes = 6 }

-- The encoding is 0 or 4.
abbrev pub lawful_encoding : ℕ → Bool
lawful_encoding e = e == 0 || e == 4

-- A text has 4 to 190 bytes.
abbrev pub lawful_length : ℕ → Bool
lawful_length n = nat_le 4 n && nat_le n 190

-- The priority is 0 or 1; the head is tested before the length.
abbrev pub message_refusal : MessageHead → ℕ → Option Refusal
message_refusal h n = cond (nat_lt h.priority 2 && lawful_encoding h.encoding) (cond (lawful_length n) None (Some TextLength)) (Some HeadSettingOrPlace)

-- The fields of a text of n bytes with the checksum c, under the sequence number q: frame 0 tells the sequence number, the head, the length and the checksum, a later frame its number and the sequence number.
abbrev pub fields_of : ℕ → MessageHead → ℕ → ℕ → FrameFields
fields_of q h n c = record {
  first_leading = (((q * 2 + h.priority) * 8 + h.encoding) * 256 + n) * 128 + c;
  later_leading = q * 8;
  number_unit = 32;
  trailing = 0;
}

-- A frame's own number.
abbrev pub number_in : ℕ → ℕ
number_in x = x / 2 ^ 53 % 32

-- A frame's sequence number.
abbrev pub sequence_in : ℕ → ℕ
sequence_in x = x / 2 ^ 51 % 4

-- The reserved bits of a later frame.
abbrev pub reserved_in : ℕ → ℕ
reserved_in x = x / 2 ^ 48 % 8

-- The head that frame 0 tells.
abbrev pub head_in : ℕ → MessageHead
head_in x = record { priority = x / 2 ^ 50 % 2; encoding = x / 2 ^ 47 % 8 }

-- The length of the text that frame 0 tells.
abbrev pub length_in : ℕ → ℕ
length_in x = x / 2 ^ 39 % 256

-- The last number follows from the length.
abbrev pub last_in : ℕ → ℕ
last_in x = frame_count frame_layout (length_in x) - 1

-- Frame 0 keeps the ranges of encoding and length, and a later frame has zero reserved bits.
abbrev pub lawful_frame : ℕ → Bool
lawful_frame x = nat_lt x (2 ^ 58) && cond (number_in x == 0) (lawful_encoding (head_in x).encoding && lawful_length (length_in x)) (reserved_in x == 0)

-- The layout of the family of messages.
abbrev pub message_layout : FamilyLayout StationMessage MessageHead
message_layout = record {
  modulus = 4;
  frame_layout = frame_layout;
  refusal = λ _ r. message_refusal r.head (length r.text);
  lawful = λ _ x. lawful_frame x;
  number = λ _ x. number_in x;
  sequence = λ _ x. sequence_in x;
  last = λ _ x. last_in x;
  fields = λ _ r q. fields_of q r.head (length r.text) (checksum_of r.text);
  head_of = λ _ x. head_in x;
  length_of = λ _ xs. length_in (slice_index xs 0);
}
