-- A family whose frames are fields around the bytes of the text.
use Rattle.std.specs.Prelude.{ℕ, Bool, true, false, cond, ◌&&◌, List, [], ◌∷◌, Some, None, Option, ◌==◌, slice_index}
use Rattle.std.specs.Str.{bytes_eq}
use Rattle.pdu.specs.declared.refusal.Refusal.{Refusal}
use Rattle.family.specs.Meaning.{RecordOf, Meaning}
use Rattle.layout.specs.declared.layout.FrameLayout.{FrameLayout}
use Rattle.layout.specs.declared.layout.FrameFields.{FrameFields}
use Rattle.layout.specs.Frames.{cut_of, text_in}

-- The layout of a family with settings S and heads T.
pub record FamilyLayout (S T : Type 0) : Type 0 where
  pub modulus : ℕ
  pub frame_layout : FrameLayout
  pub refusal : S → RecordOf T → Option Refusal
  pub lawful : S → ℕ → Bool
  pub number : S → ℕ → ℕ
  pub sequence : S → ℕ → ℕ
  pub last : S → ℕ → ℕ
  -- the fields of a record's frames under a sequence number
  pub fields : S → RecordOf T → ℕ → FrameFields
  -- the head that frame 0 tells, and the length of the text that a list of frames tells
  pub head_of : S → ℕ → T
  pub length_of : S → List ℕ → ℕ

-- The frames of a record under the sequence number q.
abbrev pub record_cut : {S T : Type 0} → FamilyLayout S T → S → RecordOf T → ℕ → List ℕ
record_cut l s r q = cut_of l.frame_layout (l.fields s r q) r.text

-- The only record that the frames xs can be a cut of.
abbrev pub record_in : {S T : Type 0} → FamilyLayout S T → S → List ℕ → RecordOf T
record_in l s xs = record { head = l.head_of s (slice_index xs 0); text = text_in l.frame_layout xs (l.length_of s xs) }

-- How many bytes of a text the frame x holds.
abbrev pub count_held : {S T : Type 0} → FamilyLayout S T → S → ℕ → ℕ
count_held l s x = cond (l.number s x == 0) l.frame_layout.first_bytes l.frame_layout.later_bytes

-- The bytes of a text that the frame x holds: they are read as from a frame 0 that holds so many, alone.
abbrev pub held_in : {S T : Type 0} → FamilyLayout S T → S → ℕ → List ℕ
held_in l s x = text_in (record {
  byte_bits = l.frame_layout.byte_bits;
  trailing_bits = l.frame_layout.trailing_bits;
  first_bytes = count_held l s x;
  later_bytes = l.frame_layout.later_bytes;
}) (x ∷ []) (count_held l s x)

-- Whether there is no refusal.
abbrev pub accepted : Option Refusal → Bool
accepted None = true
accepted (Some e) = false

-- The record r, if it is lawful and the frames xs are its cut under q.
abbrev pub if_cut : {S T : Type 0} → FamilyLayout S T → S → RecordOf T → ℕ → List ℕ → Option (RecordOf T)
if_cut l s r q xs = cond (accepted (l.refusal s r) && bytes_eq (record_cut l s r q) xs) (Some r) None

-- What the family means.
abbrev pub meaning_of : {S T : Type 0} → FamilyLayout S T → Meaning S T
meaning_of l = record {
  modulus = l.modulus;
  refusal = l.refusal;
  lawful = l.lawful;
  number = l.number;
  sequence = l.sequence;
  last = l.last;
  cut = record_cut l;
  joined = λ s xs. if_cut l s (record_in l s xs) (l.sequence s (slice_index xs 0)) xs;
}
