-- A family of two frames: frame 0 carries a flag as the head, and frame 1 the one byte of the text, which is not 0.
use Rattle.std.specs.Prelude.{ℕ, ◌+◌, ◌/◌, ◌%◌, Bool, cond, not, ◌&&◌, List, [], ◌∷◌, length, Some, None, Option, ◌==◌, nat_lt, slice_index}
use Rattle.pdu.specs.declared.refusal.Refusal.{Refusal}
use Rattle.pdu.specs.declared.refusal.Refusal.TheVariants.{TextLength, TextByte}
use Rattle.family.specs.Meaning.{RecordOf, Meaning}
use Rattle.gatherer_tests.specs.declared.two.Two.{Two}
use Rattle.gatherer_tests.specs.Frames.{frame_of}

-- A flag as a byte.
abbrev pub flag : Bool → ℕ
flag b = cond b 1 0

-- Why a record is refused.
abbrev pub refusal_of_two : RecordOf Bool → Option Refusal
refusal_of_two r = cond (length r.text == 1) (cond (slice_index r.text 0 == 0) (Some TextByte) None) (Some TextLength)

-- Whether two frames are a cut.
abbrev pub is_cut : ℕ → ℕ → Bool
is_cut a b = (((nat_lt a 2048 && a / 256 % 2 == 0) && nat_lt (a % 256) 2) && b / 256 == a / 256 + 1) && not (b % 256 == 0)

-- The record that two frames join to.
abbrev pub joined_of_two : List ℕ → Option (RecordOf Bool)
joined_of_two [] = None
joined_of_two (a ∷ []) = None
joined_of_two (a ∷ b ∷ []) = cond (is_cut a b) (Some (record { head = (a % 256 == 1); text = (b % 256) ∷ [] })) None
joined_of_two (a ∷ b ∷ x ∷ xs) = None

-- The meaning of the family.
abbrev pub meaning_of_two : Meaning Two Bool
meaning_of_two = record {
  modulus = 4;
  refusal = λ _ r. refusal_of_two r;
  lawful = λ _ x. nat_lt x 2048;
  number = λ _ x. x / 256 % 2;
  sequence = λ _ x. x / 512;
  last = λ _ x. 1;
  cut = λ _ r q. frame_of q 0 (flag r.head) ∷ frame_of q 1 (slice_index r.text 0) ∷ [];
  joined = λ _ xs. joined_of_two xs;
}
