-- What a frame family means. A frame is a payload of 58 bits; a record is a head and a text; a cut is the list of frames that carry a record.
use Rattle.std.specs.Prelude.{◌≡◌, ℕ, ◌+◌, ◌^◌, ◌<◌, ◌≤◌, Bool, true, cond, ◌&&◌, List, length, Some, None, Ok, Err, Option, Result, ◌==◌, nat_lt, slice_index}
use Rattle.std.specs.Str.{bytes_eq}
use Rattle.pdu.specs.declared.refusal.Refusal.{Refusal}
use Rattle.pdu.specs.declared.refusal.Refusal.TheVariants.{OutOfRange, UnlawfulFrame}

-- A head of sort T, and the bytes of a text.
pub record RecordOf (T : Type 0) : Type 0 where
  pub head : T
  pub text : List ℕ

-- Two records are equal when their texts are the same bytes.
abbrev pub equal_records : {T : Type 0} → RecordOf T → RecordOf T → Bool
equal_records a b = bytes_eq a.text b.text

-- The meaning of a family with settings S and heads T.
pub record Meaning (S T : Type 0) : Type 0 where
  -- sequence numbers are counted modulo this
  pub modulus : ℕ
  -- why a record is refused, none if it is lawful
  pub refusal : S → RecordOf T → Option Refusal
  -- whether a frame is lawful
  pub lawful : S → ℕ → Bool
  -- a lawful frame's own number, its sequence number, and the last number that a frame 0 tells
  pub number : S → ℕ → ℕ
  pub sequence : S → ℕ → ℕ
  pub last : S → ℕ → ℕ
  -- the frames of a lawful record under a sequence number
  pub cut : S → RecordOf T → ℕ → List ℕ
  -- the record that a list of frames joins to, if any
  pub joined : S → List ℕ → Option (RecordOf T)

abbrev pub Bytes : List ℕ → Type 0
Bytes t = (i : ℕ) → slice_index t i < 256

-- The record is lawful, its text is bytes, and q is a sequence number.
pub record Fit {S T : Type 0} (m : Meaning S T) (s : S) (r : RecordOf T) (q : ℕ) : Type 0 where
  pub record_fits : m.refusal s r ≡ None
  pub bytes_fit : Bytes r.text
  pub sequence_fits : q < m.modulus

-- What every family keeps.
pub record Laws {S T : Type 0} (m : Meaning S T) : Type 0 where
  pub modulus_low : 4 ≤ m.modulus
  pub modulus_high : m.modulus ≤ 8
  -- a cut has 1 to 64 frames, and as many under each sequence number
  pub some_frames : (s : S) (r : RecordOf T) (q : ℕ) → Fit m s r q → 1 ≤ length (m.cut s r q)
  pub few_frames : (s : S) (r : RecordOf T) (q : ℕ) → Fit m s r q → length (m.cut s r q) ≤ 64
  pub as_many : (s : S) (r : RecordOf T) (p q : ℕ) → length (m.cut s r p) ≡ length (m.cut s r q)
  -- frame i of a cut is lawful, and has number i and the cut's sequence number; frame 0 tells the last number
  pub cut_lawful : (s : S) (r : RecordOf T) (q i : ℕ) → Fit m s r q → i < length (m.cut s r q) → m.lawful s (slice_index (m.cut s r q) i) ≡ true
  pub cut_numbered : (s : S) (r : RecordOf T) (q i : ℕ) → Fit m s r q → i < length (m.cut s r q) → m.number s (slice_index (m.cut s r q) i) ≡ i
  pub cut_in_sequence : (s : S) (r : RecordOf T) (q i : ℕ) → Fit m s r q → i < length (m.cut s r q) → m.sequence s (slice_index (m.cut s r q) i) ≡ q
  pub cut_tells_last : (s : S) (r : RecordOf T) (q : ℕ) → Fit m s r q → m.last s (slice_index (m.cut s r q) 0) + 1 ≡ length (m.cut s r q)
  -- a lawful frame has 58 bits, and its numbers are in range
  pub frame_small : (s : S) (x : ℕ) → m.lawful s x ≡ true → x < 2 ^ 58
  pub number_small : (s : S) (x : ℕ) → m.lawful s x ≡ true → m.number s x < 64
  pub sequence_small : (s : S) (x : ℕ) → m.lawful s x ≡ true → m.sequence s x < m.modulus
  pub last_small : (s : S) (x : ℕ) → m.lawful s x ≡ true → m.number s x ≡ 0 → m.last s x < 64
  -- a list joins to a record exactly if it is a cut of that record
  pub cut_joins : (s : S) (r : RecordOf T) (q : ℕ) → Fit m s r q → m.joined s (m.cut s r q) ≡ Some r
  pub joined_is_cut : (s : S) (r : RecordOf T) (xs : List ℕ) → m.joined s xs ≡ Some r → (q : ℕ) × Fit m s r q × (xs ≡ m.cut s r q)

-- The first refusal, or else the answer.
abbrev pub unless : {A : Type 0} → Option Refusal → Result A Refusal → Result A Refusal
unless None a = a
unless (Some e) a = Err e

-- How many frames a record has.
abbrev pub count_due : {S T : Type 0} → Meaning S T → S → RecordOf T → Result ℕ Refusal
count_due m s r = unless (m.refusal s r) (Ok (length (m.cut s r 0)))

-- Frame i of a record's cut under the sequence number q.
abbrev pub frame_due : {S T : Type 0} → Meaning S T → S → RecordOf T → ℕ → ℕ → Result ℕ Refusal
frame_due m s r q i = unless (m.refusal s r) (cond (nat_lt q m.modulus && nat_lt i (length (m.cut s r 0))) (Ok (slice_index (m.cut s r q) i)) (Err OutOfRange))

-- The numbers of a lawful frame.
abbrev pub number_due : {S T : Type 0} → Meaning S T → S → ℕ → Result ℕ Refusal
number_due m s x = cond (m.lawful s x) (Ok (m.number s x)) (Err UnlawfulFrame)

abbrev pub sequence_due : {S T : Type 0} → Meaning S T → S → ℕ → Result ℕ Refusal
sequence_due m s x = cond (m.lawful s x) (Ok (m.sequence s x)) (Err UnlawfulFrame)

-- The last number, of a lawful frame of number 0.
abbrev pub last_due : {S T : Type 0} → Meaning S T → S → ℕ → Result ℕ Refusal
last_due m s x = cond (m.lawful s x && m.number s x == 0) (Ok (m.last s x)) (Err UnlawfulFrame)
