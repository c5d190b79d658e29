-- The layout of the station message is sound.
use Rattle.std.specs.Prelude.{◌≡◌, ℕ, ◌+◌, ◌-◌, ◌*◌, ◌/◌, ◌%◌, ◌^◌, ◌<◌, ◌≤◌, true, length, None, ◌==◌, ◌≢◌}
use Rattle.std.proofs.Common.{sym, ap, ◌∙◌, arith}
use Rattle.std.proofs.lemmas.Bool.{and_from, and_parts, lt-ltb, ltb-true, eq-eqb, ne_eqb, cond-true, cond-false}
use Rattle.std.proofs.lemmas.Bool.Decides.{nat_tests}
use Rattle.family.specs.Meaning.{RecordOf, Fit}
use Rattle.layout.specs.Frames.{frame_count, FitLayout, FitFields}
use Rattle.family.specs.Family.{meaning_of}
use Rattle.layout.proofs.Reading.{first_read, later_read}
use Rattle.family.specs.Sound.{SoundLayout, frame_in, count_of, cut_first, each}
use Rattle.station_message.specs.declared.message.StationMessage.{StationMessage}
use Rattle.station_message.specs.declared.message.MessageHead.{MessageHead}
use Rattle.station_message.specs.Checksum.{checksum_of}
use Rattle.station_message.specs.Message.{message_layout, frame_layout, fields_of, message_refusal, lawful_frame, lawful_encoding, lawful_length, number_in, sequence_in, reserved_in, length_in}

layout_fits : FitLayout frame_layout
layout_fits = record { byte_bits_few = omega arith; trailing_bits_few = omega arith; first_some = omega arith; first_few = omega arith; later_some = omega arith; later_few = omega arith }

-- the ranges of a lawful record, by its head and length
record Ranges (h : MessageHead) (n : ℕ) : Type 0 where
  pub priority : h.priority < 2
  pub encoding : h.encoding < 8
  pub encoding_lawful : lawful_encoding h.encoding ≡ true
  pub short : n ≤ 190
  pub length_lawful : lawful_length n ≡ true

ranges : (h : MessageHead) (n : ℕ) → message_refusal h n ≡ None → Ranges h n
ranges h n e = record { priority = grind (arith, nat_tests); encoding = grind (arith, nat_tests); encoding_lawful = grind (arith, nat_tests); short = grind (arith, nat_tests); length_lawful = grind (arith, nat_tests) }

room : (q p e n c : ℕ) → q < 4 → p < 2 → e < 8 → n ≤ 190 → c < 128 → FitFields frame_layout (fields_of q (record { priority = p; encoding = e }) n c)
room q p e n c a b d h k = record { first_fits = omega arith; later_fits = omega arith; leading_fits = omega arith; unit_some = omega arith; trailing_fits = omega arith }

-- frame 0, as any number x with these fields before its four bytes
record First (x q p e n : ℕ) : Type 0 where
  pub fits : x < 2 ^ 58
  pub number : number_in x ≡ 0
  pub sequence : sequence_in x ≡ q
  pub priority : x / 2 ^ 50 % 2 ≡ p
  pub encoding : x / 2 ^ 47 % 8 ≡ e
  pub long : length_in x ≡ n

first : (x q p e n c : ℕ) → x / 1 / 2 ^ 32 ≡ (((q * 2 + p) * 8 + e) * 256 + n) * 128 + c → q < 4 → p < 2 → e < 8 → n < 256 → c < 128 → First x q p e n
first x q p e n c h hq hp he hn hc = record { fits = omega arith; number = omega arith; sequence = omega arith; priority = omega arith; encoding = omega arith; long = omega arith }

-- a later frame
record Later (x q i : ℕ) : Type 0 where
  pub fits : x < 2 ^ 58
  pub number : number_in x ≡ i
  pub sequence : sequence_in x ≡ q
  pub reserved : reserved_in x ≡ 0

later : (x q i : ℕ) → x / 1 / 2 ^ 48 ≡ q * 8 + i * 32 → q < 4 → i < 32 → Later x q i
later x q i h hq hi = record { fits = omega arith; number = omega arith; sequence = omega arith; reserved = omega arith }

few : (n : ℕ) → n ≤ 190 → frame_count frame_layout n ≤ 32
few n h = omega arith

first_lawful : (x q p e n : ℕ) → First x q p e n → lawful_encoding e ≡ true → lawful_length n ≡ true → lawful_frame x ≡ true
first_lawful x q p e n z a b =
    and_from _ _ (lt-ltb x (2 ^ 58) z.fits)
    (cond-true (number_in x == 0) _ _ (eq-eqb _ 0 z.number) ∙ and_from _ _ (ap lawful_encoding z.encoding ∙ a) (ap lawful_length z.long ∙ b))

later_lawful : (x q i : ℕ) → Later x q i → (i ≢ 0) → lawful_frame x ≡ true
later_lawful x q i l z =
    and_from _ _ (lt-ltb x (2 ^ 58) l.fits) (cond-false (number_in x == 0) _ _ (ne_eqb _ 0 (λ e. z (sym l.number ∙ e))) ∙ eq-eqb (reserved_in x) 0 l.reserved)

module _ (s : StationMessage) (r : RecordOf MessageHead) (q : ℕ) (f : Fit (meaning_of message_layout) s r q) where
  ok : Ranges r.head (length r.text)
  ok = ranges r.head (length r.text) f.record_fits

  first_of : First (frame_in message_layout s r q 0) q r.head.priority r.head.encoding (length r.text)
  first_of =
      first _ q r.head.priority r.head.encoding (length r.text) (checksum_of r.text) (first_read frame_layout (message_layout.fields s r q) r.text f.bytes_fit (omega arith))
      f.sequence_fits ok.priority ok.encoding (omega (arith, ok.short)) (omega arith)

  later_of : (i : ℕ) → i < count_of message_layout r → (i ≢ 0) → Later (frame_in message_layout s r q i) q i
  later_of i h z =
      let k = few (length r.text) ok.short in
      later _ q i (later_read frame_layout (message_layout.fields s r q) r.text i z f.bytes_fit (omega arith)) f.sequence_fits (omega (arith, h, k))

pub sound : SoundLayout message_layout
sound = record {
  modulus_low = omega arith;
  modulus_high = omega arith;
  layout_fits = layout_fits;
  cuttable = λ s r q f. let k = ok s r q f in record {
    layout_fits = layout_fits;
    fields_fit = room q r.head.priority r.head.encoding (length r.text) (checksum_of r.text) f.sequence_fits k.priority k.encoding k.short (omega arith);
    bytes_fit = f.bytes_fit;
    few_frames = let n = few (length r.text) k.short in omega (arith, n);
  };
  cut_lawful = λ s r q i f h.
      let k = ok s r q f in
      each message_layout s r q i (λ x _. lawful_frame x ≡ true) (first_lawful _ _ _ _ _ (first_of s r q f) k.encoding_lawful k.length_lawful) (λ z. later_lawful _ _ i (later_of s r q f i h z) z);
  cut_numbered = λ s r q i f h. each message_layout s r q i (λ x k. number_in x ≡ k) (first_of s r q f).number (λ z. (later_of s r q f i h z).number);
  cut_in_sequence = λ s r q i f h. each message_layout s r q i (λ x _. sequence_in x ≡ q) (first_of s r q f).sequence (λ z. (later_of s r q f i h z).sequence);
  cut_tells_last = λ s r q f. ap (λ (n : ℕ). frame_count frame_layout n - 1 + 1) (first_of s r q f).long ∙ omega arith;
  cut_tells_head = λ s r q f. let z = first_of s r q f in λ i. record { priority = z.priority i; encoding = z.encoding i };
  cut_tells_length = λ s r q f. ap length_in (cut_first message_layout s r q) ∙ (first_of s r q f).long;
  frame_small = λ s x h. ltb-true x (2 ^ 58) (and_parts _ _ h).0;
  number_small = λ s x h. omega arith;
  last_small = λ s x h z. omega arith;
  sequence_small = λ s x. omega arith;
}
