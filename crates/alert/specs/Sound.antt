-- The layout of the alert is sound.
use Rattle.std.specs.Prelude.{◌≡◌, ℕ, ◌+◌, ◌-◌, ◌*◌, ◌/◌, ◌%◌, ◌^◌, ◌<◌, ◌≤◌, min, true, ◌&&◌, List, length, None, ◌==◌, ◌≢◌, nat_le}
use Rattle.std.proofs.Common.{sym, ap, ap₂, ◌∙◌, arith}
use Rattle.std.proofs.lemmas.Bool.{and_from, and_parts, lt-ltb, ltb-true, leb-true, eq-eqb, ne_eqb, cond-true, cond-false}
use Rattle.std.proofs.lemmas.Bool.Decides.{nat_tests}
use Rattle.family.specs.Meaning.{RecordOf, Fit}
use Rattle.layout.specs.Frames.{frame_count, FitLayout, FitFields}
use Rattle.family.specs.Family.{meaning_of}
use Rattle.layout.proofs.Reading.{first_read, later_read}
use Rattle.family.specs.Sound.{SoundLayout, frame_in, count_of, cut_first, each}
use Rattle.alert.specs.declared.alert.Alert.{Alert}
use Rattle.alert.specs.declared.alert.AlertHead.{AlertHead}
use Rattle.alert.specs.Alert.{alert_layout, frame_layout, fields_of, alert_refusal, check_of, lawful_frame, lawful_head, lawful_length, number_in, sequence_in, reserved_in, head_in, length_in}
use Rattle.pdu.proofs.Dividend.{remainder_below}

layout_fits : FitLayout frame_layout
layout_fits = record { byte_bits_few = omega arith; trailing_bits_few = omega arith; first_some = omega arith; first_few = omega arith; later_some = omega arith; later_few = omega arith }

-- the ranges of a lawful record, by its head and length
record Ranges (h : AlertHead) (n : ℕ) : Type 0 where
  pub encoding : h.encoding < 8
  pub control : h.control_length < 32
  pub head_lawful : lawful_head h ≡ true
  pub short : n ≤ 381
  pub length_lawful : lawful_length h n ≡ true

ranges : (h : AlertHead) (n : ℕ) → alert_refusal h n ≡ None → Ranges h n
ranges h n e = record { encoding = grind (arith, nat_tests); control = grind (arith, nat_tests); head_lawful = grind (arith, nat_tests); short = grind (arith, nat_tests); length_lawful = grind (arith, nat_tests) }

check_below : (s : Alert) (t : List ℕ) → check_of s t < 128
check_below s t = remainder_below 7 s.generator t s.small

room : (q e n c k : ℕ) → q < 4 → e < 8 → n ≤ 381 → c < 128 → k < 32 → FitFields frame_layout (fields_of q (record { encoding = e; control_length = k }) n c)
room q e n c k hq he hn hc hk = record { first_fits = omega arith; later_fits = omega arith; leading_fits = omega arith; unit_some = omega arith; trailing_fits = omega arith }

-- frame 0, as any number x with these fields before its three bytes
record First (x q : ℕ) (h : AlertHead) (n : ℕ) : Type 0 where
  pub fits : x < 2 ^ 58
  pub number : number_in x ≡ 0
  pub sequence : sequence_in x ≡ q
  pub reserved : reserved_in x ≡ 0
  pub head : head_in x ≡ h
  pub long : length_in x ≡ n

head_in_lem : (x q e n c k : ℕ) → x / 1 / 2 ^ 24 ≡ (((q * 32 + e) * 512 + n) * 128 + c) * 32 + k → e < 8 → n ≤ 381 → c < 128 → k < 32 → head_in x ≡ record { encoding = e; control_length = k }
head_in_lem x q e n c k h he hn hc hk =
    let encoding : x / 2 ^ 45 % 8 ≡ e = omega arith in
    let control : x / 2 ^ 24 % 32 ≡ k = omega arith in
    λ i. record { encoding = encoding i; control_length = control i }

first : (x q e n c k : ℕ) → x / 1 / 2 ^ 24 ≡ (((q * 32 + e) * 512 + n) * 128 + c) * 32 + k → q < 4 → e < 8 → n ≤ 381 → c < 128 → k < 32 → First x q (record { encoding = e; control_length = k }) n
first x q e n c k h hq he hn hc hk = record { fits = omega arith; number = omega arith; sequence = omega arith; reserved = omega arith; head = head_in_lem x q e n c k h he hn hc hk; long = omega arith }

-- a later frame
record Later (x q i : ℕ) : Type 0 where
  pub fits : x < 2 ^ 58
  pub number : number_in x ≡ i
  pub sequence : sequence_in x ≡ q
  pub reserved : reserved_in x ≡ 0

later : (x q i : ℕ) → x / 1 / 2 ^ 48 ≡ q * 4 + i * 16 → q < 4 → i < 64 → Later x q i
later x q i h hq hi = record { fits = omega arith; number = omega arith; sequence = omega arith; reserved = omega arith }

few : (n : ℕ) → n ≤ 381 → frame_count frame_layout n ≤ 64
few n h = omega arith

first_lawful : (x q : ℕ) (h : AlertHead) (n : ℕ) → First x q h n → lawful_head h ≡ true → lawful_length h n ≡ true → lawful_frame x ≡ true
first_lawful x q h n z a b =
    and_from _ _ (and_from _ _ (lt-ltb x (2 ^ 58) z.fits) (eq-eqb _ 0 z.reserved))
    (cond-true (number_in x == 0) _ true (eq-eqb _ 0 z.number) ∙ and_from _ _ (ap lawful_head z.head ∙ a) (ap₂ lawful_length z.head z.long ∙ b))

later_lawful : (x q i : ℕ) → Later x q i → (i ≢ 0) → lawful_frame x ≡ true
later_lawful x q i l z =
    and_from _ _ (and_from _ _ (lt-ltb x (2 ^ 58) l.fits) (eq-eqb _ 0 l.reserved)) (cond-false (number_in x == 0) _ true (ne_eqb _ 0 (λ e. z (sym l.number ∙ e))))

-- a lawful frame 0 tells a length of at most 381
lawful_short : (x : ℕ) → lawful_frame x ≡ true → number_in x ≡ 0 → length_in x ≤ 381
lawful_short x h z =
    let head = lawful_head (head_in x) in
    let long = lawful_length (head_in x) (length_in x) in
    let both : (head && long) ≡ true = sym (cond-true (number_in x == 0) (head && long) true (eq-eqb _ 0 z)) ∙ (and_parts _ _ h).1 in
    let r = (and_parts head long both).1 in
    let n = (and_parts (nat_le 7 (length_in x)) (nat_le (length_in x) 381 && nat_le (2 * (head_in x).control_length) (length_in x)) r).1 in
    leb-true (length_in x) 381 (and_parts (nat_le (length_in x) 381) (nat_le (2 * (head_in x).control_length) (length_in x)) n).0

module _ (s : Alert) (r : RecordOf AlertHead) (q : ℕ) (f : Fit (meaning_of alert_layout) s r q) where
  ok : Ranges r.head (length r.text)
  ok = ranges r.head (length r.text) f.record_fits

  first_of : First (frame_in alert_layout s r q 0) q r.head (length r.text)
  first_of =
      first _ q r.head.encoding (length r.text) (check_of s r.text) r.head.control_length (first_read frame_layout (alert_layout.fields s r q) r.text f.bytes_fit (omega arith))
      f.sequence_fits ok.encoding ok.short (check_below s r.text) ok.control

  later_of : (i : ℕ) → i < count_of alert_layout r → (i ≢ 0) → Later (frame_in alert_layout s r q i) q i
  later_of i h z =
      let k = few (length r.text) ok.short in
      later _ q i (later_read frame_layout (alert_layout.fields s r q) r.text i z f.bytes_fit (omega arith)) f.sequence_fits (omega (arith, h, k))

pub sound : SoundLayout alert_layout
sound = record {
  modulus_low = omega arith;
  modulus_high = omega arith;
  layout_fits = layout_fits;
  cuttable = λ s r q f. let k = ok s r q f in record {
    layout_fits = layout_fits;
    fields_fit = room q r.head.encoding (length r.text) (check_of s r.text) r.head.control_length f.sequence_fits k.encoding k.short (check_below s r.text) k.control;
    bytes_fit = f.bytes_fit;
    few_frames = few (length r.text) k.short;
  };
  cut_lawful = λ s r q i f h.
      let k = ok s r q f in
      each alert_layout s r q i (λ x _. lawful_frame x ≡ true) (first_lawful _ _ _ _ (first_of s r q f) k.head_lawful k.length_lawful) (λ z. later_lawful _ _ i (later_of s r q f i h z) z);
  cut_numbered = λ s r q i f h. each alert_layout s r q i (λ x k. number_in x ≡ k) (first_of s r q f).number (λ z. (later_of s r q f i h z).number);
  cut_in_sequence = λ s r q i f h. each alert_layout s r q i (λ x _. sequence_in x ≡ q) (first_of s r q f).sequence (λ z. (later_of s r q f i h z).sequence);
  cut_tells_last = λ s r q f. ap (λ (n : ℕ). frame_count frame_layout n - 1 + 1) (first_of s r q f).long ∙ omega arith;
  cut_tells_head = λ s r q f. (first_of s r q f).head;
  cut_tells_length = λ s r q f. let k = (ok s r q f).short in ap (λ (x : ℕ). min (length_in x) 381) (cut_first alert_layout s r q) ∙ ap (λ (n : ℕ). min n 381) (first_of s r q f).long ∙ omega (arith, k);
  frame_small = λ s x h. ltb-true x (2 ^ 58) (and_parts _ _ (and_parts _ _ h).0).0;
  number_small = λ s x h. omega arith;
  last_small = λ s x h z. let k = few (length_in x) (lawful_short x h z) in omega (arith, k);
  sequence_small = λ s x. omega arith;
}
