-- What a layout owes, and that a family of such a layout keeps the laws.
use Rattle.std.proofs.Common.{◌≡◌, ℕ, ◌+◌, ◌/◌, ◌^◌, ◌<◌, ◌≤◌, true, false, ◌&&◌, List, length, get_or, Some, None, Option, sym, refl, ap, ◌∙◌, subst, ap₂, ⊎_elim, zero-add, arith}
use lib.Arith.{digits_div}
use Rattle.std.specs.Str.{bytes_eq}
use Rattle.std.proofs.lemmas.Slice.Eq.{bytes_eq-Decides}
use Rattle.std.proofs.lemmas.Bool.{and_parts, and_from, cases_Bool, cases_eq, cond-true, cond-false}
use Rattle.std.proofs.lemmas.List.FromFn.{get_or-map-range_with_len, length-map-range_with_len}
use Rattle.pdu.specs.declared.refusal.Refusal.{Refusal}
use Rattle.family.specs.Meaning.{RecordOf, Fit, Laws}
use Rattle.layout.specs.Frames.{with_bytes, frame_count, leading_of, frame_of, place_of, bytes_in, text_in, FitLayout, Cuttable}
use Rattle.family.specs.Family.{FamilyLayout, record_cut, record_in, meaning_of, accepted, if_cut}
use Rattle.layout.proofs.Reading.{Holds, text_read, text_small}

-- frame i of a record, and how many there are
abbrev pub frame_in : {S T : Type 0} → FamilyLayout S T → S → RecordOf T → ℕ → ℕ → ℕ
frame_in l s r q i = frame_of l.frame_layout (l.fields s r q) r.text i

abbrev pub count_of : {S T : Type 0} → FamilyLayout S T → RecordOf T → ℕ
count_of l r = frame_count l.frame_layout (length r.text)

pub record SoundLayout {S T : Type 0} (l : FamilyLayout S T) : Type 0 where
  pub modulus_low : 4 ≤ l.modulus
  pub modulus_high : l.modulus ≤ 8
  pub layout_fits : FitLayout l.frame_layout
  pub cuttable : (s : S) (r : RecordOf T) (q : ℕ) → Fit (meaning_of l) s r q → Cuttable l.frame_layout (l.fields s r q) r.text
  pub cut_lawful : (s : S) (r : RecordOf T) (q i : ℕ) → Fit (meaning_of l) s r q → i < count_of l r → l.lawful s (frame_in l s r q i) ≡ true
  pub cut_numbered : (s : S) (r : RecordOf T) (q i : ℕ) → Fit (meaning_of l) s r q → i < count_of l r → l.number s (frame_in l s r q i) ≡ i
  pub cut_in_sequence : (s : S) (r : RecordOf T) (q i : ℕ) → Fit (meaning_of l) s r q → i < count_of l r → l.sequence s (frame_in l s r q i) ≡ q
  pub cut_tells_last : (s : S) (r : RecordOf T) (q : ℕ) → Fit (meaning_of l) s r q → l.last s (frame_in l s r q 0) + 1 ≡ count_of l r
  pub cut_tells_head : (s : S) (r : RecordOf T) (q : ℕ) → Fit (meaning_of l) s r q → l.head_of s (frame_in l s r q 0) ≡ r.head
  pub cut_tells_length : (s : S) (r : RecordOf T) (q : ℕ) → Fit (meaning_of l) s r q → l.length_of s (record_cut l s r q) ≡ length r.text
  pub frame_small : (s : S) (x : ℕ) → l.lawful s x ≡ true → x < 2 ^ 58
  pub number_small : (s : S) (x : ℕ) → l.lawful s x ≡ true → l.number s x < 64
  pub last_small : (s : S) (x : ℕ) → l.lawful s x ≡ true → l.number s x ≡ 0 → l.last s x < 64
  -- of any number
  pub sequence_small : (s : S) (x : ℕ) → l.sequence s x < l.modulus

none : (o : Option Refusal) → accepted o ≡ true → o ≡ None
none None e = refl
none (Some x) e = absurd (let z : ◌≡◌ {A = ℕ} 0 1 = cc in omega arith)

module _ {S T : Type 0} (l : FamilyLayout S T) where
  pub cut_long : (s : S) (r : RecordOf T) (q : ℕ) → length (record_cut l s r q) ≡ count_of l r
  cut_long s r q = length-map-range_with_len (frame_in l s r q) 0 (count_of l r)

  pub cut_at : (s : S) (r : RecordOf T) (q i : ℕ) → i < count_of l r → get_or (record_cut l s r q) i 0 ≡ frame_in l s r q i
  cut_at s r q i h = get_or-map-range_with_len (frame_in l s r q) 0 (count_of l r) i i 0 h (zero-add i)

  pub cut_first : (s : S) (r : RecordOf T) (q : ℕ) → get_or (record_cut l s r q) 0 0 ≡ frame_in l s r q 0
  cut_first s r q = cut_at s r q 0 (omega arith)

  -- what holds of frame 0 and of each later frame holds of each
  pub each : (s : S) (r : RecordOf T) (q i : ℕ) (P : ℕ → ℕ → Type 0) → P (frame_in l s r q 0) 0 → ((i ≡ 0 → ⊥) → P (frame_in l s r q i) i) → P (frame_in l s r q i) i
  each s r q i P a b = ⊎_elim (λ (e : i ≡ 0). subst (λ (k : ℕ). P (frame_in l s r q k) k) (sym e) a) b (cases_eq i 0)

  pub cut_holds : (s : S) (r : RecordOf T) (q : ℕ) → (l.fields s r q).trailing < 2 ^ l.frame_layout.trailing_bits → Holds l.frame_layout r.text (record_cut l s r q)
  cut_holds s r q f i h = (
    leading_of (l.fields s r q) i,
    ap (λ (x : ℕ). x / 2 ^ l.frame_layout.trailing_bits) (cut_at s r q i h)
        ∙ digits_div (with_bytes (leading_of (l.fields s r q) i) l.frame_layout.byte_bits r.text (place_of l.frame_layout i) (bytes_in l.frame_layout i)) f,
  )

  if_cut_lem : (s : S) (r : RecordOf T) (q : ℕ) (xs : List ℕ) → l.refusal s r ≡ None → record_cut l s r q ≡ xs → if_cut l s r q xs ≡ Some r
  if_cut_lem s r q xs a b = cond-true _ (Some r) None (and_from _ _ (ap accepted a) ((bytes_eq-Decides (record_cut l s r q) xs).1 b))

  only_if_cut : (s : S) (g r : RecordOf T) (q : ℕ) (xs : List ℕ) → if_cut l s g q xs ≡ Some r → (g ≡ r) × (l.refusal s g ≡ None) × (record_cut l s g q ≡ xs)
  only_if_cut s g r q xs e =
      let t = accepted (l.refusal s g) && bytes_eq (record_cut l s g q) xs in
      ⊎_elim
      (λ (y : t ≡ true).
      let p = and_parts _ _ y in
      let e2 : Some g ≡ Some r = sym (cond-true t (Some g) None y) ∙ e in
      (cc, none (l.refusal s g) p.0, (bytes_eq-Decides (record_cut l s g q) xs).0 p.1))
      (λ (n : t ≡ false). let e2 : None ≡ Some r = sym (cond-false t (Some g) None n) ∙ e in absurd (let z : ◌≡◌ {A = ℕ} 0 1 = cc in omega arith))
      (cases_Bool t)

module _ {S T : Type 0} (l : FamilyLayout S T) (ok : SoundLayout l) where
  record_read : (s : S) (r : RecordOf T) (q : ℕ) → Fit (meaning_of l) s r q → record_in l s (record_cut l s r q) ≡ r
  record_read s r q f =
      let xs = record_cut l s r q in
      let h : l.head_of s (get_or xs 0 0) ≡ r.head = ap (l.head_of s) (cut_first l s r q) ∙ ok.cut_tells_head s r q f in
      let t : text_in l.frame_layout xs (l.length_of s xs) ≡ r.text =
      ap (text_in l.frame_layout xs) (ok.cut_tells_length s r q f) ∙ text_read l.frame_layout r.text xs ok.layout_fits (ok.cuttable s r q f).bytes_fit (cut_long l s r q) (cut_holds l s r q (ok.cuttable s r q f).fields_fit.trailing_fits) in
      λ i. record { head = h i; text = t i }

  cut_joins : (s : S) (r : RecordOf T) (q : ℕ) → Fit (meaning_of l) s r q → (meaning_of l).joined s (record_cut l s r q) ≡ Some r
  cut_joins s r q f =
      let some : 0 < count_of l r = omega arith in
      ap₂ (λ g p. if_cut l s g p (record_cut l s r q)) (record_read s r q f) (ap (l.sequence s) (cut_first l s r q) ∙ ok.cut_in_sequence s r q 0 f some)
      ∙ if_cut_lem l s r q (record_cut l s r q) f.record_fits refl

  joined_is_cut : (s : S) (r : RecordOf T) (xs : List ℕ) → (meaning_of l).joined s xs ≡ Some r → (q : ℕ) × Fit (meaning_of l) s r q × (xs ≡ record_cut l s r q)
  joined_is_cut s r xs e =
      let q = l.sequence s (get_or xs 0 0) in
      let b = only_if_cut l s (record_in l s xs) r q xs e in
      let P : RecordOf T → Type 0 = λ g. (q : ℕ) × Fit (meaning_of l) s g q × (xs ≡ record_cut l s g q) in
      subst P b.0 (q, record { record_fits = b.1; bytes_fit = λ i. text_small l.frame_layout xs (l.length_of s xs) i ok.layout_fits; sequence_fits = ok.sequence_small s (get_or xs 0 0) }, sym b.2)

  -- an index into the cut
  index : (s : S) (r : RecordOf T) (q i : ℕ) → i < length (record_cut l s r q) → i < count_of l r
  index s r q i h = subst (λ (n : ℕ). i < n) (cut_long l s r q) h

  pub keeps : Laws (meaning_of l)
  keeps = record {
    modulus_low = ok.modulus_low;
    modulus_high = ok.modulus_high;
    some_frames = λ s r q f. let e = cut_long l s r q in omega (arith, e);
    few_frames = λ s r q f. let e = cut_long l s r q in let k = (ok.cuttable s r q f).few_frames in omega (arith, e, k);
    as_many = λ s r p q. cut_long l s r p ∙ sym (cut_long l s r q);
    cut_lawful = λ s r q i f h. let k = index s r q i h in ap (l.lawful s) (cut_at l s r q i k) ∙ ok.cut_lawful s r q i f k;
    cut_numbered = λ s r q i f h. let k = index s r q i h in ap (l.number s) (cut_at l s r q i k) ∙ ok.cut_numbered s r q i f k;
    cut_in_sequence = λ s r q i f h. let k = index s r q i h in ap (l.sequence s) (cut_at l s r q i k) ∙ ok.cut_in_sequence s r q i f k;
    cut_tells_last = λ s r q f. ap (λ (x : ℕ). l.last s x + 1) (cut_first l s r q) ∙ ok.cut_tells_last s r q f ∙ sym (cut_long l s r q);
    frame_small = ok.frame_small;
    number_small = ok.number_small;
    sequence_small = λ s x h. ok.sequence_small s x;
    last_small = ok.last_small;
    cut_joins = cut_joins;
    joined_is_cut = joined_is_cut;
  }
