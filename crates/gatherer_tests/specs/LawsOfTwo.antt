-- The family of two frames keeps the laws.
use Rattle.std.specs.Prelude.{◌≡◌, ℕ, zero, suc, ◌+◌, ◌/◌, ◌%◌, ◌<◌, Bool, true, false, cond, not, ltb, List, [], ◌∷◌, length, Some, None, Option, ◌==◌, ◌≢◌, nat_eq, nat_lt, slice_index, slice_index_or, refl}
use Rattle.std.proofs.Common.{sym, ap, ap₂, ◌∙◌, inl, inr, arith}
use Rattle.std.proofs.lemmas.Bool.{ltb-true, eqb-true, eqb-false, lt-ltb, eq-eqb, ne_eqb, and_parts, not-true, cases_Bool}
use Rattle.pdu.specs.declared.refusal.Refusal.{Refusal}
use Rattle.pdu.specs.declared.refusal.Refusal.TheVariants.{TextLength, TextByte}
use Rattle.family.specs.Meaning.{RecordOf, Fit, Laws}
use Rattle.gatherer_tests.specs.declared.two.Two.{Two}
use Rattle.gatherer_tests.specs.Frames.{frame_of}
use Rattle.gatherer_tests.specs.Two.{flag, refusal_of_two, is_cut, joined_of_two, meaning_of_two}

none_then : (b : Bool) (x : Option Refusal) (e : Refusal) → cond b x (Some e) ≡ None → (b ≡ true) × (x ≡ None)
none_then true x e h = (refl, h)
none_then false x e h = absurd cc

none_else : (b : Bool) (e : Refusal) → cond b (Some e) None ≡ None → b ≡ false
none_else true e h = absurd cc
none_else false e h = refl

-- a lawful record has one byte that is not 0 as its text
lawful_record : (r : RecordOf Bool) → refusal_of_two r ≡ None → (length r.text ≡ 1) × (slice_index r.text 0 ≢ 0)
lawful_record r e =
    let b = none_then (length r.text == 1) _ TextLength e in
    (eqb-true _ _ b.0, eqb-false _ _ (none_else (slice_index r.text 0 == 0) TextByte b.1))

flag_small : (b : Bool) → flag b < 2
flag_small true = omega arith
flag_small false = omega arith

flag_again : (b : Bool) → (flag b == 1) ≡ b
flag_again true = refl
flag_again false = refl

flag_byte : (n : ℕ) → n < 2 → n ≡ flag (n == 1)
flag_byte zero h = refl
flag_byte (suc zero) h = refl
flag_byte (suc (suc n)) h = absurd (omega arith)

only : (t : List ℕ) → length t ≡ 1 → slice_index t 0 ∷ [] ≡ t
only [] e = absurd (omega arith)
only (b ∷ []) e = refl
only (b ∷ c ∷ t) e = absurd (omega arith)

-- what holds of both frames
each : (P : ℕ → ℕ → Type 0) (a b i : ℕ) → P 0 a → P 1 b → i < 2 → P i (slice_index (a ∷ b ∷ []) i)
each P a b zero p q h = p
each P a b (suc zero) p q h = q
each P a b (suc (suc i)) p q h = absurd (omega arith)

-- the fields of a frame
lawful_frame_lem : (q i b : ℕ) → q < 4 → i < 2 → b < 256 → frame_of q i b < 2048
lawful_frame_lem q i b l k s = omega arith

number_of : (q i b : ℕ) → i < 2 → b < 256 → frame_of q i b / 256 % 2 ≡ i
number_of q i b k s = omega arith

sequence_of_lem : (q i b : ℕ) → i < 2 → b < 256 → frame_of q i b / 512 ≡ q
sequence_of_lem q i b k s = omega arith

byte_of : (q i b : ℕ) → b < 256 → frame_of q i b % 256 ≡ b
byte_of q i b s = omega arith

next_of : (q a b : ℕ) → a < 256 → b < 256 → frame_of q 1 b / 256 ≡ frame_of q 0 a / 256 + 1
next_of q a b s t = omega arith

cut_joins : (r : RecordOf Bool) (q : ℕ) → q < 4 → length r.text ≡ 1 → slice_index r.text 0 < 256 → (slice_index r.text 0 ≢ 0) →
    joined_of_two (frame_of q 0 (flag r.head) ∷ frame_of q 1 (slice_index r.text 0) ∷ []) ≡ Some r
cut_joins r q l one byte some =
    let f = flag r.head in
    let b = slice_index_or r.text 0 0 in
    let small : f < 256 = omega (arith, flag_small r.head) in
    let e0 : frame_of q 0 f % 256 ≡ f = byte_of q 0 f small in
    let e1 : ltb (frame_of q 0 f) 2048 ≡ true = lt-ltb _ _ (lawful_frame_lem q 0 f l (omega arith) small) in
    let e2 : nat_eq (frame_of q 0 f / 256 % 2) 0 ≡ true = eq-eqb _ _ (number_of q 0 f (omega arith) small) in
    let e3 : ltb f 2 ≡ true = lt-ltb _ _ (flag_small r.head) in
    let e4 : nat_eq (frame_of q 1 b / 256) (frame_of q 0 f / 256 + 1) ≡ true = eq-eqb _ _ (next_of q f b small byte) in
    let e5 : nat_eq (frame_of q 1 b % 256) 0 ≡ false = ne_eqb _ _ (λ z. some (sym (byte_of q 1 b byte) ∙ z)) in
    rw (e1, e2, e0, e3, e4, e5) (ap₂ (λ (h : Bool) (t : List ℕ). Some (record { head = h; text = t })) (flag_again r.head) (ap (λ (x : ℕ). x ∷ []) (byte_of q 1 b byte) ∙ only r.text one))

first_again : (a : ℕ) → a / 256 % 2 ≡ 0 → a ≡ frame_of (a / 512) 0 (a % 256)
first_again a e = omega arith

second_again : (a b : ℕ) → a / 256 % 2 ≡ 0 → b / 256 ≡ a / 256 + 1 → b ≡ frame_of (a / 512) 1 (b % 256)
second_again a b e f = omega arith

joined_is_cut : (s : Two) (r : RecordOf Bool) (xs : List ℕ) → joined_of_two xs ≡ Some r → (q : ℕ) × Fit meaning_of_two s r q × (xs ≡ meaning_of_two.cut s r q)
joined_is_cut s r [] e = absurd cc
joined_is_cut s r (a ∷ []) e = absurd cc
joined_is_cut s r (a ∷ b ∷ x ∷ xs) e = absurd cc
joined_is_cut s r (a ∷ b ∷ []) e =
    elim (cases_Bool (is_cut a b)) [
      | inr f ↦ (let k : ◌≡◌ {A = Option (RecordOf Bool)} None (Some r) = rw f at e in absurd cc)
      | inl t ↦ (let k : ◌≡◌ {A = Option (RecordOf Bool)} (Some (record { head = (a % 256 == 1); text = (b % 256) ∷ [] })) (Some r) = rw t at e in
          let is : r ≡ record { head = (a % 256 == 1); text = (b % 256) ∷ [] } = cc in
          let p = and_parts _ (not (b % 256 == 0)) t in
          let p2 = and_parts _ (b / 256 == a / 256 + 1) p.0 in
          let p3 = and_parts _ (nat_lt (a % 256) 2) p2.0 in
          let p4 = and_parts (nat_lt a 2048) (a / 256 % 2 == 0) p3.0 in
          let small : a < 2048 = ltb-true _ _ p4.0 in
          let even : a / 256 % 2 ≡ 0 = eqb-true _ _ p4.1 in
          let nonzero : nat_eq (b % 256) 0 ≡ false = not-true _ p.1 in
          let first : a ≡ frame_of (a / 512) 0 (flag (a % 256 == 1)) = first_again a even ∙ ap (frame_of (a / 512) 0) (flag_byte (a % 256) (ltb-true _ _ p3.1)) in (
            a / 512,
            rw is (record { record_fits = rw nonzero refl; bytes_fit = λ i. bytes i; sequence_fits = omega arith }),
            rw is (ap₂ (λ (x : ℕ) (y : ℕ). x ∷ y ∷ []) first (second_again a b even (eqb-true _ _ p2.1))),
          ))
    ]
  where
    bytes : (i : ℕ) → slice_index ((b % 256) ∷ []) i < 256
    bytes zero = omega arith
    bytes (suc i) = omega arith

pub keeps : Laws meaning_of_two
keeps = record {
  modulus_low = omega arith;
  modulus_high = omega arith;
  some_frames = λ s r q f. omega arith;
  few_frames = λ s r q f. omega arith;
  as_many = λ s r p q. refl;
  cut_lawful = λ s r q i f h. let l : flag r.head < 256 = omega (arith, flag_small r.head) in
      each (λ _ x. nat_lt x 2048 ≡ true) _ _ i (lt-ltb _ _ (lawful_frame_lem q 0 _ f.sequence_fits (omega arith) l)) (lt-ltb _ _ (lawful_frame_lem q 1 _ f.sequence_fits (omega arith) (f.bytes_fit 0))) h;
  cut_numbered = λ s r q i f h. let l : flag r.head < 256 = omega (arith, flag_small r.head) in
      each (λ n x. x / 256 % 2 ≡ n) _ _ i (number_of q 0 _ (omega arith) l) (number_of q 1 _ (omega arith) (f.bytes_fit 0)) h;
  cut_in_sequence = λ s r q i f h. let l : flag r.head < 256 = omega (arith, flag_small r.head) in
      each (λ _ x. x / 512 ≡ q) _ _ i (sequence_of_lem q 0 _ (omega arith) l) (sequence_of_lem q 1 _ (omega arith) (f.bytes_fit 0)) h;
  cut_tells_last = λ s r q f. refl;
  frame_small = λ s x h. let l = ltb-true _ _ h in omega arith;
  number_small = λ s x h. omega arith;
  sequence_small = λ s x h. let l = ltb-true _ _ h in omega arith;
  last_small = λ s x h n. omega arith;
  cut_joins = λ s r q f. let l = lawful_record r f.record_fits in cut_joins r q f.sequence_fits l.0 (f.bytes_fit 0) l.1;
  joined_is_cut = joined_is_cut;
}
