-- A record that the code holds: how many frames it has, and each of them.
use Rattle.std.proofs.Common.{◌≡◌, ℕ, ◌<◌, ◌≤◌, cond, ◌&&◌, ltb, List, length, get_or, Some, None, Ok, Err, Option, Result, sym, refl, ap, ◌∙◌, subst, ap₂, ⊎_elim, arith}
use Rattle.std.proofs.lemmas.List.{get_or-take, get_or_past, length-take-le}
use Rattle.std.proofs.lemmas.Bool.{cases_lt, lt-ltb, and_from, cond-true}
use Rattle.pdu.specs.declared.refusal.Refusal.{Refusal}
use Rattle.pdu.specs.declared.refusal.Refusal.TheVariants.{OutOfRange}
use Rattle.layout.specs.declared.layout.FrameLayout.{FrameLayout}
use Rattle.layout.specs.declared.layout.FrameFields.{FrameFields}
use Rattle.layout.specs.declared.cut.Cut.{Cut}
use Rattle.layout.specs.Frames.{frame_count, frame_of}
use Rattle.family.specs.declared.text.Text.{Text}
use Rattle.family.specs.declared.text.Record.{Record}
use Rattle.family.specs.Meaning.{Fit, Bytes, unless, count_due, frame_due}
use Rattle.family.specs.Texts.{bytes_of, record_view}
use Rattle.family.specs.Family.{FamilyLayout, record_cut, meaning_of}
use Rattle.family.specs.Sound.{SoundLayout, count_of, cut_long, cut_at}

pub bytes_long : (t : Text) → length (bytes_of t) ≡ t.len
bytes_long t = length-take-le t.len t.bytes (omega (arith, t.within, t.whole))

pub bytes_small : (t : Text) → Bytes (bytes_of t)
bytes_small t i =
    ⊎_elim (λ (l : i < t.len). let e = get_or-take t.len t.bytes i 0 l in omega (arith, e, t.small i))
    (λ (g : t.len ≤ i). let e = get_or_past {X = ℕ} (bytes_of t) i 0 (let k = bytes_long t in omega (arith, k)) in omega (arith, e)) (cases_lt i t.len)

-- an answer that is not refused
unrefused : {A : Type 0} (o : Option Refusal) (x y : A) → unless o (Ok x) ≡ Ok y → (o ≡ None) × (x ≡ y)
unrefused None x y e = (refl, cc)
unrefused (Some r) x y e = absurd (let z : ◌≡◌ {A = ℕ} 0 1 = cc in omega arith)

module _ {S T : Type 0} (l : FamilyLayout S T) (s : S) (r : Record T) where
  count_is : (q : ℕ) → length (record_cut l s (record_view r) q) ≡ frame_count l.frame_layout r.text.len
  count_is q = cut_long l s (record_view r) q ∙ ap (frame_count l.frame_layout) (bytes_long r.text)

  -- how many frames a lawful record has
  pub count_due_lem : (n : ℕ) → l.refusal s (record_view r) ≡ None → n ≡ frame_count l.frame_layout r.text.len → Ok n ≡ count_due (meaning_of l) s (record_view r)
  count_due_lem n none e = ap Ok (e ∙ sym (count_is 0)) ∙ ap (λ (x : Option Refusal). unless x (Ok (length (record_cut l s (record_view r) 0)))) (sym none)

  pub counted : (p : Result ℕ Refusal) (n : ℕ) → p ≡ count_due (meaning_of l) s (record_view r) → p ≡ Ok n → (l.refusal s (record_view r) ≡ None) × (n ≡ frame_count l.frame_layout r.text.len)
  counted p n a b =
      let u = unrefused (l.refusal s (record_view r)) (length (record_cut l s (record_view r) 0)) n (sym a ∙ b) in
      (u.0, sym u.1 ∙ count_is 0)

  -- its frame i
  pub frame_due_lem : (q i x : ℕ) (c : Cut) → l.refusal s (record_view r) ≡ None → q < l.modulus → i < frame_count l.frame_layout r.text.len → c.layout ≡ l.frame_layout → c.fields ≡ l.fields s (record_view r) q → c.text.now ≡ bytes_of r.text
      → x ≡ frame_of c.layout c.fields c.text.now i → Ok x ≡ frame_due (meaning_of l) s (record_view r) q i
  frame_due_lem q i x c none a b p e t h =
      let cut = record_cut l s (record_view r) in
      let here : i < count_of l (record_view r) = subst (λ (n : ℕ). i < n) (ap (frame_count l.frame_layout) (sym (bytes_long r.text))) b in
      let frame : x ≡ get_or (cut q) i 0 =
      h ∙ ap (λ (k : FrameLayout). frame_of k c.fields c.text.now i) p ∙ ap₂ (λ (f : FrameFields) (u : List ℕ). frame_of l.frame_layout f u i) e t ∙ sym (cut_at l s (record_view r) q i here) in
      let within : i < length (cut 0) = subst (λ (n : ℕ). i < n) (sym (cut_long l s (record_view r) 0)) here in
      let answer : Result ℕ Refusal = cond (ltb q l.modulus && ltb i (length (cut 0))) (Ok (get_or (cut q) i 0)) (Err OutOfRange) in
      ap Ok frame ∙ sym (cond-true _ (Ok (get_or (cut q) i 0)) (Err OutOfRange) (and_from _ _ (lt-ltb q l.modulus a) (lt-ltb i (length (cut 0)) within)))
      ∙ ap (λ (o : Option Refusal). unless o answer) (sym none)

  pub near : SoundLayout l → (q i : ℕ) → l.refusal s (record_view r) ≡ None → q < l.modulus → i < frame_count l.frame_layout r.text.len → i < 64
  near ok q i a b h =
      let fit : Fit (meaning_of l) s (record_view r) q = record { record_fits = a; bytes_fit = bytes_small r.text; sequence_fits = b } in
      let few = (ok.cuttable s (record_view r) q fit).few_frames in
      let e = ap (frame_count l.frame_layout) (bytes_long r.text) in
      omega (arith, few, e, h)
