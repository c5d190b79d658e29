-- What each call does to a place that agrees with its calls.
use Rattle.std.proofs.Common.{◌≡◌, ℕ, ◌+◌, ◌%◌, ◌<◌, Bool, true, false, cond, List, [], ◌∷◌, length, get_or, Some, None, Ok, Option, sym, refl, ap, ◌∙◌, subst, mod-lt, arith}
use native.Mathlib.Nat.{zero-mod}
use Rattle.std.specs.Result.{result_ok}
use Rattle.std.proofs.lemmas.Bool.{lt-ltb}
use Rattle.std.proofs.lemmas.Option.{cond_some}
use Rattle.family.specs.Meaning.{Meaning, RecordOf, Laws, Fit, Bytes, count_due, frame_due}
use Rattle.family.specs.Texts.{record_view}
use Rattle.airing.specs.declared.place.Current.{Current}
use Rattle.airing.specs.declared.place.Place.{Place}
use Rattle.airing.specs.declared.stored.Stored.{Stored}
use Rattle.airing.specs.declared.stored.Stored.TheVariants.{Changed, Unchanged}
use Rattle.airing.specs.Calls.{Call, stored, drawn, is_unequal_to, is_change, changes, on_air, frames_given}
use Rattle.airing.specs.Due.{CurrentOf, sequence_after, current_after, current_due}
use Rattle.airing.specs.Agrees.{Agrees, Accepted, Drawn, current_view, held_view, aired_in, held_on_air, is_on_air}
use Rattle.airing.specs.Steps.{record_of, replaced_by, accepted_after, advanced_in}
use Rattle.airing.proofs.Turns.{successor_mod}
use Rattle.airing.proofs.Changes.{next_sequence_lem, change_test, on_air_stands, stands_fit}
use Rattle.airing.proofs.Rounding.{round}

-- the record is lawful under its sequence number, and has a frame of the next number
record Fits {S T : Type 0} (m : Meaning S T) (s : S) (c : CurrentOf T) : Type 0 where
  pub fit : Fit m s c.«record» c.sequence
  pub within : c.next < length (m.cut s c.«record» c.sequence)

module _ {S T : Type 0} (m : Meaning S T) (laws : Laws m) (s : S) (c : CurrentOf T) (f : Fits m s c) where
  count_due_lem : count_due m s c.«record» ≡ Ok (length (m.cut s c.«record» c.sequence))
  count_due_lem = rw f.fit.record_fits (ap Ok (laws.as_many s c.«record» 0 c.sequence))

  frame_due_lem : frame_due m s c.«record» c.sequence c.next ≡ Ok (get_or (m.cut s c.«record» c.sequence) c.next 0)
  frame_due_lem = rw (f.fit.record_fits, laws.as_many s c.«record» 0 c.sequence, lt-ltb _ _ f.fit.sequence_fits, lt-ltb _ _ f.within) refl

-- one more draw, and the frame after the next is next
steps : {S T : Type 0} (m : Meaning S T) (s : S) (cs : List (RecordOf T)) (n : ℕ) (c : CurrentOf T) → current_after m s cs n ≡ Some c → 0 < length (m.cut s c.«record» c.sequence) →
    current_after m s cs (n + 1) ≡ Some (advanced_in (length (m.cut s c.«record» c.sequence)) c)
steps m s [] n c e l = absurd cc
steps {S} {T} m s (r ∷ rs) n c e l =
    let q = sequence_after m rs in
    let xs = m.cut s r q in
    let d : CurrentOf T = record { «record» = r; sequence = q; next = n % length xs } in
    let is : d ≡ c = cc in
    let P : CurrentOf T → Type 0 = λ v. 0 < length (m.cut s v.«record» v.sequence) → current_after m s (r ∷ rs) (n + 1) ≡ Some (advanced_in (length (m.cut s v.«record» v.sequence)) v) in
    let there : P d = λ some. ap (λ (j : ℕ). Some (record { «record» = r; sequence = q; next = j })) (sym (successor_mod n (length xs) some)) in
    subst P is there l

-- what is on air is held
aired : {T : Type 0} (o : Option (Current T)) (c : Current T) → aired_in o ≡ Some c → (c.on_air ≡ true) × (o ≡ Some c)
aired None c e = absurd cc
aired (Some d) c e = let f = cond_some d.on_air d c e in (ap (λ v. v.on_air) (sym f.1) ∙ f.0, ap Some f.1)

none_if_false : {A : Type 0} (b : Bool) (x : A) → cond b (Some x) None ≡ None → b ≡ false
none_if_false true x e = absurd cc
none_if_false false x e = refl

not_aired : {T : Type 0} (o : Option (Current T)) → aired_in o ≡ None → held_on_air o ≡ false
not_aired None e = refl
not_aired (Some d) e = none_if_false d.on_air d e

module _ {S T : Type 0} (m : Meaning S T) (s : S) (h : List (Call T)) (p : Place S T) (k : Agrees m s h p) where
  pub nothing_drawn : (laws : Laws m) (x : Option ℕ) → x ≡ None → aired_in p.current ≡ None → Drawn m s h x p
  nothing_drawn laws x none e =
      let off : on_air h ≡ false = sym k.on_air_is ∙ not_aired p.current e in
      record {
        frame_is = rw off none;
        agrees = record { family_is = k.family_is; records_lawful = k.records_lawful; current_is = rw off k.current_is; on_air_is = k.on_air_is };
        each_once = round m laws s (drawn ∷ h) k.records_lawful;
      }

  on_air_fits : (laws : Laws m) (c : CurrentOf T) → on_air h ≡ true → current_due m s h ≡ Some c → Fits m s c
  on_air_fits laws c on due =
      let st = on_air_stands m s h k.records_lawful on in
      let fit = stands_fit m s laws st in
      let some = laws.some_frames s st.latest (sequence_after m st.earlier) fit in
      let e : current_after m s (st.latest ∷ st.earlier) (frames_given h) ≡ Some c = ap (λ cs. current_after m s cs (frames_given h)) (sym st.changes_are) ∙ due in
      let d : CurrentOf T = record { «record» = st.latest; sequence = sequence_after m st.earlier; next = frames_given h % length (m.cut s st.latest (sequence_after m st.earlier)) } in
      let is : d ≡ c = cc in
      subst (λ v. Fits m s v) is (record { fit = fit; within = mod-lt (frames_given h) (omega arith) })

  -- the family refuses neither the count nor the next frame of what is on air
  pub refused_none : (laws : Laws m) (v : Current T) → aired_in p.current ≡ Some v →
      (result_ok (count_due m p.family (record_view v.«record»)) ≡ None → ⊥) × (result_ok (frame_due m p.family (record_view v.«record») v.sequence v.next) ≡ None → ⊥)
  refused_none laws v e =
      let a = aired p.current v e in
      let c = current_view v in
      let f = on_air_fits laws c (sym k.on_air_is ∙ ap held_on_air a.1 ∙ a.0) (sym k.current_is ∙ ap held_view a.1) in (
        (λ none. let is = ap (λ v. result_ok (count_due m v c.«record»)) k.family_is ∙ ap result_ok (count_due_lem m laws s c f) in cc (none, is)),
        (λ none. let is = ap (λ v. result_ok (frame_due m v c.«record» c.sequence c.next)) k.family_is ∙ ap result_ok (frame_due_lem m laws s c f) in cc (none, is)),
      )

-- p is the place as found, and p' as left
module _ {S T : Type 0} (m : Meaning S T) (s : S) (h : List (Call T)) (p p' : Place S T) (k : Agrees m s h p) where
  -- what becomes of the current record, by whether r is a change
  current_next : (laws : Laws m) (r : RecordOf T) (b : Bool) → is_change h r ≡ b → cond b (Some (replaced_by m.modulus (current_due m s h) r)) (current_due m s h) ≡ current_due m s (stored r ∷ h)
  current_next laws r true e =
      rw (e, zero-mod (length (m.cut s r (sequence_after m (changes h))))) (ap (λ (q : ℕ). Some (record { «record» = r; sequence = q; next = 0 })) (next_sequence_lem m laws s (changes h) (frames_given h)))
  current_next laws r false e = rw e refl

  pub accepted : (laws : Laws m) (r : RecordOf T) (a : Stored) → m.refusal s r ≡ None → Bytes r.text → a ≡ cond (is_unequal_to (record_of (held_view p.current)) r) Changed Unchanged →
      p'.family ≡ p.family → held_view p'.current ≡ accepted_after m.modulus (held_view p.current) r → is_on_air p' ≡ true → Accepted m s h r (Ok a) p'
  accepted laws r a lawful bytes answer family current on =
      let test : is_unequal_to (record_of (current_due m s h)) r ≡ is_change h r = change_test m s h r k.records_lawful in
      record {
        answer_is = ap Ok (answer ∙ ap (λ o. cond (is_unequal_to (record_of o) r) Changed Unchanged) k.current_is ∙ ap (λ b. cond b Changed Unchanged) test);
        agrees = record {
          family_is = family ∙ k.family_is;
          records_lawful = (lawful, bytes, k.records_lawful);
          current_is = current ∙ ap (λ o. accepted_after m.modulus o r) k.current_is ∙ ap (λ b. cond b (Some (replaced_by m.modulus (current_due m s h) r)) (current_due m s h)) test ∙ current_next laws r (is_change h r) refl;
          on_air_is = on;
        };
      }

  -- v is on air, n the count that the family tells, and x the frame that it gives
  pub drew : (laws : Laws m) (v : Current T) (n x : ℕ) → aired_in p.current ≡ Some v →
      result_ok (count_due m p.family (record_view v.«record»)) ≡ Some n → result_ok (frame_due m p.family (record_view v.«record») v.sequence v.next) ≡ Some x →
      p'.family ≡ p.family → held_view p'.current ≡ Some (advanced_in n (current_view v)) → is_on_air p' ≡ v.on_air → Drawn m s h (Some x) p'
  drew laws v n x e count frame family stepped air =
      let a = aired p.current v e in
      let c = current_view v in
      let on : on_air h ≡ true = sym k.on_air_is ∙ ap held_on_air a.1 ∙ a.0 in
      let due : current_due m s h ≡ Some c = sym k.current_is ∙ ap held_view a.1 in
      let f = on_air_fits m s h p k laws c on due in
      let xs = m.cut s c.«record» c.sequence in
      let n_is : ◌≡◌ {A = Option ℕ} (Some (length xs)) (Some n) = sym (ap result_ok (count_due_lem m laws s c f)) ∙ ap (λ v. result_ok (count_due m v c.«record»)) (sym k.family_is) ∙ count in
      let x_is : ◌≡◌ {A = Option ℕ} (Some (get_or xs c.next 0)) (Some x) = sym (ap result_ok (frame_due_lem m laws s c f)) ∙ ap (λ v. result_ok (frame_due m v c.«record» c.sequence c.next)) (sym k.family_is) ∙ frame in
      let length_is : n ≡ length xs = cc in
      record {
        frame_is = rw (on, due) (sym x_is);
        agrees = record {
          family_is = family ∙ k.family_is;
          records_lawful = k.records_lawful;
          current_is = rw on (stepped ∙ ap (λ (j : ℕ). Some (advanced_in j c)) length_is ∙ sym (steps m s (changes h) (frames_given h) c due (omega (arith, f.within))));
          on_air_is = air ∙ a.0 ∙ sym on;
        };
        each_once = round m laws s (drawn ∷ h) k.records_lawful;
      }
