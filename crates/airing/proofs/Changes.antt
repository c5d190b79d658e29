-- What the changes of a place leave.
use Rattle.std.proofs.Common.{◌≡◌, ℕ, ◌%◌, true, not, ◌⊎◌, List, [], ◌∷◌, ◌++◌, length, get_or, Some, None, Option, sym, refl, ap, ◌∙◌, subst, inl, inr, mod-lt, add-one, arith}
use native.Mathlib.Nat.{zero-mod}
use Rattle.std.proofs.lemmas.Bool.{cases_Bool}
use Rattle.family.specs.Meaning.{Meaning, RecordOf, Laws, Fit, Bytes, equal_records}
use Rattle.airing.specs.Calls.{Call, stored, withdrawn, drawn, last_accepted, is_unequal_to, is_change, changes, on_air, frames_given}
use Rattle.airing.specs.Due.{current_after, current_due, sequence_after, frame_drawn}
use Rattle.airing.specs.Agrees.{LawfulRecords}
use Rattle.airing.specs.Steps.{record_of, next_sequence}
use Rattle.airing.proofs.Texts.{equal_alike}
use Rattle.airing.proofs.Turns.{successor_mod}

-- no record was accepted
pub record Blank {T : Type 0} (o : Option (RecordOf T)) (cs : List (RecordOf T)) : Type 0 where
  pub none_accepted : o ≡ None
  pub none_changed : cs ≡ []

-- the record accepted last equals that of the latest change, which is lawful
pub record Stands {S T : Type 0} (m : Meaning S T) (s : S) (o : Option (RecordOf T)) (cs : List (RecordOf T)) : Type 0 where
  pub accepted : RecordOf T
  pub latest : RecordOf T
  pub earlier : List (RecordOf T)
  pub accepted_is : o ≡ Some accepted
  pub changes_are : cs ≡ latest ∷ earlier
  pub alike : (r : RecordOf T) → equal_records accepted r ≡ equal_records latest r
  pub lawful : m.refusal s latest ≡ None
  pub bytes : Bytes latest.text

-- a place on air has an accepted record
accepted_if_on_air : {T : Type 0} (h : List (Call T)) → on_air h ≡ true → last_accepted h ≡ None → ⊥
accepted_if_on_air [] on e = cc
accepted_if_on_air (stored r ∷ h) on e = cc
accepted_if_on_air (withdrawn ∷ h) on e = cc
accepted_if_on_air (drawn ∷ h) on e = accepted_if_on_air h on e

-- the latest change's sequence number, once more
pub next_sequence_lem : {S T : Type 0} (m : Meaning S T) (laws : Laws m) (s : S) (cs : List (RecordOf T)) (n : ℕ) → next_sequence m.modulus (current_after m s cs n) ≡ sequence_after m cs
next_sequence_lem m laws s [] n = sym (zero-mod m.modulus)
next_sequence_lem m laws s (r ∷ rs) n = rw (← add-one (length rs)) (successor_mod (length rs) m.modulus (omega (arith, laws.modulus_low)))

module _ {S T : Type 0} (m : Meaning S T) (s : S) where
  pub lawful_before : (before since : List (Call T)) → LawfulRecords m s (since ++ before) → LawfulRecords m s before
  lawful_before before [] l = l
  lawful_before before (stored r ∷ since) l = lawful_before before since l.2
  lawful_before before (withdrawn ∷ since) l = lawful_before before since l
  lawful_before before (drawn ∷ since) l = lawful_before before since l

  after_store : (r : RecordOf T) (h : List (Call T)) → m.refusal s r ≡ None → Bytes r.text → Blank (last_accepted h) (changes h) ⊎ Stands m s (last_accepted h) (changes h) → Stands m s (Some r) (changes (stored r ∷ h))
  after_store r h lawful bytes (inl b) = record { accepted = r; latest = r; earlier = changes h; accepted_is = refl; changes_are = rw b.none_accepted refl; alike = λ x. refl; lawful = lawful; bytes = bytes }
  after_store r h lawful bytes (inr k) =
      elim (cases_Bool (equal_records k.accepted r)) [
        | inl same ↦ record {
          accepted = r;
          latest = k.latest;
          earlier = k.earlier;
          accepted_is = refl;
          changes_are = rw (k.accepted_is, same) k.changes_are;
          alike = λ x. sym (equal_alike k.accepted r x same) ∙ k.alike x;
          lawful = k.lawful;
          bytes = k.bytes;
        }
        | inr other ↦ record { accepted = r; latest = r; earlier = changes h; accepted_is = refl; changes_are = rw (k.accepted_is, other) refl; alike = λ x. refl; lawful = lawful; bytes = bytes }
      ]

  pub latest_change : (h : List (Call T)) → LawfulRecords m s h → Blank (last_accepted h) (changes h) ⊎ Stands m s (last_accepted h) (changes h)
  latest_change [] l = inl (record { none_accepted = refl; none_changed = refl })
  latest_change (withdrawn ∷ h) l = latest_change h l
  latest_change (drawn ∷ h) l = latest_change h l
  latest_change (stored r ∷ h) l = inr (after_store r h l.0 l.1 (latest_change h l.2))

  -- the latest change serves in place of the record accepted last
  pub change_test : (h : List (Call T)) (r : RecordOf T) → LawfulRecords m s h → is_unequal_to (record_of (current_due m s h)) r ≡ is_change h r
  change_test h r l = elim (latest_change h l) [
    | inl b ↦ rw (b.none_accepted, b.none_changed) refl
    | inr k ↦ rw (k.accepted_is, k.changes_are) (ap not (sym (k.alike r)))
  ]

  pub on_air_stands : (h : List (Call T)) → LawfulRecords m s h → on_air h ≡ true → Stands m s (last_accepted h) (changes h)
  on_air_stands h l on = elim (latest_change h l) [
    | inl b ↦ absurd (accepted_if_on_air h on b.none_accepted)
    | inr k ↦ k
  ]

  pub stands_fit : (laws : Laws m) {o : Option (RecordOf T)} {cs : List (RecordOf T)} (k : Stands m s o cs) → Fit m s k.latest (sequence_after m k.earlier)
  stands_fit laws k = record { record_fits = k.lawful; bytes_fit = k.bytes; sequence_fits = mod-lt (length k.earlier) (omega (arith, laws.modulus_low)) }

  -- a frame that is drawn is lawful
  pub drawn_lawful : (laws : Laws m) (h : List (Call T)) (x : ℕ) → LawfulRecords m s h → frame_drawn m s h ≡ Some x → m.lawful s x ≡ true
  drawn_lawful laws h x l e =
      elim (cases_Bool (on_air h)) [
        | inl on ↦ (let k = on_air_stands h l on in
            let q = sequence_after m k.earlier in
            let frames = m.cut s k.latest q in
            let fit = stands_fit laws k in
            let some = laws.some_frames s k.latest q fit in
            let next = frames_given h % length frames in
            let due : frame_drawn m s h ≡ Some (get_or frames next 0) = rw (on, k.changes_are) refl in
            let is : get_or frames next 0 ≡ x = (let f : ◌≡◌ {A = Option ℕ} (Some (get_or frames next 0)) (Some x) = sym due ∙ e in cc) in
            subst (λ (y : ℕ). m.lawful s y ≡ true) is (laws.cut_lawful s k.latest q next fit (mod-lt (frames_given h) (omega arith))))
        | inr off ↦ absurd (let none : frame_drawn m s h ≡ None = rw off refl in cc (none, e))
      ]
