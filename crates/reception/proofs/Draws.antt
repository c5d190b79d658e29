-- The change that the frame of the latest draw belongs to.
use Rattle.std.proofs.Common.{◌≡◌, ℕ, suc, ◌%◌, List, [], ◌∷◌, ◌++◌, length, get_or, Some, None, Option, sym, refl, ap, ◌∙◌, subst, inl, inr, append_assoc, mod-lt, arith}
use Rattle.std.proofs.lemmas.Bool.{cases_Bool}
use Rattle.family.specs.Meaning.{Meaning, RecordOf, Fit, Laws}
use Rattle.gatherer.specs.Promises.{In}
use Rattle.gatherer.proofs.Heard.{member}
use Rattle.airing.specs.Calls.{Call, stored, withdrawn, drawn, is_change, changes, on_air, frames_given}
use Rattle.airing.specs.Due.{sequence_after, frame_drawn}
use Rattle.airing.specs.Agrees.{LawfulRecords}
use Rattle.airing.proofs.Changes.{on_air_stands, stands_fit}
use Rattle.reception.specs.Runs.{frame_last_drawn, changes_at_draw}

-- the n-th of the changes, counted from the first, with those before and after it
pub record Change {T : Type 0} (cs : List (RecordOf T)) (n : ℕ) : Type 0 where
  pub new : RecordOf T
  pub earlier : List (RecordOf T)
  pub later : List (RecordOf T)
  pub changes_are : cs ≡ later ++ (new ∷ earlier)
  pub count : n ≡ suc (length earlier)

abbrev pub with_later : {T : Type 0} {cs : List (RecordOf T)} {n : ℕ} (more : List (RecordOf T)) → Change cs n → Change (more ++ cs) n
with_later more k = record {
  new = k.new;
  earlier = k.earlier;
  later = more ++ k.later;
  changes_are = ap (λ l. more ++ l) k.changes_are ∙ sym (append_assoc more k.later (k.new ∷ k.earlier));
  count = k.count;
}

-- x is a frame of the n-th change
pub record FrameOf {S T : Type 0} (m : Meaning S T) (s : S) (cs : List (RecordOf T)) (n x : ℕ) : Type 0 where
  pub change : Change cs n
  pub fit : Fit m s change.new (sequence_after m change.earlier)
  pub in_cut : In x (m.cut s change.new (sequence_after m change.earlier))

-- a store adds one change or none
pub added : {T : Type 0} (r : RecordOf T) (h : List (Call T)) → (more : List (RecordOf T)) × (changes (stored r ∷ h) ≡ more ++ changes h)
added r h =
    elim (cases_Bool (is_change h r)) [
      | inl change ↦ (r ∷ [], rw change refl)
      | inr same ↦ ([], rw same refl)
    ]

module _ {S T : Type 0} (m : Meaning S T) (laws : Laws m) (s : S) where
  -- at the draw itself the frame is of the latest change
  frame_drawn_lem : (h : List (Call T)) (x : ℕ) → LawfulRecords m s h → frame_drawn m s h ≡ Some x → FrameOf m s (changes h) (length (changes h)) x
  frame_drawn_lem h x l e =
      elim (cases_Bool (on_air h)) [
        | inl on ↦ (let k = on_air_stands m s h l on in
            let fit = stands_fit m s laws k in
            let frames = m.cut s k.latest (sequence_after m k.earlier) in
            let some = laws.some_frames s k.latest (sequence_after m k.earlier) fit in
            let next = frames_given h % length frames in
            let due : frame_drawn m s h ≡ Some (get_or frames next 0) = rw (on, k.changes_are) refl in
            let is : get_or frames next 0 ≡ x = (let f : ◌≡◌ {A = Option ℕ} (Some (get_or frames next 0)) (Some x) = sym due ∙ e in cc) in
            record {
              change = record { new = k.latest; earlier = k.earlier; later = []; changes_are = k.changes_are; count = ap length k.changes_are };
              fit = fit;
              in_cut = subst (λ (y : ℕ). In y frames) is (member frames next (mod-lt (frames_given h) (omega arith)));
            })
        | inr off ↦ absurd (let none : frame_drawn m s h ≡ None = rw off refl in cc (none, e))
      ]

  pub frame_last_drawn_lem : (h : List (Call T)) (x : ℕ) → LawfulRecords m s h → frame_last_drawn m s h ≡ Some x → FrameOf m s (changes h) (changes_at_draw h) x
  frame_last_drawn_lem [] x l e = absurd cc
  frame_last_drawn_lem (drawn ∷ h) x l e = frame_drawn_lem h x l e
  frame_last_drawn_lem (withdrawn ∷ h) x l e = frame_last_drawn_lem h x l e
  frame_last_drawn_lem (stored r ∷ h) x l e =
      let k = frame_last_drawn_lem h x l.2 e in
      let more = added r h in
      subst (λ cs. FrameOf m s cs (changes_at_draw h) x) (sym more.1) (record { change = with_later more.0 k.change; fit = k.fit; in_cut = k.in_cut })
