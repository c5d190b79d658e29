-- One more frame of a change is heard.
use Rattle.std.proofs.Common.{◌≡◌, ℕ, Bool, true, false, cond, ◌⊎◌, List, ◌∷◌, Some, Option, refl, ap, ◌∙◌, inl, inr}
use Rattle.std.proofs.lemmas.Slice.Eq.{bytes_eq-Decides}
use Rattle.family.specs.Meaning.{Meaning, RecordOf, Fit, Laws, equal_records}
use Rattle.gatherer.specs.declared.answer.Answer.{Answer}
use Rattle.gatherer.specs.declared.answer.Answer.TheVariants.{Incomplete, NewlyShown, ShownBefore, DoesNotJoin}
use Rattle.gatherer.specs.Series.{Event, accepted, frames_under, series, full_series}
use Rattle.gatherer.specs.Due.{not_full, joins_to, outcome, attempted, record_due, is_equal_to, joined_answer}
use Rattle.gatherer.specs.Promises.{In}
use Rattle.gatherer.proofs.Series.{under_more}
use Rattle.gatherer.proofs.Heard.{sequence_of_lem}
use Rattle.reception.specs.Order.{with_newly_shown, newly_shown, Within, omitted, taken, Among, AlwaysJoined}
use Rattle.reception.proofs.Cuts.{not_full_or_joins}

-- after the events e the frames of one change come: of the record r, under the sequence number q, with these changes before it
pub record Expects {S T : Type 0} (m : Meaning S T) (s : S) (r : RecordOf T) (earlier : List (RecordOf T)) (q : ℕ) (e : List Event) : Type 0 where
  pub one_cut : (x : ℕ) → In x (frames_under m s q e) → In x (m.cut s r q)
  pub so_far : Within (newly_shown m s e) earlier ⊎ ((record_due m s e ≡ Some r) × Within (newly_shown m s e) (r ∷ earlier))
  pub of_a_change : (o : RecordOf T) → record_due m s e ≡ Some o → Among o (r ∷ earlier)
  pub always_joined : AlwaysJoined m s e

incomplete_joined : ◌≡◌ {A = Answer} Incomplete DoesNotJoin → ⊥
incomplete_joined e = cc

module _ {T : Type 0} (r : RecordOf T) (before : Option (RecordOf T)) where
  answer_joined : joined_answer before r ≡ DoesNotJoin → ⊥
  answer_joined =
      let P : Bool → Type 0 = λ b. cond b ShownBefore NewlyShown ≡ DoesNotJoin → ⊥ in
      elim (is_equal_to before r) as P [ true ↦ λ e. (cc) | false ↦ λ e. (cc) ]

  module _ (earlier shown : List (RecordOf T)) where
    shown_now : Within shown earlier → Within (with_newly_shown (joined_answer before r) (Some r) shown) (r ∷ earlier)
    shown_now w =
        let P : Bool → Type 0 = λ b. Within (with_newly_shown (cond b ShownBefore NewlyShown) (Some r) shown) (r ∷ earlier) in
        elim (is_equal_to before r) as P [ true ↦ omitted w | false ↦ taken w ]

    shown_still : before ≡ Some r → Within shown (r ∷ earlier) → Within (with_newly_shown (joined_answer before r) (Some r) shown) (r ∷ earlier)
    shown_still e w = let same : equal_records r r ≡ true = (bytes_eq-Decides r.text r.text).1 refl in rw (e, same) w

module _ {S T : Type 0} (m : Meaning S T) (laws : Laws m) (s : S) (r : RecordOf T) (earlier : List (RecordOf T)) (q : ℕ) (fit : Fit m s r q) where
  pub hears : (e : List Event) (x : ℕ) → In x (m.cut s r q) → Expects m s r earlier q e → Expects m s r earlier q (accepted x ∷ e)
  hears e x in_cut k =
      let frames = x ∷ frames_under m s q e in
      let in_sequence : m.sequence s x ≡ q = sequence_of_lem m laws s r q fit x in_cut in
      let all : (y : ℕ) → In y frames → In y (m.cut s r q) = λ y i. elim i [ inl same ↦ rw same in_cut | inr before ↦ k.one_cut y before ] in
      let series_is : series m s (accepted x ∷ e) ≡ frames = ap (λ (p : ℕ). x ∷ frames_under m s p e) in_sequence in
      let one_cut : (y : ℕ) → In y (frames_under m s q (accepted x ∷ e)) → In y (m.cut s r q) = rw (under_more m s q x e in_sequence) all in
      elim (not_full_or_joins m laws s r q fit frames all) [
        | inl not ↦ (let came : attempted m s (accepted x ∷ e) ≡ not_full = ap (λ l. outcome m s (full_series m s l)) series_is ∙ not in
            record { one_cut = one_cut; so_far = rw came k.so_far; of_a_change = rw came k.of_a_change; always_joined = (rw came incomplete_joined, k.always_joined) })
        | inr joins ↦ (let came : attempted m s (accepted x ∷ e) ≡ joins_to r = ap (λ l. outcome m s (full_series m s l)) series_is ∙ joins in
            let due = record_due m s e in
            let shown = newly_shown m s e in
            let w : Within (with_newly_shown (joined_answer due r) (Some r) shown) (r ∷ earlier) = elim k.so_far [ inl w ↦ shown_now r due earlier shown w | inr w ↦ shown_still r due earlier shown w.0 w.1 ] in
            record { one_cut = one_cut; so_far = inr (rw came refl, rw came w); of_a_change = rw came (λ o f. inl (let same : o ≡ r = cc in same)); always_joined = (rw came (answer_joined r due), k.always_joined) })
      ]
