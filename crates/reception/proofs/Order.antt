-- What is newly shown are changes in their order.
use Rattle.std.proofs.Common.{◌≡◌, ℕ, suc, ◌+◌, ◌%◌, ◌≤◌, List, [], ◌∷◌, ◌++◌, length, Some, None, sym, refl, ap, ◌∙◌, subst, inl, inr, arith, length-append}
use Rattle.family.specs.Meaning.{Meaning, RecordOf, Laws}
use Rattle.gatherer.specs.Series.{Event, accepted, forgotten, frames_under}
use Rattle.gatherer.specs.Due.{record_due}
use Rattle.gatherer.specs.Promises.{In}
use Rattle.gatherer.proofs.Series.{under_none}
use Rattle.gatherer.proofs.Heard.{sequence_of_lem}
use Rattle.airing.specs.Calls.{stored, withdrawn, drawn, changes}
use Rattle.airing.specs.Due.{sequence_after}
use Rattle.airing.specs.Agrees.{LawfulRecords}
use Rattle.airing.proofs.Turns.{apart}
use Rattle.reception.specs.Runs.{Step, card, monitor, card_calls, monitor_events, changes_at_draw, Relayed, change_counts, FewChangesBetween}
use Rattle.reception.specs.Order.{newly_shown, Within, omitted, Among, AlwaysJoined, ShowsChanges}
use Rattle.reception.proofs.Lists.{all_omitted, within_more, among_more, longer_end}
use Rattle.reception.proofs.Hearing.{Expects, hears}
use Rattle.reception.proofs.Draws.{Change, FrameOf, with_later, added, frame_last_drawn_lem}

few_before : (k : ℕ) (ks : List ℕ) → FewChangesBetween (k ∷ ks) → FewChangesBetween ks
few_before k [] few = tt
few_before k (j ∷ ks) few = few.1

module _ {S T : Type 0} (m : Meaning S T) (laws : Laws m) (s : S) where
  -- no frame was heard since the opening or the last forget
  record NoneHeard (e : List Event) : Type 0 where
    no_frames : (q : ℕ) → frames_under m s q e ≡ []
    none_shown : newly_shown m s e ≡ []
    none_due : record_due m s e ≡ None
    always_joined : AlwaysJoined m s e

  -- the frame heard last is of the n-th change, and no frame of another sequence number is held beside it
  record HeardLast (cs : List (RecordOf T)) (e : List Event) (n : ℕ) : Type 0 where
    change : Change cs n
    expects : Expects m s change.new change.earlier (sequence_after m change.earlier) e
    no_others : (q : ℕ) → (sequence_after m change.earlier ≡ q → ⊥) → frames_under m s q e ≡ []

  -- the frame heard last was drawn no later than the latest draw, which came after d changes
  abbrev HeardSoFar : List (RecordOf T) → ℕ → List Event → List ℕ → Type 0
  HeardSoFar cs d e [] = NoneHeard e
  HeardSoFar cs d e (k ∷ ks) = (k ≤ d) × HeardLast cs e k

  none_among : (e : List Event) (cs : List (RecordOf T)) → record_due m s e ≡ None → (o : RecordOf T) → record_due m s e ≡ Some o → Among o cs
  none_among e cs none o some = absurd cc

  shown_within : (r : RecordOf T) (earlier : List (RecordOf T)) (q : ℕ) (e : List Event) → Expects m s r earlier q e → Within (newly_shown m s e) (r ∷ earlier)
  shown_within r earlier q e k = elim k.so_far [ inl w ↦ omitted w | inr w ↦ w.1 ]

  shows : (cs : List (RecordOf T)) (d : ℕ) (e : List Event) (ks : List ℕ) → HeardSoFar cs d e ks → ShowsChanges m s cs e
  shows cs d e [] k = record { in_order = rw k.none_shown (all_omitted cs); of_a_change = none_among e cs k.none_due; always_joined = k.always_joined }
  shows cs d e (n ∷ ks) (le, k) =
      let c = k.change in
      record {
        in_order = rw c.changes_are (within_more c.later (shown_within c.new c.earlier _ e k.expects));
        of_a_change = λ o due. rw c.changes_are (among_more o c.later (c.new ∷ c.earlier) (k.expects.of_a_change o due));
        always_joined = k.expects.always_joined;
      }

  -- a change adds to those that may be heard
  heard_later : (more cs : List (RecordOf T)) (d : ℕ) (e : List Event) (ks : List ℕ) → HeardSoFar cs d e ks → HeardSoFar (more ++ cs) d e ks
  heard_later more cs d e [] k = k
  heard_later more cs d e (n ∷ ks) (le, k) = (le, record { change = with_later more k.change; expects = k.expects; no_others = k.no_others })

  -- a draw comes after every change so far
  heard_drawn : (cs : List (RecordOf T)) (d : ℕ) (e : List Event) (ks : List ℕ) → HeardSoFar cs d e ks → HeardSoFar cs (length cs) e ks
  heard_drawn cs d e [] k = k
  heard_drawn cs d e (n ∷ ks) (le, k) =
      let c = k.change in
      let whole : length cs ≡ length c.later + suc (length c.earlier) = ap length c.changes_are ∙ length-append c.later (c.new ∷ c.earlier) in
      (omega (arith, c.count), k)

  -- the next frame heard is of the change to r, at most two changes on
  expects_next : (r : RecordOf T) (earlier : List (RecordOf T)) (e : List Event) (old : RecordOf T) (before between : List (RecordOf T)) → r ∷ earlier ≡ between ++ (old ∷ before) → length earlier ≤ length before + 2 →
      Expects m s old before (sequence_after m before) e → ((q : ℕ) → (sequence_after m before ≡ q → ⊥) → frames_under m s q e ≡ []) → Expects m s r earlier (sequence_after m earlier) e
  expects_next r earlier e old before [] is few k no_others =
      let same : r ≡ old = cc in
      let same_before : earlier ≡ before = cc in
      rw (same, same_before) k
  expects_next r earlier e old before (z ∷ between) is few k no_others =
      let b : earlier ≡ between ++ (old ∷ before) = cc in
      let n : length earlier ≡ length between + suc (length before) = ap length b ∙ length-append between (old ∷ before) in
      let d : length earlier ≡ length before + (length between + 1) = omega arith in
      let low = laws.modulus_low in
      let other : sequence_after m before ≡ sequence_after m earlier → ⊥ = λ same. apart (length before) (length between + 1) m.modulus (omega arith) (omega arith) (ap (λ (j : ℕ). j % m.modulus) (sym d) ∙ sym same) in
      let none : frames_under m s (sequence_after m earlier) e ≡ [] = no_others (sequence_after m earlier) other in
      record {
        one_cut = λ y i. absurd (subst (In y) none i);
        so_far = inl (rw b (within_more between (shown_within old before _ e k)));
        of_a_change = λ o due. inr (rw b (among_more o between (old ∷ before) (k.of_a_change o due)));
        always_joined = k.always_joined;
      }

  expects_drawn : (cs : List (RecordOf T)) (d : ℕ) (e : List Event) (ks : List ℕ) (c : Change cs d) → HeardSoFar cs d e ks → FewChangesBetween (d ∷ ks) → Expects m s c.new c.earlier (sequence_after m c.earlier) e
  expects_drawn cs d e [] c k few = record {
    one_cut = λ y i. absurd (subst (In y) (k.no_frames _) i);
    so_far = inl (rw k.none_shown (all_omitted c.earlier));
    of_a_change = none_among e (c.new ∷ c.earlier) k.none_due;
    always_joined = k.always_joined;
  }
  expects_drawn cs d e (n ∷ ks) c (le, k) few =
      let old = k.change in
      let end = longer_end old.later c.later (old.new ∷ old.earlier) (c.new ∷ c.earlier) (sym old.changes_are ∙ c.changes_are) (omega (arith, old.count, c.count)) in
      expects_next c.new c.earlier e old.new old.earlier end.0 end.1 (omega (arith, old.count, c.count, few.0)) k.expects k.no_others

  hears_frame : (cs : List (RecordOf T)) (d : ℕ) (e : List Event) (ks : List ℕ) (x : ℕ) → FrameOf m s cs d x → HeardSoFar cs d e ks → FewChangesBetween (d ∷ ks) → HeardLast cs (accepted x ∷ e) d
  hears_frame cs d e ks x f k few =
      let c = f.change in
      let q = sequence_after m c.earlier in
      let in_sequence : m.sequence s x ≡ q = sequence_of_lem m laws s c.new q f.fit x f.in_cut in
      record {
        change = c;
        expects = hears m laws s c.new c.earlier q f.fit e x f.in_cut (expects_drawn cs d e ks c k few);
        no_others = λ p other. under_none m s p x e (λ same. other (sym in_sequence ∙ same));
      }

  heard_after : (a : List (Step T)) → LawfulRecords m s (card_calls a) → Relayed m s a → FewChangesBetween (change_counts a) → HeardSoFar (changes (card_calls a)) (changes_at_draw (card_calls a)) (monitor_events a) (change_counts a)
  heard_after [] l relayed few = record { no_frames = λ q. refl; none_shown = refl; none_due = refl; always_joined = tt }
  heard_after (monitor forgotten ∷ a) l relayed few = record { no_frames = λ q. refl; none_shown = refl; none_due = refl; always_joined = tt }
  heard_after (card withdrawn ∷ a) l relayed few = heard_after a l relayed few
  heard_after (card drawn ∷ a) l relayed few = heard_drawn (changes (card_calls a)) (changes_at_draw (card_calls a)) (monitor_events a) (change_counts a) (heard_after a l relayed few)
  heard_after (card (stored r) ∷ a) l relayed few =
      let more = added r (card_calls a) in
      let d = changes_at_draw (card_calls a) in
      subst (λ cs. HeardSoFar cs d (monitor_events a) (change_counts a)) (sym more.1) (heard_later more.0 (changes (card_calls a)) d (monitor_events a) (change_counts a) (heard_after a l.2 relayed few))
  heard_after (monitor (accepted x) ∷ a) l relayed few =
      let h = card_calls a in
      let k = heard_after a l relayed.1 (few_before (changes_at_draw h) (change_counts a) few) in
      (omega arith, hears_frame (changes h) (changes_at_draw h) (monitor_events a) (change_counts a) x (frame_last_drawn_lem m laws s h x l relayed.0) k few)

  pub shows_changes : (a : List (Step T)) → LawfulRecords m s (card_calls a) → Relayed m s a → FewChangesBetween (change_counts a) → ShowsChanges m s (changes (card_calls a)) (monitor_events a)
  shows_changes a l relayed few = shows (changes (card_calls a)) (changes_at_draw (card_calls a)) (monitor_events a) (change_counts a) (heard_after a l relayed few)
