-- After a round that was heard, the record on air is shown.
use Rattle.std.proofs.Common.{◌≡◌, ℕ, zero, suc, ◌+◌, ◌%◌, ◌<◌, ◌≤◌, Bool, true, false, ◌⊎◌, List, [], ◌∷◌, ◌++◌, length, get_or, Some, None, Option, sym, refl, ap, ◌∙◌, subst, inl, inr, mod-lt, arith}
use Rattle.std.proofs.lemmas.Bool.{cases_eq}
use Rattle.family.specs.Meaning.{Meaning, Laws}
use Rattle.gatherer.specs.Series.{Event, accepted, forgotten}
use Rattle.gatherer.specs.Due.{record_due}
use Rattle.gatherer.specs.Promises.{accepted_after, In}
use Rattle.gatherer.proofs.Heard.{position, member, due_after}
use Rattle.airing.specs.Calls.{Call, stored, withdrawn, drawn, changes, on_air, frames_given}
use Rattle.airing.specs.Due.{sequence_after, current_after, current_due, cut_of, frame_drawn}
use Rattle.airing.specs.Steps.{record_of}
use Rattle.airing.specs.Rounds.{Unbroken, draws, with_frame, frames_since}
use Rattle.airing.specs.Agrees.{LawfulRecords}
use Rattle.airing.proofs.Turns.{distance, distance_reaches, distance_fits}
use Rattle.airing.proofs.Changes.{lawful_before, on_air_stands, stands_fit}
use Rattle.airing.proofs.Rounding.{turns, kept, in_turn}
use Rattle.reception.specs.Runs.{Step, card, monitor, card_calls, monitor_events, frame_last_drawn}
use Rattle.reception.specs.Arrival.{EveryDrawHeard, RoundHeard}

-- the frames of a cut in turn are frames of the cut
turns_in_cut : (xs : List ℕ) (g n : ℕ) → 0 < length xs → (x : ℕ) → In x (turns xs g n) → In x xs
unfolding turns
turns_in_cut xs g zero some x i = absurd i
turns_in_cut xs g (suc n) some x (inl e) = rw e (member xs ((g + n) % length xs) (mod-lt (g + n) some))
turns_in_cut xs g (suc n) some x (inr i) = turns_in_cut xs g n some x i

turn_within : (xs : List ℕ) (g n k : ℕ) → k < n → In (get_or xs ((g + k) % length xs) 0) (turns xs g n)
unfolding turns
turn_within xs g zero k l = absurd (omega arith)
turn_within xs g (suc n) k l = elim (cases_eq k n) [ inl e ↦ inl (rw e refl) | inr ne ↦ inr (turn_within xs g n k (omega arith)) ]

-- and after as many turns as there are frames, each has come
each_in_turns : (xs : List ℕ) (g n : ℕ) → length xs ≤ n → (x : ℕ) → In x xs → In x (turns xs g n)
each_in_turns xs g n l x i =
    let p = position x xs i in
    let fits = distance_fits g p.0 (length xs) p.1 in
    let reaches = distance_reaches g p.0 (length xs) p.1 in
    subst (λ (v : ℕ). In v (turns xs g n)) (ap (λ (k : ℕ). get_or xs k 0) reaches ∙ p.2) (turn_within xs g n (distance g p.0 (length xs)) (omega arith))

in_frame : (o : Option ℕ) (xs : List ℕ) (x : ℕ) → In x (with_frame o xs) → (o ≡ Some x) ⊎ In x xs
in_frame None xs x i = inr i
in_frame (Some y) xs x (inl e) = inl (ap Some (sym e))
in_frame (Some y) xs x (inr i) = inr i

in_others : (o : Option ℕ) (xs : List ℕ) (x : ℕ) → In x xs → In x (with_frame o xs)
in_others None xs x i = i
in_others (Some y) xs x i = inr i

card_calls_append : {T : Type 0} (since before : List (Step T)) → card_calls (since ++ before) ≡ card_calls since ++ card_calls before
card_calls_append [] before = refl
card_calls_append (card c ∷ since) before = ap (λ l. c ∷ l) (card_calls_append since before)
card_calls_append (monitor e ∷ since) before = card_calls_append since before

module _ {S T : Type 0} (m : Meaning S T) (s : S) where
  -- the frame drawn last was drawn since h, or none was
  last_drawn_since : (h since : List (Call T)) (x : ℕ) → frame_last_drawn m s (since ++ h) ≡ Some x → In x (frames_since m s h since) ⊎ (frames_since m s h since ≡ [])
  last_drawn_since h [] x e = inr refl
  last_drawn_since h (stored r ∷ since) x e = last_drawn_since h since x e
  last_drawn_since h (withdrawn ∷ since) x e = last_drawn_since h since x e
  last_drawn_since h (drawn ∷ since) x e = inl (rw e (inl refl))

  -- the latest events are that the frames drawn since, and no others, were accepted: all but the latest, if that is heard later
  record AcceptedSince (events : List Event) (given : List ℕ) (last : Option ℕ) (heard_now : Bool) : Type 0 where
    frames : List ℕ
    earlier : List Event
    events_are : events ≡ accepted_after frames earlier
    no_other : (x : ℕ) → In x frames → In x given
    every : (x : ℕ) → In x given → In x frames ⊎ ((heard_now ≡ true) × (last ≡ Some x))

  -- one more draw
  accepted_drawn : (events : List Event) (given : List ℕ) (before last : Option ℕ) (heard_now : Bool) → heard_now ≡ true → AcceptedSince events given before false → AcceptedSince events (with_frame last given) last heard_now
  accepted_drawn events given before last heard_now heard k = record {
    frames = k.frames;
    earlier = k.earlier;
    events_are = k.events_are;
    no_other = λ x i. in_others last given x (k.no_other x i);
    every = λ x i. elim (in_frame last given x i) [
      | inl e ↦ inr (heard, e)
      | inr j ↦ elim (k.every x j) [
        | inl f ↦ inl f
        | inr never ↦ absurd (let e : false ≡ true = never.0 in cc)
      ]
    ];
  }

  -- one more frame accepted
  accepted_more : (events : List Event) (given : List ℕ) (last : Option ℕ) (heard_now : Bool) (x : ℕ) → last ≡ Some x → In x given ⊎ (given ≡ []) → AcceptedSince events given last true → AcceptedSince (accepted x ∷ events) given last heard_now
  accepted_more events given last heard_now x e (inl i) k = record {
    frames = x ∷ k.frames;
    earlier = k.earlier;
    events_are = ap (λ (l : List Event). accepted x ∷ l) k.events_are;
    no_other = λ y j. elim j [ inl same ↦ rw same i | inr before ↦ k.no_other y before ];
    every = λ y j. elim (k.every y j) [
      | inl f ↦ inl (inr f)
      | inr now ↦ inl (inl (let f : last ≡ Some y = now.1 in let same : y ≡ x = cc in same))
    ];
  }
  accepted_more events given last heard_now x e (inr none) k = record { frames = []; earlier = accepted x ∷ events; events_are = refl; no_other = λ y j. absurd j; every = λ y j. absurd (subst (In y) none j) }

  accepted_since : (before since : List (Step T)) (heard_now : Bool) → EveryDrawHeard m s before heard_now since →
      AcceptedSince (monitor_events (since ++ before)) (frames_since m s (card_calls before) (card_calls since)) (frame_last_drawn m s (card_calls since ++ card_calls before)) heard_now
  accepted_since before [] heard_now heard = record { frames = []; earlier = monitor_events before; events_are = refl; no_other = λ x i. i; every = λ x i. absurd i }
  accepted_since before (card (stored r) ∷ since) heard_now heard = accepted_since before since heard_now heard
  accepted_since before (card withdrawn ∷ since) heard_now heard = accepted_since before since heard_now heard
  accepted_since before (monitor forgotten ∷ since) heard_now heard = absurd heard
  accepted_since before (card drawn ∷ since) heard_now heard =
      let h = card_calls since ++ card_calls before in
      accepted_drawn (monitor_events (since ++ before)) (frames_since m s (card_calls before) (card_calls since)) (frame_last_drawn m s h) (frame_drawn m s h) heard_now heard.0 (accepted_since before since false heard.1)
  accepted_since before (monitor (accepted x) ∷ since) heard_now heard =
      let h = card_calls since ++ card_calls before in
      let e : frame_last_drawn m s h ≡ Some x = ap (frame_last_drawn m s) (sym (card_calls_append since before)) ∙ heard.0 in
      accepted_more (monitor_events (since ++ before)) (frames_since m s (card_calls before) (card_calls since)) (frame_last_drawn m s h) heard_now x e (last_drawn_since (card_calls before) (card_calls since) x e) (accepted_since before since true heard.1)

module _ {S T : Type 0} (m : Meaning S T) (laws : Laws m) (s : S) where
  round_arrives : (before since : List (Step T)) → LawfulRecords m s (card_calls before) → on_air (card_calls before) ≡ true → Unbroken (card_calls since) (card_calls before) → EveryDrawHeard m s before false since →
      length (cut_of m s (current_due m s (card_calls before))) ≤ draws (card_calls since) → record_due m s (monitor_events (since ++ before)) ≡ record_of (current_due m s (card_calls since ++ card_calls before))
  round_arrives before since l on unbroken heard enough =
      let h = card_calls before in
      let k = on_air_stands m s h l on in
      let r = k.latest in
      let q = sequence_after m k.earlier in
      let fit = stands_fit m s laws k in
      let frames = m.cut s r q in
      let some = laws.some_frames s r q fit in
      let n = draws (card_calls since) in
      let cut_is : cut_of m s (current_due m s h) ≡ frames = rw k.changes_are refl in
      let enough_turns : length frames ≤ n = subst (λ l. length l ≤ n) cut_is enough in
      let g = frames_given h in
      let in_turns = in_turn m s h on r k.earlier k.changes_are (card_calls since) unbroken in
      let a = accepted_since m s before since false heard in
      let no_other : (x : ℕ) → In x a.frames → In x frames = λ x i. turns_in_cut frames g n (omega arith) x (subst (In x) in_turns (a.no_other x i)) in
      let every : (x : ℕ) → In x frames → In x a.frames = λ x i. elim (a.every x (subst (In x) (sym in_turns) (each_in_turns frames g n enough_turns x i))) [
        | inl f ↦ f
        | inr never ↦ absurd (let e : false ≡ true = never.0 in cc)
      ] in
      let still : changes (card_calls since ++ h) ≡ r ∷ k.earlier = (kept m s h on (card_calls since) unbroken).same_changes ∙ k.changes_are in
      ap (record_due m s) a.events_are ∙ due_after m laws s r q fit a.frames a.earlier no_other every
      ∙ sym (ap (λ cs. record_of (current_after m s cs (frames_given (card_calls since ++ h)))) still)

  pub arrives : (a : List (Step T)) → LawfulRecords m s (card_calls a) → RoundHeard m s a → record_due m s (monitor_events a) ≡ record_of (current_due m s (card_calls a))
  arrives a l w =
      let P : List (Step T) → Type 0 = λ b. LawfulRecords m s (card_calls b) → record_due m s (monitor_events b) ≡ record_of (current_due m s (card_calls b)) in
      let calls = card_calls_append w.since w.before in
      let there : P (w.since ++ w.before) = λ lawful.
      (let Lawful-then = lawful_before m s (card_calls w.before) (card_calls w.since) (subst (λ c. LawfulRecords m s c) calls lawful) in
      round_arrives w.before w.since Lawful-then w.on_air w.unbroken w.heard w.enough ∙ ap (λ c. record_of (current_due m s c)) (sym calls)) in
      subst P (sym w.steps) there l
