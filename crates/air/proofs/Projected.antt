-- A run at one place: its calls and events are those that the card and the monitor have there, and it is relayed there.
use Rattle.std.proofs.Common.{◌≡◌, ℕ, Bool, true, false, cond, eqb, List, [], ◌∷◌, Some, None, Ok, Err, Option, Result, sym, refl, ap, ◌∙◌, subst, inl, inr}
use Rattle.pdu.specs.declared.refusal.Refusal.{Refusal}
use Rattle.message.specs.declared.message.Message.{Message}
use Rattle.message.specs.declared.place.Place.{Place}
use Rattle.message.specs.Place.{place_number}
use Rattle.contents.specs.declared.contents.Contents.{Contents}
use Rattle.transport.specs.declared.head.Head.{Head}
use Rattle.transport.specs.Transport.{read_with, frame_in}
use Rattle.transport.specs.Families.{Families, PlaceOf, lawful_in}
use Rattle.gatherer.specs.Series.{forgotten}
use Rattle.airing.specs.Calls.{Call as PlaceCall, withdrawn}
use Rattle.airing.specs.Due.{frame_drawn}
use Rattle.reception.specs.Runs as place
use Rattle.reception.specs.Runs.{Step as PlaceStep, monitor_events, frame_last_drawn}
use Rattle.card.specs.declared.station.Station.{Station}
use Rattle.card.specs.Calls.{Call as CardCall, store, withdraw, draw, turn_after, turn_of, own_record, call_at, with_call, calls_at}
use Rattle.card.specs.Due.{frame_or_station, frame_at_turn, contents_due}
use Rattle.card.proofs.Projected.{store_skipped}
use Rattle.monitor.specs.Calls.{offer, forget, hearings, offer_heard, then_heard, then_accepted, events_at}
use Rattle.station_information.specs.Hearings.{Hearing, heard}
use Rattle.air.specs.Runs.{Step, card, monitor, card_calls, monitor_calls, contents_last_drawn, Relayed}
use Rattle.air.specs.Places.{with_card_step, with_frame_step, with_second_step, with_offer_steps, steps_at}

module _ {T : Type 0} where
  with_card : (o : Option (PlaceCall T)) (xs : List (PlaceStep T)) → (place.card_calls (with_card_step o xs) ≡ with_call o (place.card_calls xs)) × (monitor_events (with_card_step o xs) ≡ monitor_events xs)
  with_card None xs = (refl, refl)
  with_card (Some c) xs = (refl, refl)

  with_frame_lem : (o : Option ℕ) (xs : List (PlaceStep T)) → (place.card_calls (with_frame_step o xs) ≡ place.card_calls xs) × (monitor_events (with_frame_step o xs) ≡ then_accepted o (monitor_events xs))
  with_frame_lem None xs = (refl, refl)
  with_frame_lem (Some x) xs = (refl, refl)

  with_second_lem : (p : Place) (o : Option Message) (xs : List (PlaceStep T)) (k : List Hearing) → monitor_events xs ≡ events_at p k →
      (place.card_calls (with_second_step p o xs) ≡ place.card_calls xs) × (monitor_events (with_second_step p o xs) ≡ events_at p (then_heard o k))
  with_second_lem p None xs k e = (refl, e)
  with_second_lem p (Some x) xs k e = let w = with_frame_lem (frame_in p x) xs in (w.0, w.1 ∙ ap (then_accepted (frame_in p x)) e)

  with_offer : (p : Place) (r : Result Contents Refusal) (xs : List (PlaceStep T)) (k : List Hearing) → monitor_events xs ≡ events_at p k →
      (place.card_calls (with_offer_steps p r xs) ≡ place.card_calls xs) × (monitor_events (with_offer_steps p r xs) ≡ events_at p (offer_heard r k))
  with_offer p (Err x) xs k e = (refl, e)
  with_offer p (Ok c) xs k e =
      let first = with_frame_lem (frame_in p c.first) xs in
      let second = with_second_lem p c.second (with_frame_step (frame_in p c.first) xs) (heard c.first ∷ k) (first.1 ∙ ap (then_accepted (frame_in p c.first)) e) in
      (second.0 ∙ first.0, second.1)

module _ {S X R : Type 0} (lawful : Place → ℕ → Bool) (p : PlaceOf S X R) where
  pub monitor_part : (a : List (Step R)) → monitor_events (steps_at lawful p a) ≡ events_at p.place (hearings lawful (monitor_calls a))
  monitor_part [] = refl
  monitor_part (card c ∷ a) = (with_card (call_at p (card_calls a) c) (steps_at lawful p a)).1 ∙ monitor_part a
  monitor_part (monitor forget ∷ a) = ap (λ e. forgotten ∷ e) (monitor_part a)
  monitor_part (monitor (offer bs) ∷ a) = (with_offer p.place (read_with lawful bs) (steps_at lawful p a) (hearings lawful (monitor_calls a)) (monitor_part a)).1

  pub card_part : (a : List (Step R)) → place.card_calls (steps_at lawful p a) ≡ calls_at p (card_calls a)
  card_part [] = refl
  card_part (card c ∷ a) = (with_card (call_at p (card_calls a) c) (steps_at lawful p a)).0 ∙ ap (with_call (call_at p (card_calls a) c)) (card_part a)
  card_part (monitor forget ∷ a) = card_part a
  card_part (monitor (offer bs) ∷ a) = (with_offer p.place (read_with lawful bs) (steps_at lawful p a) (hearings lawful (monitor_calls a)) (monitor_part a)).0 ∙ card_part a

-- a second message of a card's PDU is no frame
no_second : {X : Type 0} (st : Station) (p : Place) (o : Option Message) (xs : List (PlaceStep X)) → with_second_step p (frame_or_station st o).second xs ≡ xs
no_second st p None xs = refl
no_second st p (Some x) xs = refl

module _ {N T M U E V S X : Type 0} (f : Families N T M U E V) (st : Station) (p : PlaceOf S X (Head T U V))
    (given : (h : List (CardCall (Head T U V))) → frame_in p.place (contents_due f st h).first ≡ cond (eqb (turn_after h) (turn_of p.place)) (frame_drawn p.family.meaning p.family.setting (calls_at p h)) None) where
  -- what the PDU drawn last holds for the place: the frame that its latest draw gave, and nothing else
  record Held (h : List (CardCall (Head T U V))) (c : Contents) : Type 0 where
    pub frame : (x : ℕ) → frame_in p.place c.first ≡ Some x → frame_last_drawn p.family.meaning p.family.setting (calls_at p h) ≡ Some x
    pub alone : (xs : List (PlaceStep X)) → with_second_step p.place c.second xs ≡ xs

  at_turn : (b : Bool) (o : Option ℕ) (x : ℕ) → cond b o None ≡ Some x → (b ≡ true) × (o ≡ Some x)
  at_turn true o x e = (refl, e)
  at_turn false o x e = absurd (cc)

  last_held : (h : List (CardCall (Head T U V))) (c : Contents) → contents_last_drawn f st h ≡ Some c → Held h c
  last_held [] c e = absurd (cc)
  last_held (store n r ∷ h) c e =
      let k = last_held h c e in
      let same = store_skipped (frame_last_drawn p.family.meaning p.family.setting) (λ r xs. refl) (eqb n (place_number p.place)) p.family (own_record p r) (calls_at p h) in
      record { frame = λ x is. same ∙ k.frame x is; alone = k.alone }
  last_held (withdraw n ∷ h) c e =
      let k = last_held h c e in
      let P : Bool → Type 0 = λ b. frame_last_drawn p.family.meaning p.family.setting (with_call (cond b (Some withdrawn) None) (calls_at p h)) ≡ frame_last_drawn p.family.meaning p.family.setting (calls_at p h) in
      let same = elim (eqb n (place_number p.place)) as P [ true ↦ refl | false ↦ refl ] in
      record { frame = λ x is. same ∙ k.frame x is; alone = k.alone }
  last_held (draw size ∷ h) c e =
      let P : Bool → Type 0 = λ b. eqb size 10 ≡ b → Held (draw size ∷ h) c in
      let go : (b : Bool) → P b = λ b. elim b as P [
        | true ↦ λ ten.
            (let is : ◌≡◌ {A = Option Contents} (Some (contents_due f st h)) (Some c) = rw ten at e in
            let same : contents_due f st h ≡ c = cc in
            subst (Held (draw size ∷ h)) same (record {
              frame = λ x held.
                  (let k = at_turn (eqb (turn_after h) (turn_of p.place)) (frame_drawn p.family.meaning p.family.setting (calls_at p h)) x (sym (given h) ∙ held) in
                  rw (ten, k.0) k.1);
              alone = no_second st p.place (frame_at_turn f h (turn_after h));
            }))
        | false ↦ λ other.
            (let k = last_held h c (rw other at e) in
            record { frame = λ x is. rw other (k.frame x is); alone = k.alone })
      ] in
      go (eqb size 10) refl

  abbrev RelayedThere : List (PlaceStep X) → Type 0
  RelayedThere xs = place.Relayed p.family.meaning p.family.setting xs

  card_relayed : (o : Option (PlaceCall X)) (xs : List (PlaceStep X)) → RelayedThere xs → RelayedThere (with_card_step o xs)
  card_relayed None xs k = k
  card_relayed (Some c) xs k = k

  frame_relayed : (o : Option ℕ) (xs : List (PlaceStep X)) → ((x : ℕ) → o ≡ Some x → frame_last_drawn p.family.meaning p.family.setting (place.card_calls xs) ≡ Some x) → RelayedThere xs → RelayedThere (with_frame_step o xs)
  frame_relayed None xs is k = k
  frame_relayed (Some x) xs is k = (is x refl, k)

  pub relayed_part : (a : List (Step (Head T U V))) → Relayed f st a → RelayedThere (steps_at (lawful_in f) p a)
  relayed_part [] k = k
  relayed_part (card c ∷ a) k = card_relayed (call_at p (card_calls a) c) (steps_at (lawful_in f) p a) (relayed_part a k)
  relayed_part (monitor forget ∷ a) k = relayed_part a k
  relayed_part (monitor (offer bs) ∷ a) k =
      elim k.0 [
        | inl copy ↦ (let c = copy.0 in
            let xs = steps_at (lawful_in f) p a in
            let held = last_held (card_calls a) c copy.1 in
            let here = frame_relayed (frame_in p.place c.first) xs (λ x is. ap (frame_last_drawn p.family.meaning p.family.setting) (card_part (lawful_in f) p a) ∙ held.frame x is) (relayed_part a k.1) in
            rw copy.2 (subst RelayedThere (sym (held.alone (with_frame_step (frame_in p.place c.first) xs))) here))
        | inr spoilt ↦ rw spoilt.1 (relayed_part a k.1)
      ]
