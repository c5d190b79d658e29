-- A round of a place: 4 × F accepted draws hold each of its F frames once.
use Rattle.std.proofs.Common.{◌≡◌, ℕ, zero, suc, ◌+◌, ◌*◌, ◌%◌, ◌<◌, Bool, true, false, cond, ◌&&◌, eqb, List, [], ◌∷◌, ◌++◌, length, get_or, Some, None, Option, sym, refl, ap, ◌∙◌, subst, inl, inr, add-zero, mod-lt, add-one, arith}
use native.Mathlib.Nat.{mod-add-mod}
use Rattle.std.proofs.lemmas.Bool.{cases_eq, ne_eqb}
use Rattle.std.proofs.lemmas.Bool.Decides.{nat_tests}
use Rattle.message.specs.declared.place.Place.{Place}
use Rattle.message.specs.declared.place.Place.TheVariants.{Name, Message, Alert}
use Rattle.message.specs.Place.{place_number}
use Rattle.family.specs.Meaning.{Laws}
use Rattle.transport.specs.declared.head.Head.{Head}
use Rattle.transport.specs.Transport.{frame_in}
use Rattle.transport.specs.Families.{Families, PlaceOf, name_place, message_place, alert_place}
use Rattle.airing.specs.Calls.{withdrawn, drawn}
use Rattle.airing.specs.Due.{frame_drawn}
use Rattle.airing.specs.Rounds.{draws, with_frame, frames_since, occurrences}
use Rattle.airing.specs.Agrees.{LawfulRecords}
use Rattle.airing.proofs.Rounding.{round}
use Rattle.card.specs.declared.station.Station.{Station}
use Rattle.card.specs.Calls.{Call, store, withdraw, draw, accepted_draws, turn_after, turn_of, own_record, with_call, calls_at}
use Rattle.card.specs.Due.{frame_message, frame_at_turn, frame_or_station, contents_due}
use Rattle.card.specs.Rounds.{frames_drawn, calls_since, cut_at, Round, EachFrameOnce}
use Rattle.card.proofs.Projected.{store_skipped, calls_split, draws_split}

-- how many of n turns from a on are the turn t
unfoldable hits : ℕ → ℕ → ℕ → ℕ
hits t a zero = 0
hits t a (suc n) = hits t a n + cond (eqb ((a + n) % 4) t) 1 0

-- whether the turn i after b is the turn t
abbrev hit : ℕ → ℕ → ℕ → ℕ
hit t b i = cond (eqb ((b + i) % 4) t) 1 0

turn_low : (p : Place) → turn_of p < 4
turn_low Name = omega arith
turn_low Message = omega arith
turn_low Alert = omega arith

-- of four turns in a row one is the turn t
one_turn : (t b : ℕ) → t < 4 → b < 4 → hit t b 0 + hit t b 1 + hit t b 2 + hit t b 3 ≡ 1
one_turn t b low l = grind (arith, nat_tests)

one_of_four : (p : Place) (b : ℕ) → b < 4 → hit (turn_of p) b 0 + hit (turn_of p) b 1 + hit (turn_of p) b 2 + hit (turn_of p) b 3 ≡ 1
one_of_four p b l = one_turn (turn_of p) b (turn_low p) l

hit_from : (t a n i : ℕ) → cond (eqb ((a + (n + i)) % 4) t) 1 0 ≡ hit t ((a + n) % 4) i
hit_from t a n i = let e : (a + (n + i)) % 4 ≡ ((a + n) % 4 + i) % 4 = ap (λ (k : ℕ). k % 4) (let f : a + (n + i) ≡ a + n + i = omega arith in f) ∙ sym (mod-add-mod (a + n) 4 i) in ap (λ (k : ℕ). cond (eqb k t) 1 0) e

four_more : (p : Place) (a n : ℕ) → hits (turn_of p) a (n + 4) ≡ hits (turn_of p) a n + 1
unfolding hits
four_more p a n =
    let t = turn_of p in
    let step : (k : ℕ) → hits t a (n + k + 1) ≡ hits t a (n + k) + hit t ((a + n) % 4) k = λ k. rw (add-one (n + k)) (ap (λ (j : ℕ). hits t a (n + k) + j) (hit_from t a n k)) in
    let all = one_of_four p ((a + n) % 4) (mod-lt (a + n) (omega arith)) in
    let e0 : hits t a (n + 0) ≡ hits t a n = ap (hits t a) (add-zero n) in
    let e1 : hits t a (n + 1) ≡ hits t a (n + 0) + hit t ((a + n) % 4) 0 = ap (hits t a) (let f : n + 1 ≡ n + 0 + 1 = omega arith in f) ∙ step 0 in
    let e2 : hits t a (n + 2) ≡ hits t a (n + 1) + hit t ((a + n) % 4) 1 = ap (hits t a) (let f : n + 2 ≡ n + 1 + 1 = omega arith in f) ∙ step 1 in
    let e3 : hits t a (n + 3) ≡ hits t a (n + 2) + hit t ((a + n) % 4) 2 = ap (hits t a) (let f : n + 3 ≡ n + 2 + 1 = omega arith in f) ∙ step 2 in
    let e4 : hits t a (n + 4) ≡ hits t a (n + 3) + hit t ((a + n) % 4) 3 = ap (hits t a) (let f : n + 4 ≡ n + 3 + 1 = omega arith in f) ∙ step 3 in
    let sum : (w0 w1 w2 w3 x0 x1 x2 x3 y0 y1 : ℕ) → w0 ≡ y0 + x0 → w1 ≡ w0 + x1 → w2 ≡ w1 + x2 → w3 ≡ w2 + x3 → y0 ≡ y1 → x0 + x1 + x2 + x3 ≡ 1 → w3 ≡ y1 + 1 = λ w0 w1 w2 w3 x0 x1 x2 x3 y0 y1 a1 a2 a3 a4 a0 s. omega arith in
    sum _ _ _ _ _ _ _ _ _ _ e1 e2 e3 e4 e0 all

whole_rounds : (p : Place) (a k : ℕ) → hits (turn_of p) a (4 * k) ≡ k
unfolding hits
whole_rounds p a zero = refl
whole_rounds p a (suc k) = ap (hits (turn_of p) a) (let e : 4 * suc k ≡ 4 * k + 4 = omega arith in e) ∙ four_more p a (4 * k) ∙ ap (λ (n : ℕ). n + 1) (whole_rounds p a k) ∙ add-one k

module _ {S T R : Type 0} (p : PlaceOf S T R) (h : List (Call R)) where
  -- the draws at the place are the turns that are its own
  place_draws : (since : List (Call R)) → draws (calls_since p h since) ≡ hits (turn_of p.place) (accepted_draws h) (accepted_draws since)
  unfolding hits
  place_draws [] = refl
  place_draws (store n r ∷ since) = store_skipped draws (λ r xs. refl) (eqb n (place_number p.place)) p.family (own_record p r) (calls_since p h since) ∙ place_draws since
  place_draws (withdraw n ∷ since) =
      let P : Bool → Type 0 = λ b. draws (with_call (cond b (Some withdrawn) None) (calls_since p h since)) ≡ hits (turn_of p.place) (accepted_draws h) (accepted_draws since) in
      elim (eqb n (place_number p.place)) as P [ true ↦ place_draws since | false ↦ place_draws since ]
  place_draws (draw size ∷ since) =
      let t = turn_of p.place in
      let before = place_draws since in
      let turn : turn_after (since ++ h) ≡ (accepted_draws h + accepted_draws since) % 4 = ap (λ (k : ℕ). k % 4) (draws_split h since) in
      let P : Bool → Type 0 = λ b. draws (with_call (cond (b && eqb (turn_after (since ++ h)) t) (Some drawn) None) (calls_since p h since)) ≡ hits t (accepted_draws h) (accepted_draws since + cond b 1 0) in
      let Q : Bool → Type 0 = λ b. draws (with_call (cond b (Some drawn) None) (calls_since p h since)) ≡ hits t (accepted_draws h) (accepted_draws since) + cond b 1 0 in
      let counted : (b : Bool) → Q b = λ b. elim b as Q [ true ↦ ap (λ (k : ℕ). k + 1) before | false ↦ before ∙ sym (add-zero _) ] in
      elim (eqb size 10) as P [
        | true ↦ counted (eqb (turn_after (since ++ h)) t) ∙ ap (λ (k : ℕ). hits t (accepted_draws h) (accepted_draws since) + cond (eqb k t) 1 0) turn ∙ rw (add-one (accepted_draws since)) refl
        | false ↦ before ∙ ap (hits t (accepted_draws h)) (sym (add-zero (accepted_draws since)))
      ]

module _ {N T M U E V S X : Type 0} (f : Families N T M U E V) (st : Station) (p : PlaceOf S X (Head T U V))
    (given : (h : List (Call (Head T U V))) → frame_in p.place (contents_due f st h).first ≡ cond (eqb (turn_after h) (turn_of p.place)) (frame_drawn p.family.meaning p.family.setting (calls_at p h)) None) where
  -- the frames of the place in the PDUs drawn are those that its draws gave
  frames_drawn_lem : (h since : List (Call (Head T U V))) → frames_drawn f st p.place h since ≡ frames_since p.family.meaning p.family.setting (calls_at p h) (calls_since p h since)
  frames_drawn_lem h [] = refl
  frames_drawn_lem h (store n r ∷ since) =
      frames_drawn_lem h since ∙ sym (store_skipped (frames_since p.family.meaning p.family.setting (calls_at p h)) (λ r xs. refl) (eqb n (place_number p.place)) p.family (own_record p r) (calls_since p h since))
  frames_drawn_lem h (withdraw n ∷ since) =
      let P : Bool → Type 0 = λ b. frames_drawn f st p.place h since ≡ frames_since p.family.meaning p.family.setting (calls_at p h) (with_call (cond b (Some withdrawn) None) (calls_since p h since)) in
      elim (eqb n (place_number p.place)) as P [ true ↦ frames_drawn_lem h since | false ↦ frames_drawn_lem h since ]
  frames_drawn_lem h (draw size ∷ since) =
      let m = p.family.meaning in
      let s = p.family.setting in
      let t = turn_of p.place in
      let xs = calls_since p h since in
      let before = frames_drawn_lem h since in
      let frame = frame_drawn m s (calls_at p (since ++ h)) in
      let frame_is : frame_drawn m s (xs ++ calls_at p h) ≡ frame = ap (frame_drawn m s) (sym (calls_split p h since)) in
      let Q : Bool → Type 0 = λ b. with_frame (cond b frame None) (frames_drawn f st p.place h since) ≡ frames_since m s (calls_at p h) (with_call (cond b (Some drawn) None) xs) in
      let at_turn : (b : Bool) → Q b = λ b. elim b as Q [
        | true ↦ ap (with_frame frame) before ∙ ap (λ o. with_frame o (frames_since m s (calls_at p h) xs)) (sym frame_is)
        | false ↦ before
      ] in
      let P : Bool → Type 0 = λ b. cond b (with_frame (frame_in p.place (contents_due f st (since ++ h)).first) (frames_drawn f st p.place h since)) (frames_drawn f st p.place h since)
      ≡ frames_since m s (calls_at p h) (with_call (cond (b && eqb (turn_after (since ++ h)) t) (Some drawn) None) xs) in
      elim (eqb size 10) as P [
        | true ↦ ap (λ o. with_frame o (frames_drawn f st p.place h since)) (given (since ++ h)) ∙ at_turn (eqb (turn_after (since ++ h)) t)
        | false ↦ before
      ]

  pub each_once : Laws p.family.meaning → (h : List (Call (Head T U V))) → LawfulRecords p.family.meaning p.family.setting (calls_at p h) → (w : Round p h) → EachFrameOnce f st p h w
  each_once laws h lawful w i small =
      let m = p.family.meaning in
      let s = p.family.setting in
      let b = w.before in
      let n : draws (calls_since p b w.since) ≡ length (cut_at p b) = place_draws p b w.since ∙ ap (hits (turn_of p.place) (accepted_draws b)) w.as_many ∙ whole_rounds p.place (accepted_draws b) (length (cut_at p b)) in
      let at_place = round m laws s (calls_at p h) lawful (record {
        before = calls_at p b;
        since = calls_since p b w.since;
        calls = ap (calls_at p) w.calls ∙ calls_split p b w.since;
        on_air = w.on_air;
        unbroken = w.unbroken;
        as_many = n;
      }) i small in
      ap (occurrences (get_or (cut_at p b) i 0)) (frames_drawn_lem b w.since) ∙ at_place

-- what the PDU of a place's frame, or of the station, holds for a place
own : (st : Station) (p q : Place) (o : Option ℕ) → frame_in p (frame_or_station st (frame_message q o)).first ≡ cond (eqb (place_number q) (place_number p)) o None
own st p q None = let P : Bool → Type 0 = λ b. ◌≡◌ {A = Option ℕ} None (cond b None None) in elim (eqb (place_number q) (place_number p)) as P [ true ↦ refl | false ↦ refl ]
own st p q (Some x) = refl

module _ {N T M U E V : Type 0} (f : Families N T M U E V) (st : Station) where
  module _ (h : List (Call (Head T U V))) where
    abbrev frames : Place → Option ℕ
    frames Name = frame_drawn f.name.meaning f.name.setting (calls_at (name_place f) h)
    frames Message = frame_drawn f.message.meaning f.message.setting (calls_at (message_place f) h)
    frames Alert = frame_drawn f.alert.meaning f.alert.setting (calls_at (alert_place f) h)

    -- what the PDU of a turn holds for a place
    abbrev AtTurn : Place → ℕ → Type 0
    AtTurn p turn = frame_in p (frame_or_station st (frame_at_turn f h turn)).first ≡ cond (eqb turn (turn_of p)) (frames p) None

    name_turn : (p : Place) → AtTurn p 1
    name_turn Name = own st Name Name (frames Name)
    name_turn Message = own st Message Name (frames Name)
    name_turn Alert = own st Alert Name (frames Name)

    message_turn : (p : Place) → AtTurn p 2
    message_turn Name = own st Name Message (frames Message)
    message_turn Message = own st Message Message (frames Message)
    message_turn Alert = own st Alert Message (frames Message)

    alert_turn : (p : Place) → AtTurn p 3
    alert_turn Name = own st Name Alert (frames Alert)
    alert_turn Message = own st Message Alert (frames Alert)
    alert_turn Alert = own st Alert Alert (frames Alert)

    other_turn : (p : Place) (turn : ℕ) → eqb turn 1 ≡ false → eqb turn 2 ≡ false → eqb turn 3 ≡ false → AtTurn p turn
    other_turn Name turn a b c = rw (a, b, c) refl
    other_turn Message turn a b c = rw (a, b, c) refl
    other_turn Alert turn a b c = rw (a, b, c) refl

    -- at each turn a PDU holds a frame of the place whose turn it is, or none
    pub frame_of_turn : (p : Place) (turn : ℕ) → AtTurn p turn
    frame_of_turn p turn =
        elim (cases_eq turn 1) [
          | inl e ↦ subst (AtTurn p) (sym e) (name_turn p)
          | inr a ↦ elim (cases_eq turn 2) [
            | inl e ↦ subst (AtTurn p) (sym e) (message_turn p)
            | inr b ↦ elim (cases_eq turn 3) [
              | inl e ↦ subst (AtTurn p) (sym e) (alert_turn p)
              | inr c ↦ other_turn p turn (ne_eqb turn 1 a) (ne_eqb turn 2 b) (ne_eqb turn 3 c)
            ]
          ]
        ]

  pub name_once : Laws f.name.meaning → (h : List (Call (Head T U V))) → LawfulRecords f.name.meaning f.name.setting (calls_at (name_place f) h) → (w : Round (name_place f) h) → EachFrameOnce f st (name_place f) h w
  name_once = each_once f st (name_place f) (λ h. frame_of_turn h Name (turn_after h))

  pub message_once : Laws f.message.meaning → (h : List (Call (Head T U V))) → LawfulRecords f.message.meaning f.message.setting (calls_at (message_place f) h) → (w : Round (message_place f) h) → EachFrameOnce f st (message_place f) h w
  message_once = each_once f st (message_place f) (λ h. frame_of_turn h Message (turn_after h))

  pub alert_once : Laws f.alert.meaning → (h : List (Call (Head T U V))) → LawfulRecords f.alert.meaning f.alert.setting (calls_at (alert_place f) h) → (w : Round (alert_place f) h) → EachFrameOnce f st (alert_place f) h w
  alert_once = each_once f st (alert_place f) (λ h. frame_of_turn h Alert (turn_after h))
