-- Rounds of a card: four draws for each frame of the record that a place has on air.
use Rattle.std.specs.Prelude.{◌≡◌, ℕ, ◌*◌, ◌<◌, true, cond, List, [], ◌∷◌, ◌++◌, length, ◌==◌, slice_index}
use Rattle.message.specs.declared.place.Place.{Place}
use Rattle.transport.specs.declared.head.Head.{Head}
use Rattle.transport.specs.Transport.{frame_in}
use Rattle.transport.specs.Families.{Families, PlaceOf}
use Rattle.airing.specs.Calls.{Call as PlaceCall, on_air}
use Rattle.airing.specs.Due.{current_due, cut_of}
use Rattle.airing.specs.Rounds.{Unbroken, with_frame, occurrences}
use Rattle.card.specs.declared.station.Station.{Station}
use Rattle.card.specs.Calls.{Call, store, withdraw, draw, accepted_draws, call_at, with_call, calls_at}
use Rattle.card.specs.Due.{contents_due}

-- The frames of a place in the PDUs that the accepted draws since h gave.
abbrev pub frames_drawn : {N T M U E V : Type 0} → Families N T M U E V → Station → Place → List (Call (Head T U V)) → List (Call (Head T U V)) → List ℕ
frames_drawn f st p h [] = []
frames_drawn f st p h (store n r ∷ since) = frames_drawn f st p h since
frames_drawn f st p h (withdraw n ∷ since) = frames_drawn f st p h since
frames_drawn f st p h (draw size ∷ since) = cond (size == 10) (with_frame (frame_in p (contents_due f st (since ++ h)).first) (frames_drawn f st p h since)) (frames_drawn f st p h since)

-- The calls at a place among those since h.
abbrev pub calls_since : {S T R : Type 0} → PlaceOf S T R → List (Call R) → List (Call R) → List (PlaceCall T)
calls_since p h [] = []
calls_since p h (c ∷ since) = with_call (call_at p (since ++ h) c) (calls_since p h since)

-- The frames of the record that a place has after h, in the order of their numbers.
abbrev pub cut_at : {S T R : Type 0} → PlaceOf S T R → List (Call R) → List ℕ
cut_at p h = cut_of p.family.meaning p.family.setting (current_due p.family.meaning p.family.setting (calls_at p h))

-- The calls h end in a round of a place: from some time on, with a record of F frames on air there, no change and no withdraw came there, and 4 × F accepted draws.
pub record Round {S T R : Type 0} (p : PlaceOf S T R) (h : List (Call R)) : Type 0 where
  pub before : List (Call R)
  pub since : List (Call R)
  pub calls : h ≡ since ++ before
  pub on_air : on_air (calls_at p before) ≡ true
  pub unbroken : Unbroken (calls_since p before since) (calls_at p before)
  pub as_many : accepted_draws since ≡ 4 * length (cut_at p before)

-- The PDUs drawn in the round hold each frame of the record exactly once.
abbrev pub EachFrameOnce : {N T M U E V S X : Type 0} → Families N T M U E V → Station → (p : PlaceOf S X (Head T U V)) (h : List (Call (Head T U V))) → Round p h → Type 0
EachFrameOnce f st p h w = (i : ℕ) → i < length (cut_at p w.before) → occurrences (slice_index (cut_at p w.before) i) (frames_drawn f st p.place w.before w.since) ≡ 1
