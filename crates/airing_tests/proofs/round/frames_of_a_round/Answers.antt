use Rattle.std.proofs.Common.{◌≡◌, ℕ, [], ◌∷◌, Some, None, Ok, Option, Result, sym, refl, ap, ◌∙◌, arith}
use Rattle.pdu.specs.declared.refusal.Refusal.{Refusal}
use Rattle.family.specs.Texts.{record_view}
use Rattle.airing.specs.Calls.{stored, drawn}
use Rattle.airing.specs.Rounds.{Round}
use Rattle.gatherer_tests.specs.Two.{meaning_of_two}
use Rattle.airing_tests.proofs.round.frames_of_a_round.Goals as goal

none_if : (o : Option Refusal) → ((e : Refusal) → o ≡ Some e → ⊥) → o ≡ None
none_if None f = refl
none_if (Some e) f = absurd (f e refl)

both_given : (a b x y : Option ℕ) → ◌≡◌ {A = Result (Option ℕ × Option ℕ) Refusal} (Ok (a, b)) (Ok (x, y)) → (x ≡ a) × (y ≡ b)
both_given a b x y e = let f : ◌≡◌ {A = Option ℕ × Option ℕ} (x, y) (a, b) = cc in (ap (λ p. p.0) f, ap (λ p. p.1) f)

pub returns : goal.returns
returns c s first second e i l =
    let r = record_view c.args.record in
    let k = c.new-place.ensures in
    let st = c.store.ensures in
    let lawful : meaning_of_two.refusal s r ≡ None = none_if _ (λ f is. let ok = sym c.in_ok-store.was ∙ st.refusal f is in cc) in
    let on = st.accepted _ [] k lawful in
    let one = c.draw-first.ensures.drawn _ (stored r ∷ []) on.agrees in
    let two = c.draw-second.ensures.drawn _ (drawn ∷ stored r ∷ []) one.agrees in
    let w : Round meaning_of_two s (drawn ∷ drawn ∷ stored r ∷ []) = record { before = stored r ∷ []; since = drawn ∷ drawn ∷ []; calls = refl; on_air = refl; unbroken = tt; as_many = refl } in
    let once = two.each_once w i l in
    let given = both_given c.draw-first.result c.draw-second.result first second e in
    rw (given.1 ∙ two.frame_is, given.0 ∙ one.frame_is) once
