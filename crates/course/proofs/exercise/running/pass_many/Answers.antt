use Rattle.std.proofs.Common.{◌≡◌, ◌∷◌, is_err, sym, ap, ◌∙◌, add-one, arith}
use Rattle.card.specs.Calls.{draw}
use Rattle.air.specs.Runs.{card_calls}
use Rattle.course.specs.Exercise.{drawn_times}
use Rattle.course.proofs.exercise.running.pass_many.Goals as goal

pub returns-in_err-pass_one : goal.returns-in_err-pass_one
returns-in_err-pass_one g c n m e st a r =
    let k = c.loop.invariant n m e st a r in
    let w = c.pass_one.ensures n m e st k.0 k.1 in
    record { run = w.run; ran = w.ran; calls_are = λ ok. (let f = sym (ap is_err ok) ∙ c.from_residual.ensures.0 in cc) }

pub loop-preserved : goal.loop-preserved
loop-preserved g c n m e st a r =
    let k = c.loop.invariant n m e st a r in
    let w = c.pass_one.ensures n m e st k.0 k.1 in
    (w.run, w.ran, rw (add-one c.loop.counter) (w.calls_are c.in_ok-pass_one.was ∙ ap (λ h. draw 10 ∷ h) k.2))

pub returns : goal.returns
returns g c n m e st a r =
    let k = c.loop.invariant n m e st a r in
    let all : c.loop.counter ≡ c.args.draws = omega arith in
    record { run = k.0; ran = k.1; calls_are = λ _. k.2 ∙ ap (λ x. drawn_times x (card_calls a)) all }
