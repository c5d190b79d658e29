use Rattle.std.proofs.Common.{◌∷◌}
use Rattle.card.specs.Calls.{draw}
use Rattle.air.specs.Runs.{card}
use Rattle.bench.specs.Ran.{offers_of, passed_run}
use Rattle.bench.proofs.Counting.{offers_skipped}
use Rattle.course.proofs.exercise.running.pass_one.Goals as goal

pub returns-in_ok-note-in-Ok : goal.returns-in_ok-note-in-Ok
returns-in_ok-note-in-Ok g c n m e st a k =
    let s = c.pass.ensures.due n m e st a k in
    record { run = passed_run c.next_fade-fade.result s.passage.pdu a; ran = s.ran; calls_are = λ _. offers_skipped (offers_of c.next_fade-fade.result s.passage.pdu.bytes) (card (draw 10) ∷ a) }
