use Rattle.std.proofs.Common.{is_err, sym, ap, ◌∙◌}
use Rattle.course.specs.Exercise.{drawn_times, message_changed}
use Rattle.course.proofs.exercise.running.run.Goals as goal

pub returns : goal.returns
returns g c n m e st a k =
    let stored = c.store_texts.ensures n m e st a k in
    let sent = c.pass_many.ensures n m e st stored.run stored.ran in
    let changed = c.change_message.ensures n m e st sent.run sent.ran in
    let all = c.pass_many-2.ensures n m e st changed.run changed.ran in
    let first_half = sent.calls_are c.in_ok-pass_many.was ∙ ap (drawn_times c.args.draws) (stored.calls_are c.in_ok-store_texts.was) in
    let then_changed = changed.calls_are c.in_ok-change_message.was ∙ ap (message_changed c.args.texts) first_half in
    record { run = all.run; ran = all.ran; calls_are = λ ok. all.calls_are ok ∙ ap (drawn_times c.args.draws) then_changed }

pub returns-in_err-change_message : goal.returns-in_err-change_message
returns-in_err-change_message g c n m e st a k =
    let stored = c.store_texts.ensures n m e st a k in
    let sent = c.pass_many.ensures n m e st stored.run stored.ran in
    let changed = c.change_message.ensures n m e st sent.run sent.ran in
    record { run = changed.run; ran = changed.ran; calls_are = λ ok. (let f = sym (ap is_err ok) ∙ c.from_residual-in_err-change_message.ensures.0 in cc) }
