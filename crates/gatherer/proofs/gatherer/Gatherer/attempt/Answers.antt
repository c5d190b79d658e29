use Rattle.std.proofs.Common.{◌≡◌, Err, Some, None, ap, ◌∙◌, sym, rules, take, option_map}
use Rattle.gatherer.specs.declared.answer.Answer.TheVariants.{Incomplete, DoesNotJoin}
use Rattle.std.specs.Option.{ok_or}
use Rattle.family.specs.Texts.{join_view}
use Rattle.gatherer.specs.Series.{series, full_series}
use Rattle.gatherer.specs.Due.{outcome, joined_outcome}
use Rattle.gatherer.specs.Agrees.{held_below, attempt_view, attempt_due}
use Rattle.gatherer.proofs.Slots.{held_full}
use Rattle.gatherer.proofs.Offered.{attempt_joined}
use Rattle.gatherer.proofs.gatherer.Gatherer.attempt.Goals as goal

pub returns-in_err-frames : goal.returns-in_err-frames
returns-in_err-frames g c s h k =
    let m = g.F.Family.meaning in
    let n = c.in_ok-count.count in
    let e : c.from_residual-in_err-frames.result ≡ Err Incomplete = search rules in
    let told = c.frames_told.ensures in
    let is : c.frames_told.result ≡ Some n = c.in_ok-count.ensures.ok_part in
    let missing : c.frames_below.result ≡ None = c.in_err-frames.ensures.ok_part in
    let none : held_below c.args.self.now.table n ≡ None = sym c.frames_below.ensures ∙ ap (option_map (take n)) missing in
    let full : full_series m s (series m s h) ≡ None = held_full m s (series m s h) c.args.self.now.table k.slots_are n (told.few n is) (sym (told.due s h k) ∙ is) ∙ none in
    ap attempt_view e ∙ sym (ap (λ o. attempt_due (outcome m s o)) full)

pub returns : goal.returns
returns g c s h k =
    let m = g.F.Family.meaning in
    let n = c.in_ok-count.count in
    let ys = take n c.in_ok-frames.frames in
    let told = c.frames_told.ensures in
    let is : c.frames_told.result ≡ Some n = c.in_ok-count.ensures.ok_part in
    let all : c.frames_below.result ≡ Some c.in_ok-frames.frames = c.in_ok-frames.ensures.ok_part in
    let held : held_below c.args.self.now.table n ≡ Some ys = sym c.frames_below.ensures ∙ ap (option_map (take n)) all in
    let full : full_series m s (series m s h) ≡ Some ys = held_full m s (series m s h) c.args.self.now.table k.slots_are n (told.few n is) (sym (told.due s h k) ∙ is) ∙ held in
    let joined : join_view c.join.result ≡ m.joined s ys = c.join.ensures ∙ ap (λ f. m.joined f ys) k.family_is in
    let result : c.ok_or-3.result ≡ ok_or c.join.result DoesNotJoin = c.ok_or-3.ensures.value in
    let view : attempt_view c.ok_or-3.result ≡ attempt_due (joined_outcome (m.joined s ys)) = ap attempt_view result ∙ attempt_joined c.join.result ∙ ap (λ o. attempt_due (joined_outcome o)) joined in
    view ∙ sym (ap (λ o. attempt_due (outcome m s o)) full)
