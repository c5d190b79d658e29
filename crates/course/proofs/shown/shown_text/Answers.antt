use Rattle.std.proofs.Common.{◌≡◌, ◌≤◌, Some, take, sym, ap, ◌∙◌, arith}
use Rattle.transport.specs.Families.{families}
use Rattle.course.specs.Shown.{bytes_in}
use Rattle.course.proofs.Copying.{shows_text, none_copied, long_copied, text_copied, text_made}
use Rattle.course.proofs.shown.shown_text.Goals as goal

pub returns-in_err-length : goal.returns-in_err-length
returns-in_err-length g c n m e h k =
    let f = families g.N.Family.meaning n g.M.Family.meaning m g.E.Family.meaning e in
    shows_text f h c.args.place _ c.copy_text.result c.copy_text.new.buffer _ c.from.ensures (c.copy_text.ensures n m e h k)
    (ap bytes_in c.from_residual.ensures ∙ none_copied c.copy_text.result c.copy_text.new.buffer (sym c.in_err-length.was ∙ c.ok.ensures.value))

pub returns-in_err-get : goal.returns-in_err-get
returns-in_err-get g c n m e h k =
    let f = families g.N.Family.meaning n g.M.Family.meaning m g.E.Family.meaning e in
    shows_text f h c.args.place _ c.copy_text.result c.copy_text.new.buffer _ c.from.ensures (c.copy_text.ensures n m e h k)
    (ap bytes_in c.from_residual-in_err-get.ensures ∙ long_copied c.copy_text.result c.copy_text.new.buffer c.in_ok-length.length (sym c.in_ok-length.was ∙ c.ok.ensures.value) (omega (arith, c.copy_text.auto.buffer, c.in_err-get.ensures.lookup)))

pub returns : goal.returns
returns g c n m e h k =
    let f = families g.N.Family.meaning n g.M.Family.meaning m g.E.Family.meaning e in
    let within : c.in_ok-length.length ≤ 381 = omega (arith, c.copy_text.auto.buffer, c.in_ok-get.ensures.lookup) in
    let taken : c.in_ok-get.field-0.now ≡ take c.in_ok-length.length c.copy_text.new.buffer = grind (arith, c.in_ok-get.ensures.lookup) in
    shows_text f h c.args.place _ c.copy_text.result c.copy_text.new.buffer _ c.from.ensures (c.copy_text.ensures n m e h k)
    (ap bytes_in c.ok-2.ensures.value ∙ text_made c.new.result c.in_ok-get.field-0.now c.new.ensures (omega (arith, within, c.in_ok-get.ensures.lookup)) ∙ ap Some taken ∙ sym (text_copied c.copy_text.result c.copy_text.new.buffer c.in_ok-length.length (sym c.in_ok-length.was ∙ c.ok.ensures.value) within))
