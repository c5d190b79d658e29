use Rattle.std.proofs.Common.{◌-◌, ◌≤◌, sym, ◌∙◌, arith}
use Rattle.contents.proofs.Trips.{two_taken}
use Rattle.contents.proofs.contents.Contents.from_fields.Goals as goal

pub returns-then-fields : goal.returns-then-fields
returns-then-fields c =
    let size = c.in_ok-size.size in
    let rest = c.split-payload.result.1 in
    let told = c.split-payload.ensures in
    let fits : size ≤ 54 = rw c.if-fields.true at c.in_ok-size.ensures.fits in
    let width = told.width in
    c.two_messages.ensures
    ∙ two_taken c.args.fields size c.split-payload.result.0 rest.bits (rest.width - 4) c.if-fields.true (sym c.first_size.ensures.value ∙ c.in_ok-size.was) fits told.first told.rest (omega arith)
