use Rattle.std.proofs.Common.{◌≡◌, ◌-◌, false, Ok, sym, ap, ◌∙◌, ap₂}
use Rattle.message.specs.Message.{number_of}
use Rattle.contents.specs.Area.{first_size, joined}
use Rattle.contents.specs.Contents.{contents_of, fields_with}
use Rattle.contents.proofs.Trips.{one_read}
use Rattle.contents.proofs.contents.Contents.one_written.Goals as goal

pub returns-clause-read_again : goal.returns-clause-read_again
returns-clause-read_again c =
    let contents = c.args.self in
    let size = c.in_ok-size.size in
    let payload = c.in_ok-payload.payload in
    let told : first_size false (number_of contents.first) ≡ Ok size = ap (first_size false) (sym c.number.ensures) ∙ sym c.first_size.ensures.value ∙ c.in_ok-size.was in
    let again = c.payload.ensures.read_again payload c.in_ok-payload.was in
    let area : c.behind-area.result.bits ≡ joined payload (58 - size) 0 = c.behind-area.ensures.bits ∙ ap₂ (joined payload) c.zeros.ensures.width c.zeros.ensures.bits in
    let fields = c.fields_with.ensures ∙ ap (fields_with contents false) area in
    λ f e. let same : c.fields_with.result ≡ f = cc in ap contents_of (sym same ∙ fields) ∙ one_read contents size payload told again
