use Rattle.std.proofs.Common.{sym, ◌∙◌, rules}
use Rattle.pdu.specs.Fields.{composed}
use Rattle.message.proofs.Ranges.{then_ok}
use Rattle.contents.specs.Contents.{fields_of}
use Rattle.contents.proofs.Trips.{fields_again}
use Rattle.contents.proofs.codec.ContentsTryFromPdu.try_from.Goals as goal

pub returns : goal.returns
returns c =
    let f = c.in_ok-fields.fields in
    record {
      value = search rules;
      written_again = λ d e. then_ok (fields_of d) f composed (fields_again f d (sym c.from_fields.ensures ∙ e)) ∙ c.try_from.ensures.written_again f c.in_ok-fields.was;
    }
