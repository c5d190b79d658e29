use Rattle.std.proofs.Common.{◌∙◌, rules}
use Rattle.pdu.specs.Fields.{parsed as fields_in}
use Rattle.message.proofs.Ranges.{then_ok}
use Rattle.contents.specs.Contents.{contents_of}
use Rattle.contents.proofs.codec.PduTryFromContents.try_from.Goals as goal

pub returns : goal.returns
returns c =
    let f = c.in_ok-fields.fields in
    let again = c.fields.ensures.read_again f c.in_ok-fields.was in
    record { value = search rules; read_again = λ p e. then_ok (fields_in p) f contents_of (c.try_from.ensures.read_again p e) ∙ again }
