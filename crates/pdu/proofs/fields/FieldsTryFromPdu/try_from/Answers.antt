use Rattle.std.proofs.Common.{◌≡◌, Ok, sym, ap, ◌∙◌, ap₂}
use Rattle.pdu.specs.declared.fields.Fields.{Fields}
use Rattle.pdu.specs.Bytes.{number_of}
use Rattle.pdu.specs.Check.{check_of}
use Rattle.pdu.specs.Fields.{fields_of, tested, composed}
use Rattle.pdu.proofs.Composed.{parsed_right, written_again, area_small}
use Rattle.pdu.proofs.fields.FieldsTryFromPdu.try_from.Goals as goal

pub returns : goal.returns
returns c =
    let p = c.args.pdu in
    let n : c.from-n.result ≡ number_of p.bytes = c.from-n.ensures.1 in
    let right : tested (number_of p.bytes) (check_of p.bytes) ≡ Ok tt =
    ap₂ tested (sym n) (sym c.check.ensures.value) ∙ sym c.test.ensures ∙ c.in_ok-test.was in
    let value = ap Ok (c.of_number.ensures ∙ ap fields_of n) ∙ sym (parsed_right p right) in
    let again : (f : Fields) → Ok c.of_number.result ≡ Ok f → composed f ≡ Ok p = λ f e. written_again p c.from-n.ensures.0 f (sym value ∙ e) in
    record { value = value; written_again = again; area_small = λ f e. area_small f (again f e) }
