use Rattle.std.proofs.Common.{◌≡◌, ◌+◌, true, Ok, sym, ap, ◌∙◌}
use Rattle.pdu.specs.Bytes.{bytes_of}
use Rattle.pdu.specs.Check.{check_of}
use Rattle.pdu.specs.Fields.{fit, checked, unchecked_number}
use Rattle.pdu.proofs.Composed.{composed_right, parsed_again}
use Rattle.pdu.proofs.fields.PduTryFromFields.try_from.Goals as goal

pub returns : goal.returns
returns c =
    let f = c.args.fields in
    let n : c.unchecked_number-n.result ≡ unchecked_number f = c.unchecked_number-n.ensures.value in
    let whole : fit f ≡ true = sym c.fits.ensures ∙ c.if-not-fits.false in
    let check : c.from.result ≡ check_of (bytes_of c.unchecked_number-n.result) = c.from.ensures ∙ c.check-check.ensures.value ∙ ap (λ p. check_of p.bytes) c.from_number.ensures in
    let value = ap Ok (c.from_number-2.ensures ∙ ap (λ k. record { bytes = bytes_of (c.unchecked_number-n.result + k) }) check ∙ ap checked n) ∙ sym (composed_right f whole) in
    record { value = value; read_again = λ p e. parsed_again f p (sym value ∙ e) }
