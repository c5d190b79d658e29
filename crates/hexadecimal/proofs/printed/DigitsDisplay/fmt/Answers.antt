use Rattle.std.proofs.Common.{◌+◌, ◌++◌, Ok, get_or, take, [], sym, refl, ap, arith, ◌∙◌, subst}
use Rattle.std.proofs.lemmas.List.{take_more, flat_map_more}
use Rattle.std.proofs.Output.{has_written_append, has_written_of_eq}
use Rattle.std.specs.Fmt.{DisplaysOnOk}
use Rattle.hexadecimal.specs.Printed.{digits_of, byte_digits}
use Rattle.hexadecimal.proofs.Printing.{printed_byte}
use Rattle.hexadecimal.proofs.printed.DigitsDisplay.fmt.Goals as goal

pub loop-byte-preserved : goal.loop-byte-preserved
loop-byte-preserved g c p =
    let xs = c.args.self.now.0.now in
    let i = c.loop-byte.byte-index in
    let b = get_or xs i 0 in
    let before = c.loop-byte.invariant p in
    let one = printed_byte b _ c.laid_out.result _ (omega arith) c.in_radix.ensures c.laid_out.ensures in
    let written = subst (λ o. DisplaysOnOk g.W.Write.write_str_gives c.loop-byte.f (Ok c.in_ok-write.field-0) o c.write.new.self) one c.in_ok-write.ensures.writes in
    has_written_of_eq _ c.args.f.now (digits_of (take i xs) ++ byte_digits b) (digits_of (take (i + 1) xs)) c.write.new.self (flat_map_more byte_digits [] (take i xs) b ∙ ap digits_of (sym (take_more xs i 0 c.loop-byte-test.true)))
    (has_written_append _ c.args.f.now (digits_of (take i xs)) c.loop-byte.f (byte_digits b) c.write.new.self before (written before.plain refl))
