use Rattle.std.proofs.Common.{Ok, ap, ◌∙◌, rules}
use Rattle.contents.proofs.Fitting.{taken_is}
use Rattle.contents.proofs.contents.Contents.read.Goals as goal

pub returns : goal.returns
returns c =
    let p = c.in_ok-pdu.pdu in
    let same = taken_is c.args.bytes.now p c.in_ok-pdu.ensures in
    record { value = search rules; written_again = λ d e. c.try_from-2.ensures.written_again d e ∙ ap Ok same }
