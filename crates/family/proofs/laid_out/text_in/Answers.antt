use Rattle.std.proofs.Common.{◌-◌, sym, subst, arith}
use Rattle.layout.proofs.Reading.{text_small}
use Rattle.family.specs.Meaning.{Bytes}
use Rattle.family.proofs.Padded.{padded_long, padded_small}
use Rattle.family.proofs.laid_out.text_in.Goals as goal

pub invariant_of-result-clause-whole : goal.invariant_of-result-clause-whole
invariant_of-result-clause-whole c = padded_long (c.args.length - 0) c.read_text.new.text (omega arith) (omega (arith, c.read_text.auto.text))

pub invariant_of-result-clause-small : goal.invariant_of-result-clause-small
invariant_of-result-clause-small c = padded_small (c.args.length - 0) c.read_text.new.text (subst Bytes (sym c.read_text.ensures) (λ i. text_small c.args.frames.now.layout c.args.frames.now.frames.now _ i c.args.frames.now.fits))
