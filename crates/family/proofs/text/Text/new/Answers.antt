use Rattle.std.proofs.Common.{◌-◌, length, sym, subst, arith}
use Rattle.family.specs.Meaning.{Bytes}
use Rattle.family.proofs.Padded.{padded_long, padded_small}
use Rattle.family.proofs.text.Text.new.Goals as goal

pub invariant_of-result-clause-whole : goal.invariant_of-result-clause-whole
invariant_of-result-clause-whole c = padded_long (length c.args.bytes.now - 0) c.copy_from_slice.new.self (omega arith) (omega (arith, c.copy_from_slice.ensures.len, c.copy_from_slice.auto.self))

pub invariant_of-result-clause-small : goal.invariant_of-result-clause-small
invariant_of-result-clause-small c =
    let s : Bytes c.args.bytes.now = λ i. omega (arith, c.type_inv.bytes i) in
    padded_small (length c.args.bytes.now - 0) c.copy_from_slice.new.self (subst Bytes (sym c.copy_from_slice.ensures.after) s)
