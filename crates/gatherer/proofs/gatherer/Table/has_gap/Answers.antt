use Rattle.std.proofs.Common.{◌≡◌, true, false, None, get_or, take, sym, ap, ◌∙◌, arith, rules}
use Rattle.std.specs.Option.{is_none}
use Rattle.std.proofs.lemmas.List.{get_or-take}
use Rattle.gatherer.proofs.Slots.{unbroken_more, gap_below}
use Rattle.gatherer.proofs.gatherer.Table.has_gap.Goals as goal

pub returns-then-is_none : goal.returns-then-is_none
returns-then-is_none c =
    let n = c.args.count in
    let i = c.loop-i.i in
    let at = get_or-take n c.args.self.now.slots i None (omega arith) in
    let empty : is_none (get_or (take n c.args.self.now.slots) i None) ≡ true = search rules in
    gap_below c.args.self.now n i (omega arith) (ap is_none (sym at) ∙ empty)

pub loop-i-preserved : goal.loop-i-preserved
loop-i-preserved c =
    let n = c.args.count in
    let i = c.loop-i.i in
    let at = get_or-take n c.args.self.now.slots i None (omega arith) in
    let held : is_none (get_or (take n c.args.self.now.slots) i None) ≡ false = search rules in
    unbroken_more c.args.self.now i c.loop-i.invariant (ap is_none (sym at) ∙ held)
