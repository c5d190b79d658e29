use Rattle.std.proofs.Common.{take, None, sym, ap, ◌∙◌, arith}
use Rattle.std.proofs.lemmas.List.{get_or-take}
use Rattle.std.specs.Prelude.{option_map}
use Rattle.gatherer.proofs.Slots.{held_none}
use Rattle.gatherer.proofs.gatherer.Table.frames_below.Goals as goal

pub returns-in_err-frames : goal.returns-in_err-frames
returns-in_err-frames c =
    let n = c.args.count in
    ap (option_map (take n)) c.from_residual.ensures ∙ sym (held_none c.args.self.now n c.loop-i.i (omega arith) (sym (get_or-take n c.args.self.now.slots c.loop-i.i None (omega arith)) ∙ c.in_err-frames.was))
