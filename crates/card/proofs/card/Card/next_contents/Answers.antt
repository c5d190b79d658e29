use Rattle.std.proofs.Common.{rules}
use Rattle.transport.specs.Families.{families}
use Rattle.card.proofs.Turning.{turned}
use Rattle.card.proofs.card.Card.next_contents.Goals as goal

pub returns-clause-agrees : goal.returns-clause-agrees
returns-clause-agrees g c n m e st h k =
    turned (families g.N.Family.meaning n g.M.Family.meaning m g.E.Family.meaning e) st h c.args.self.now c.next_frame-frame.new.self k
    c.next_frame-frame.result c.next-self.result (c.next_frame-frame.ensures.taken n m e st h k) c.next_frame-frame.ensures.turn c.next_frame-frame.ensures.station c.next-self.ensures

pub returns-clause-due : goal.returns-clause-due
returns-clause-due g c n m e st h k = let taken = c.next_frame-frame.ensures.taken n m e st h k in search rules
