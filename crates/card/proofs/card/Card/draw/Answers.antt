use Rattle.std.proofs.Common.{arith}
use Rattle.transport.specs.Families.{families}
use Rattle.card.proofs.Drawing.{refused, drew}
use Rattle.card.proofs.card.Card.draw.Goals as goal

pub returns-then-buffer-ne10-clause-due : goal.returns-then-buffer-ne10-clause-due
returns-then-buffer-ne10-clause-due g c n m e st h k =
    refused (families g.N.Family.meaning n g.M.Family.meaning m g.E.Family.meaning e) st h g.met.N.Family.keeps g.met.M.Family.keeps g.met.E.Family.keeps c.args.buffer.now c.args.self.now (λ ten. omega arith) k

pub returns-clause-due : goal.returns-clause-due
returns-clause-due g c n m e st h k =
    drew (families g.N.Family.meaning n g.M.Family.meaning m g.E.Family.meaning e) st h g.met.N.Family.keeps g.met.M.Family.keeps g.met.E.Family.keeps c.args.buffer.now c.write.new.buffer c.write.result
    c.args.self.now c.next_contents-contents.new.self c.next_contents-contents.result (omega arith) k (c.next_contents-contents.ensures.due n m e st h k) (c.next_contents-contents.ensures.agrees n m e st h k)
    c.write.ensures.value c.write.ensures.after c.write.ensures.read_again
