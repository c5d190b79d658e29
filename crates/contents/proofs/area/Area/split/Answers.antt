use Rattle.std.proofs.Common.{arith}
use Rattle.contents.proofs.Areas.{upper_small}
use Rattle.contents.proofs.area.Area.split.Goals as goal

pub returns-clause-small : goal.returns-clause-small
returns-clause-small c = upper_small c.args.self.bits c.args.self.width c.args.many (omega arith) c.args.self.fits
