use Rattle.std.proofs.Common.{◌≡◌, sym, rules}
use Rattle.transport.specs.Families.{families}
use Rattle.bench.specs.Ran.{verdict_on}
use Rattle.bench.specs.declared.bench.Verdict.TheVariants.{Covered}
use Rattle.bench.proofs.Judging.{shows_all}
use Rattle.bench.proofs.bench.Bench.verdict.Goals as goal

pub returns-then-are_few : goal.returns-then-are_few
returns-then-are_few g c =
    let value : Covered ≡ verdict_on c.args.self.now.tally = search rules in
    record { value = value; shows = λ n m e st a k is. shows_all (families g.N.Family.meaning n g.M.Family.meaning m g.E.Family.meaning e) st a c.args.self.now g.met.N.Family.keeps g.met.M.Family.keeps g.met.E.Family.keeps k (sym value) }
