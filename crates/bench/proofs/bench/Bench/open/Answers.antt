use Rattle.bench.proofs.bench.Bench.open.Goals as goal

pub returns : goal.returns
returns g c =
    let b = c.new.ensures in
    (b.ran c.args.name c.args.message c.args.alert c.args.station c.in_ok-card.ensures c.open-2.ensures, b.tally)
