use Rattle.family.specs.Texts.{record_view}
use Rattle.family.proofs.Records.{bytes_small}
use Rattle.airing.proofs.Steps.{accepted}
use Rattle.airing.proofs.place.Place.store.Goals as goal

pub returns-clause-accepted : goal.returns-clause-accepted
returns-clause-accepted g c s h k lawful =
    let e = c.accept.ensures in
    accepted g.F.Family.meaning s h c.args.self.now c.accept.new.self k g.met.F.Family.keeps (record_view c.args.record) c.accept.result lawful (bytes_small c.args.record.text) e.answer e.family e.current e.on_air
