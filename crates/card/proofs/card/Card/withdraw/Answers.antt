use Rattle.std.proofs.Common.{rules}
use Rattle.message.specs.declared.place.Place.TheVariants.{Message, Alert}
use Rattle.transport.proofs.Places.{place_number_lem}
use Rattle.card.proofs.card.Card.withdraw.Goals as goal

pub returns-in-Message-clause-agrees : goal.returns-in-Message-clause-agrees
returns-in-Message-clause-agrees g c n m e st h k = let number = place_number_lem c.args.number Message (search rules) in search rules

pub returns-in-Alert-clause-agrees : goal.returns-in-Alert-clause-agrees
returns-in-Alert-clause-agrees g c n m e st h k = let number = place_number_lem c.args.number Alert (search rules) in search rules
