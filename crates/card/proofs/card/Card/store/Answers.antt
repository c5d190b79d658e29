use Rattle.std.proofs.Common.{◌≡◌, None, ap, rules}
use Rattle.family.specs.Texts.{record_view}
use Rattle.transport.specs.Families.{families, name_place, message_place, alert_place, name_head, message_head, alert_head}
use Rattle.message.specs.Place.{place_with}
use Rattle.message.specs.declared.place.Place.TheVariants.{Name, Message, Alert}
use Rattle.transport.proofs.Places.{place_number_lem}
use Rattle.card.proofs.Storing.{stored_at, no_place}
use Rattle.card.proofs.card.Card.store.Goals as goal

pub returns-in-Name-Name-clause-due : goal.returns-in-Name-Name-clause-due
returns-in-Name-Name-clause-due g c n m e st h k =
    let f = families g.N.Family.meaning n g.M.Family.meaning m g.E.Family.meaning e in
    let s = stored_at (name_place f) h c.args.number (record_view c.args.record) c.in-Name-Name.head c.store.result c.args.self.now.name c.store.new.self
    (search rules) (ap name_head c.in-Name-Name.is-1) k.name_agrees c.store.ensures.refusal c.store.ensures.unchanged c.store.ensures.accepted in
    search rules

pub returns-in-Message-Message-clause-due : goal.returns-in-Message-Message-clause-due
returns-in-Message-Message-clause-due g c n m e st h k =
    let f = families g.N.Family.meaning n g.M.Family.meaning m g.E.Family.meaning e in
    let s = stored_at (message_place f) h c.args.number (record_view c.args.record) c.in-Message-Message.head c.store-in-Message-Message.result c.args.self.now.message c.store-in-Message-Message.new.self
    (search rules) (ap message_head c.in-Message-Message.is-1) k.message_agrees c.store-in-Message-Message.ensures.refusal c.store-in-Message-Message.ensures.unchanged c.store-in-Message-Message.ensures.accepted in
    search rules

pub returns-in-Alert-Alert-clause-due : goal.returns-in-Alert-Alert-clause-due
returns-in-Alert-Alert-clause-due g c n m e st h k =
    let f = families g.N.Family.meaning n g.M.Family.meaning m g.E.Family.meaning e in
    let s = stored_at (alert_place f) h c.args.number (record_view c.args.record) c.in-Alert-Alert.head c.store-in-Alert-Alert.result c.args.self.now.alert c.store-in-Alert-Alert.new.self
    (search rules) (ap alert_head c.in-Alert-Alert.is-1) k.alert_agrees c.store-in-Alert-Alert.ensures.refusal c.store-in-Alert-Alert.ensures.unchanged c.store-in-Alert-Alert.ensures.accepted in
    search rules

pub returns-in_default-clause-due : goal.returns-in_default-clause-due
returns-in_default-clause-due g c n m e st h k = let number = place_number_lem c.args.number Name (search rules) in search rules

pub returns-in_default-2-clause-due : goal.returns-in_default-2-clause-due
returns-in_default-2-clause-due g c n m e st h k = let number = place_number_lem c.args.number Message (search rules) in search rules

pub returns-in_default-3-clause-due : goal.returns-in_default-3-clause-due
returns-in_default-3-clause-due g c n m e st h k = let number = place_number_lem c.args.number Alert (search rules) in search rules

pub returns-in_err-try_from-clause-due : goal.returns-in_err-try_from-clause-due
returns-in_err-try_from-clause-due g c n m e st h k =
    let none : place_with c.args.number ≡ None = search rules in
    let name = no_place c.args.number Name none in
    let message = no_place c.args.number Message none in
    let alert = no_place c.args.number Alert none in
    search rules
