use Rattle.std.proofs.Common.{◌≡◌, ◌∷◌, Some, sym, subst, inl, rules}
use Rattle.transport.specs.Families.{families}
use Rattle.monitor.specs.Calls.{offer}
use Rattle.air.specs.Runs.{monitor, monitor_calls}
use Rattle.air.specs.Linked.{Heard}
use Rattle.air.proofs.Shown.{shows_texts}
use Rattle.air.proofs.link.Link.hear.Goals as goal

pub returns-clause-due : goal.returns-clause-due
returns-clause-due g c n m e st a k =
    let f = families g.N.Family.meaning n g.M.Family.meaning m g.E.Family.meaning e in
    let bs = c.in_ok-pdu.pdu.bytes in
    let is : c.args.self.now.pdu ≡ Some c.in_ok-pdu.pdu = search rules in
    let o = c.offer.ensures.due n m e (monitor_calls a) k.monitor_agrees in
    let copy = k.read_again c.in_ok-pdu.pdu is in
    subst (λ p. Heard f st a p c.offer.result (record { card = c.args.self.now.card; monitor = c.offer.new.self; pdu = c.args.self.now.pdu })) (sym is) (record {
      offered = search rules;
      relayed = λ r. (inl copy, r);
      shows = λ r. shows_texts f st (monitor (offer bs) ∷ a) g.met.N.Family.keeps g.met.M.Family.keeps g.met.E.Family.keeps c.args.self.now.card k.card_agrees (inl copy, r);
    })
