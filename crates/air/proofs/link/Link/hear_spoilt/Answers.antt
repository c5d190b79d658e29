use Rattle.std.proofs.Common.{◌∷◌, sym, ◌∙◌, inr, rules}
use Rattle.transport.specs.Families.{families}
use Rattle.monitor.specs.Calls.{offer}
use Rattle.air.specs.Runs.{monitor, monitor_calls}
use Rattle.air.proofs.Shown.{shows_texts, not_read}
use Rattle.air.proofs.link.Link.hear_spoilt.Goals as goal

pub returns-clause-due : goal.returns-clause-due
returns-clause-due g c n m e st a k =
    let f = families g.N.Family.meaning n g.M.Family.meaning m g.E.Family.meaning e in
    let bs = c.args.bytes.now in
    let o = c.offer.ensures.due n m e (monitor_calls a) k.monitor_agrees in
    record {
      offered = search rules;
      relayed = λ x is r. (inr (x, not_read f (monitor_calls a) bs x (sym o.answer_is ∙ is)), r);
      shows = λ x is r. shows_texts f st (monitor (offer bs) ∷ a) g.met.N.Family.keeps g.met.M.Family.keeps g.met.E.Family.keeps c.args.self.now.card k.card_agrees (inr (x, not_read f (monitor_calls a) bs x (sym o.answer_is ∙ is)), r);
    }
