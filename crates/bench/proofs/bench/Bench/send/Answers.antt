use Rattle.std.proofs.Common.{◌∷◌, Some, None, sym, refl, ◌∙◌, subst}
use Rattle.transport.specs.Families.{families}
use Rattle.monitor.specs.Calls.{offer}
use Rattle.air.specs.Runs.{monitor}
use Rattle.air.specs.Linked.{Heard as HeardBy, SpoiltSo}
use Rattle.bench.specs.Ran.{SentSo}
use Rattle.bench.proofs.Sending.{sent_once, sent_twice, sent_turned}
use Rattle.bench.proofs.bench.Bench.send.Goals as goal

pub returns-in-Heard : goal.returns-in-Heard
returns-in-Heard g c = record {
  sent = λ n m e st a k is.
      let f = families g.N.Family.meaning n g.M.Family.meaning m g.E.Family.meaning e in
      let h = subst (λ o. HeardBy f st a o c.hear.result c.hear.new.self) is (c.hear.ensures.due n m e st a k) in
      subst (λ v. SentSo f st a c.args.pdu.bytes v (Some c.hear.result) None c.hear.new.self) (sym c.in-Heard.is) (sent_once f st a c.args.pdu c.hear.result c.hear.new.self h);
  tally = refl;
}

pub returns-in-Lost : goal.returns-in-Lost
returns-in-Lost g c = record {
  sent = λ n m e st a k is.
      let f = families g.N.Family.meaning n g.M.Family.meaning m g.E.Family.meaning e in
      subst (λ v. SentSo f st a c.args.pdu.bytes v None None c.args.self.now.link) (sym c.in-Lost.is) (record { first_is = refl; second_is = refl; linked = k; relayed = λ _ r. r });
  tally = refl;
}

pub returns-in-Doubled : goal.returns-in-Doubled
returns-in-Doubled g c = record {
  sent = λ n m e st a k is.
      let f = families g.N.Family.meaning n g.M.Family.meaning m g.E.Family.meaning e in
      let p = c.args.pdu in
      let one = subst (λ o. HeardBy f st a o c.hear-first.result c.hear-first.new.self) is (c.hear-first.ensures.due n m e st a k) in
      let still = one.offered.linked.pdu_is ∙ sym k.pdu_is ∙ is in
      let two = subst (λ o. HeardBy f st (monitor (offer p.bytes) ∷ a) o c.hear-second.result c.hear-second.new.self) still (c.hear-second.ensures.due n m e st (monitor (offer p.bytes) ∷ a) one.offered.linked) in
      subst (λ v. SentSo f st a p.bytes v (Some c.hear-first.result) (Some c.hear-second.result) c.hear-second.new.self) (sym c.in-Doubled.is)
      (sent_twice f st a p c.hear-first.result c.hear-second.result c.hear-first.new.self c.hear-second.new.self one two);
  tally = refl;
}

pub returns-in-Turned : goal.returns-in-Turned
returns-in-Turned g c = record {
  sent = λ n m e st a k is.
      let f = families g.N.Family.meaning n g.M.Family.meaning m g.E.Family.meaning e in
      let p = c.args.pdu in
      let s = subst (λ q. SpoiltSo f st a q.bytes c.hear_spoilt.result c.hear_spoilt.new.self) c.with_bit_turned-turned.ensures (c.hear_spoilt.ensures.due n m e st a k) in
      subst (λ v. SentSo f st a p.bytes v (Some c.hear_spoilt.result) None c.hear_spoilt.new.self) (sym c.in-Turned.is) (sent_turned f st a p c.in-Turned.bit c.hear_spoilt.result c.hear_spoilt.new.self s);
  tally = refl;
}
