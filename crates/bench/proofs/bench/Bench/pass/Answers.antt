use Rattle.std.proofs.Common.{◌≡◌, ◌∷◌, None, Ok, Err, sym, refl, ap, ◌∙◌}
use Rattle.std.specs.Result.{result_ok}
use Rattle.transport.specs.Families.{families}
use Rattle.card.specs.Calls.{draw}
use Rattle.air.specs.Runs.{card}
use Rattle.bench.specs.Counts.{tally_after_pdu}
use Rattle.bench.proofs.Sending.{passed}
use Rattle.bench.proofs.bench.Bench.pass.Goals as goal

pub returns : goal.returns
returns g c = record {
  due = λ n m e st a k.
      let f = families g.N.Family.meaning n g.M.Family.meaning m g.E.Family.meaning e in
      let p = c.in_ok-pdu.pdu in
      let d = c.draw.ensures n m e st a k.linked in
      let drawn = sym d.answer_is ∙ c.in_ok-pdu.was in
      let s = c.send-first.ensures.sent n m e st (card (draw 10) ∷ a) d.linked (d.linked.pdu_is ∙ ap result_ok drawn) in
      record {
        passage = record { pdu = p; fade = c.args.fade; first = c.send-first.result.0; second = c.send-first.result.1 };
        answer_is = refl;
        pdu_is = drawn;
        fade_is = refl;
        first_is = s.first_is;
        second_is = s.second_is;
        ran = passed f st a c.args.fade p c.send-first.result.0 c.send-first.result.1 c.args.self.now (record { link = c.send-first.new.self.link; tally = c.count.new.self }) k s (c.count.ensures ∙ ap (tally_after_pdu c.args.fade c.send-first.result.0) c.send-first.ensures.tally);
      };
  tally = λ q is.
      let same : c.send-first.result.0 ≡ q.first = ap (λ r. elim r [ Ok v ↦ v.first | Err x ↦ None ]) is in
      c.count.ensures ∙ ap (tally_after_pdu c.args.fade c.send-first.result.0) c.send-first.ensures.tally ∙ ap (λ o. tally_after_pdu c.args.fade o c.args.self.now.tally) same;
}
