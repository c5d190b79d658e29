use Rattle.std.proofs.Common.{Some, None, sym, refl, ap, ◌∙◌}
use Rattle.std.specs.Result.{result_ok}
use Rattle.reception.specs.Runs.{card_calls, monitor_events}
use Rattle.airing.proofs.Changes.{drawn_lawful}
use Rattle.reception.proofs.Passing.{passed}
use Rattle.reception.proofs.link.pass.Goals as goal

pub returns-in-Some : goal.returns-in-Some
returns-in-Some g c s a k =
    let m = g.F.Family.meaning in
    let laws = g.met.F.Family.keeps in
    let x = c.in-Some.frame in
    let drew = c.draw.ensures.drawn s (card_calls a) k.card_agrees in
    let is = sym c.in-Some.is ∙ drew.frame_is in
    let taken = c.offer.ensures.taken s (monitor_events a) k.monitor_agrees (drawn_lawful m s laws (card_calls a) x k.card_agrees.records_lawful (sym is)) in
    passed m laws s a c.draw.new.self c.offer.new.self (Some x) c.ok.result is (c.ok.ensures.value ∙ ap result_ok taken.answer_is) drew.agrees taken.agrees

pub returns-in-None : goal.returns-in-None
returns-in-None g c s a k =
    let drew = c.draw.ensures.drawn s (card_calls a) k.card_agrees in
    passed g.F.Family.meaning g.met.F.Family.keeps s a c.draw.new.self c.args.monitor.now None None (sym c.in-None.is ∙ drew.frame_is) refl drew.agrees k.monitor_agrees
