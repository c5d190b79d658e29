use Rattle.std.proofs.Common.{◌≡◌, Some, Ok, Option, sym, refl, ap, subst}
use Rattle.std.specs.Result.{result_ok}
use Rattle.pdu.specs.declared.pdu.Pdu.{Pdu}
use Rattle.transport.specs.Transport.{read_with}
use Rattle.transport.specs.Families.{families, lawful_in}
use Rattle.card.specs.Due.{contents_due}
use Rattle.air.specs.Runs.{card_calls}
use Rattle.air.proofs.link.Link.draw.Goals as goal

-- a buffer of ten bytes is not refused
pub returns-in_err-draw : goal.returns-in_err-draw
returns-in_err-draw g c n m e st a k =
    absurd (let s = (c.draw.ensures.due n m e st (card_calls a) k.card_agrees).answer_is in let was = c.in_err-draw.was in cc)

pub returns : goal.returns
returns g c n m e st a k =
    let f = families g.N.Family.meaning n g.M.Family.meaning m g.E.Family.meaning e in
    let s = c.draw.ensures.due n m e st (card_calls a) k.card_agrees in
    let due = contents_due f st (card_calls a) in
    let drawn : Pdu = record { bytes = c.draw.new.buffer } in
    record {
      answer_is = sym (s.pdu_is refl);
      accepted = (drawn, refl);
      linked = record {
        card_agrees = s.agrees;
        monitor_agrees = k.monitor_agrees;
        pdu_is = sym (ap result_ok (s.pdu_is refl));
        read_again = λ p is. (due, refl, (let same : drawn ≡ p = (let o : ◌≡◌ {A = Option Pdu} (Some drawn) (Some p) = is in cc) in subst (λ q. read_with (lawful_in f) q.bytes ≡ Ok due) same (s.read_again refl)));
      };
    }
