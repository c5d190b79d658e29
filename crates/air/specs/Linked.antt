-- A card and a monitor after one run, and the PDU between them.
use Rattle.std.specs.Prelude.{◌≡◌, ℕ, List, ◌∷◌, Some, None, Ok, Err, Option, Result}
use Rattle.std.specs.Result.{result_ok}
use Rattle.pdu.specs.declared.refusal.Refusal.{Refusal}
use Rattle.pdu.specs.declared.refusal.Refusal.TheVariants.{NothingThere}
use Rattle.pdu.specs.declared.pdu.Pdu.{Pdu}
use Rattle.contents.specs.declared.contents.Contents.{Contents}
use Rattle.contents.specs.Contents.{encoded}
use Rattle.family.specs.Meaning.{Meaning, RecordOf}
use Rattle.transport.specs.declared.head.Head.{Head}
use Rattle.transport.specs.Transport.{read_with}
use Rattle.transport.specs.Families.{Families, families, lawful_in}
use Rattle.gatherer.specs.declared.answer.Answer.{Answer}
use Rattle.airing.specs.declared.stored.Stored.{Stored}
use Rattle.card.specs.declared.station.Station.{Station}
use Rattle.card.specs.Calls.{Call as CardCall, store, draw}
use Rattle.card.specs.Due.{contents_due, store_due}
use Rattle.card.specs.Agrees.{Agrees as CardAgrees}
use Rattle.monitor.specs.Calls.{offer}
use Rattle.monitor.specs.Due.{offer_due}
use Rattle.monitor.specs.Agrees.{Agrees as MonitorAgrees}
use Rattle.air.specs.declared.link.Link.{Link}
use Rattle.air.specs.Runs.{Step, card, monitor, card_calls, monitor_calls, contents_last_drawn, Relayed}
use Rattle.air.specs.Places.{ShowsTexts}

-- The PDU with these contents, if there are any.
abbrev pub pdu_of : Option Contents → Option Pdu
pdu_of None = None
pdu_of (Some c) = result_ok (encoded c)

-- The PDU drawn last.
abbrev pub pdu_last_drawn : {N T M U E V : Type 0} → Families N T M U E V → Station → List (CardCall (Head T U V)) → Option Pdu
pdu_last_drawn f st h = pdu_of (contents_last_drawn f st h)

-- Both ends are what the run leads to, with the same families, and the PDU between them is the one drawn last, which is read as it was written.
pub record Linked {N T M U E V : Type 0} (f : Families N T M U E V) (st : Station) (a : List (Step (Head T U V))) (l : Link N M E T U V) : Type 0 where
  pub card_agrees : CardAgrees f st (card_calls a) l.card
  pub monitor_agrees : MonitorAgrees f (monitor_calls a) l.monitor
  pub pdu_is : l.pdu ≡ pdu_last_drawn f st (card_calls a)
  pub read_again : (p : Pdu) → l.pdu ≡ Some p → (c : Contents) × (contents_last_drawn f st (card_calls a) ≡ Some c) × (read_with (lawful_in f) p.bytes ≡ Ok c)

-- What holds of a link whatever its families, its station and its run were, as long as it is what they lead to. A run is no part of a link, so a contract speaks of every run that leads to it.
abbrev pub InEveryHistory : {N T M U E V : Type 0} → Meaning N T → Meaning M U → Meaning E V → Link N M E T U V → (Families N T M U E V → Station → List (Step (Head T U V)) → Type 0) → Type 0
InEveryHistory {N} {T} {M} {U} {E} {V} nm mm em l P = (n : N) (m : M) (e : E) (st : Station) (a : List (Step (Head T U V))) → Linked (families nm n mm m em e) st a l → P (families nm n mm m em e) st a

-- A store at the card after a run.
pub record StoredSo {N T M U E V : Type 0} (f : Families N T M U E V) (st : Station) (a : List (Step (Head T U V))) (n : ℕ) (r : RecordOf (Head T U V)) (answer : Result Stored Refusal) (l : Link N M E T U V) : Type 0 where
  pub answer_is : answer ≡ store_due f (card_calls a) n r
  pub linked : Linked f st (card (store n r) ∷ a) l

-- A draw after a run: the PDU with the contents due.
pub record DrawnSo {N T M U E V : Type 0} (f : Families N T M U E V) (st : Station) (a : List (Step (Head T U V))) (answer : Result Pdu Refusal) (l : Link N M E T U V) : Type 0 where
  pub answer_is : answer ≡ encoded (contents_due f st (card_calls a))
  pub accepted : (p : Pdu) × (answer ≡ Ok p)
  pub linked : Linked f st (card (draw 10) ∷ a) l

-- An offer after a run, of the PDU drawn last or of other bytes.
pub record OfferedSo {N T M U E V : Type 0} (f : Families N T M U E V) (st : Station) (a : List (Step (Head T U V))) (bs : List ℕ) (answer : Result (Option Answer) Refusal) (l : Link N M E T U V) : Type 0 where
  pub answer_is : answer ≡ offer_due f (monitor_calls a) bs
  pub linked : Linked f st (monitor (offer bs) ∷ a) l

-- The monitor was offered the PDU drawn last: it is a copy, and what the monitor shows are the card's texts.
pub record HeardSo {N T M U E V : Type 0} (f : Families N T M U E V) (st : Station) (a : List (Step (Head T U V))) (p : Pdu) (answer : Result (Option Answer) Refusal) (l : Link N M E T U V) : Type 0 where
  pub offered : OfferedSo f st a p.bytes answer l
  pub relayed : Relayed f st a → Relayed f st (monitor (offer p.bytes) ∷ a)
  pub shows : Relayed f st a → ShowsTexts f (monitor (offer p.bytes) ∷ a)

-- What hearing comes to: refused where no PDU was drawn.
abbrev pub Heard : {N T M U E V : Type 0} → Families N T M U E V → Station → List (Step (Head T U V)) → Option Pdu → Result (Option Answer) Refusal → Link N M E T U V → Type 0
Heard f st a None answer l = (answer ≡ Err NothingThere) × Linked f st a l
Heard f st a (Some p) answer l = HeardSo f st a p answer l

-- Spoilt bytes were offered: where they are refused the run is still relayed, and the monitor shows the card's texts.
pub record SpoiltSo {N T M U E V : Type 0} (f : Families N T M U E V) (st : Station) (a : List (Step (Head T U V))) (bs : List ℕ) (answer : Result (Option Answer) Refusal) (l : Link N M E T U V) : Type 0 where
  pub offered : OfferedSo f st a bs answer l
  pub relayed : (e : Refusal) → answer ≡ Err e → Relayed f st a → Relayed f st (monitor (offer bs) ∷ a)
  pub shows : (e : Refusal) → answer ≡ Err e → Relayed f st a → ShowsTexts f (monitor (offer bs) ∷ a)
