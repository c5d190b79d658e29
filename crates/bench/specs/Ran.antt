-- A bench after a run, and what the run has shown.
use Rattle.std.specs.Prelude.{◌≡◌, ℕ, Bool, false, cond, ◌&&◌, List, [], ◌∷◌, length, Some, None, Ok, Err, Option, Result, ◌==◌, nat_le}
use Rattle.pdu.specs.declared.refusal.Refusal.{Refusal}
use Rattle.pdu.specs.declared.refusal.Refusal.TheVariants.{OutOfRange}
use Rattle.pdu.specs.declared.pdu.Pdu.{Pdu}
use Rattle.contents.specs.Contents.{encoded}
use Rattle.family.specs.Meaning.{Meaning, RecordOf}
use Rattle.transport.specs.declared.head.Head.{Head}
use Rattle.transport.specs.Families.{Families, families, PlaceOf, lawful_in, name_place, message_place, alert_place}
use Rattle.airing.specs.declared.stored.Stored.{Stored}
use Rattle.airing.specs.Calls.{changes}
use Rattle.reception.specs.Order.{ShowsChanges}
use Rattle.card.specs.Calls.{store, draw, calls_at}
use Rattle.card.specs.declared.station.Station.{Station}
use Rattle.card.specs.Due.{station_fits, store_due, contents_due}
use Rattle.gatherer.specs.declared.answer.Answer.{Answer}
use Rattle.monitor.specs.Calls.{Call as MonitorCall, offer, hearings, events_at}
use Rattle.monitor.specs.Due.{offer_due}
use Rattle.air.specs.Runs.{Step, card, monitor, card_calls, monitor_calls, Relayed}
use Rattle.air.specs.declared.link.Link.{Link}
use Rattle.air.specs.Linked.{Linked}
use Rattle.bench.specs.declared.bench.Bench.{Bench}
use Rattle.bench.specs.declared.bench.Passage.{Passage}
use Rattle.bench.specs.declared.bench.Verdict.{Verdict}
use Rattle.bench.specs.declared.bench.Verdict.TheVariants.{Covered, NotCovered}
use Rattle.fading.specs.declared.fade.Fade.{Fade}
use Rattle.fading.specs.declared.fade.Fade.TheVariants.{Heard, Lost, Doubled, Turned}
use Rattle.bench.specs.declared.tally.Changes.{Changes}
use Rattle.bench.specs.declared.tally.Tally.{Tally}
use Rattle.bench.specs.Counts.{stopped, is_turned, is_accepted, nothing_counted}
use Rattle.fading.specs.Fades.{bit_turned}

-- How many changes a place had in a run.
abbrev pub changes_in : {S X R : Type 0} → PlaceOf S X R → List (Step R) → ℕ
changes_in p a = length (changes (calls_at p (card_calls a)))

-- Both ends are what the run leads to; the monitor heard nothing but this card, unless a turned PDU was accepted; and the changes are counted.
pub record Ran {N T M U E V : Type 0} (f : Families N T M U E V) (st : Station) (a : List (Step (Head T U V))) (b : Bench N M E T U V) : Type 0 where
  pub linked : Linked f st a b.link
  pub relayed : b.tally.turned_accepted ≡ 0 → Relayed f st a
  pub name_changes : b.tally.changes.name ≡ stopped (changes_in (name_place f) a)
  pub message_changes : b.tally.changes.message ≡ stopped (changes_in (message_place f) a)
  pub alert_changes : b.tally.changes.alert ≡ stopped (changes_in (alert_place f) a)

-- What holds of a bench whatever its families, its station and its run were, as long as it is what they lead to.
abbrev pub InEveryHistory : {N T M U E V : Type 0} → Meaning N T → Meaning M U → Meaning E V → Bench N M E T U V → (Families N T M U E V → Station → List (Step (Head T U V)) → Type 0) → Type 0
InEveryHistory {N} {T} {M} {U} {E} {V} nm mm em b P = (n : N) (m : M) (e : E) (st : Station) (a : List (Step (Head T U V))) → Ran (families nm n mm m em e) st a b → P (families nm n mm m em e) st a

-- What opening comes to: a bench with nothing done where all fields of the station are in range, and else a refusal.
abbrev pub Opened : {N T M U E V : Type 0} → Families N T M U E V → Station → Result (Bench N M E T U V) Refusal → Type 0
Opened f st (Ok b) = Ran f st [] b × (b.tally ≡ nothing_counted)
Opened f st (Err e) = (station_fits st ≡ false) × (e ≡ OutOfRange)

-- A store at the bench after a run.
pub record StoredSo {N T M U E V : Type 0} (f : Families N T M U E V) (st : Station) (a : List (Step (Head T U V))) (n : ℕ) (r : RecordOf (Head T U V)) (answer : Result Stored Refusal) (b : Bench N M E T U V) : Type 0 where
  pub answer_is : answer ≡ store_due f (card_calls a) n r
  pub ran : Ran f st (card (store n r) ∷ a) b

-- What the monitor is offered of a PDU that meets a fade, the latest first.
abbrev pub offers_of : Fade → List ℕ → List (List ℕ)
offers_of Heard bs = bs ∷ []
offers_of Lost bs = []
offers_of Doubled bs = bs ∷ bs ∷ []
offers_of (Turned bit) bs = bit_turned bit bs ∷ []

-- A run in which these bytes were offered last.
abbrev pub with_offers : {R : Type 0} → List (List ℕ) → List (Step R) → List (Step R)
with_offers [] a = a
with_offers (bs ∷ more) a = monitor (offer bs) ∷ with_offers more a

-- The run a, then a draw, and what the fade leaves of its PDU.
abbrev pub passed_run : {R : Type 0} → Fade → Pdu → List (Step R) → List (Step R)
passed_run fade p a = with_offers (offers_of fade p.bytes) (card (draw 10) ∷ a)

-- The answers due to the copies of a PDU, after the monitor's calls h.
abbrev pub first_due : {N T M U E V : Type 0} → Families N T M U E V → List MonitorCall → Fade → List ℕ → Option (Result (Option Answer) Refusal)
first_due f h Heard bs = Some (offer_due f h bs)
first_due f h Lost bs = None
first_due f h Doubled bs = Some (offer_due f h bs)
first_due f h (Turned bit) bs = Some (offer_due f h (bit_turned bit bs))

abbrev pub second_due : {N T M U E V : Type 0} → Families N T M U E V → List MonitorCall → Fade → List ℕ → Option (Result (Option Answer) Refusal)
second_due f h Heard bs = None
second_due f h Lost bs = None
second_due f h Doubled bs = Some (offer_due f (offer bs ∷ h) bs)
second_due f h (Turned bit) bs = None

-- The monitor was offered what a fade leaves of the PDU drawn last; where no turned PDU is accepted, the run is still relayed.
pub record SentSo {N T M U E V : Type 0} (f : Families N T M U E V) (st : Station) (a : List (Step (Head T U V))) (bs : List ℕ) (fade : Fade) (first second : Option (Result (Option Answer) Refusal)) (l : Link N M E T U V) : Type 0 where
  pub first_is : first ≡ first_due f (monitor_calls a) fade bs
  pub second_is : second ≡ second_due f (monitor_calls a) fade bs
  pub linked : Linked f st (with_offers (offers_of fade bs) a) l
  pub relayed : (is_turned fade && is_accepted first) ≡ false → Relayed f st a → Relayed f st (with_offers (offers_of fade bs) a)

-- One PDU was drawn after a run and met a fade.
pub record PassedSo {N T M U E V : Type 0} (f : Families N T M U E V) (st : Station) (a : List (Step (Head T U V))) (fade : Fade) (answer : Result Passage Refusal) (b : Bench N M E T U V) : Type 0 where
  pub passage : Passage
  pub answer_is : answer ≡ Ok passage
  pub pdu_is : encoded (contents_due f st (card_calls a)) ≡ Ok passage.pdu
  pub fade_is : passage.fade ≡ fade
  pub first_is : passage.first ≡ first_due f (monitor_calls a) fade passage.pdu.bytes
  pub second_is : passage.second ≡ second_due f (monitor_calls a) fade passage.pdu.bytes
  pub ran : Ran f st (passed_run fade passage.pdu a) b

-- What was newly shown at a place are the texts of its changes, in their order, each change at most once.
abbrev pub ShowsItsChanges : {N T M U E V S X : Type 0} → Families N T M U E V → PlaceOf S X (Head T U V) → List (Step (Head T U V)) → Type 0
ShowsItsChanges f p a = ShowsChanges p.family.meaning p.family.setting (changes (calls_at p (card_calls a))) (events_at p.place (hearings (lawful_in f) (monitor_calls a)))

-- So it is at the three places.
pub record ShowsAllChanges {N T M U E V : Type 0} (f : Families N T M U E V) (a : List (Step (Head T U V))) : Type 0 where
  pub name : ShowsItsChanges f (name_place f) a
  pub message : ShowsItsChanges f (message_place f) a
  pub alert : ShowsItsChanges f (alert_place f) a

-- Whether no place had more than three changes.
abbrev pub few_at_each : Changes → Bool
few_at_each c = (nat_le c.name 3 && nat_le c.message 3) && nat_le c.alert 3

-- The verdict by the counts: no turned PDU was accepted, and no place had more than three changes.
abbrev pub verdict_on : Tally → Verdict
verdict_on t = cond (t.turned_accepted == 0 && few_at_each t.changes) Covered NotCovered
