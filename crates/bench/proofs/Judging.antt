-- The verdict, from the counts of a run.
use Rattle.std.proofs.Common.{◌≡◌, Bool, true, false, cond, ◌&&◌, eqb, leb, List, refl, arith}
use Rattle.std.proofs.lemmas.Bool.{eqb-true, leb-true, and_parts}
use Rattle.family.specs.Meaning.{Laws}
use Rattle.transport.specs.declared.head.Head.{Head}
use Rattle.transport.specs.Families.{Families}
use Rattle.card.specs.declared.station.Station.{Station}
use Rattle.air.specs.Runs.{Step}
use Rattle.air.proofs.Shown.{shows_texts}
use Rattle.bench.specs.declared.bench.Bench.{Bench}
use Rattle.bench.specs.declared.bench.Verdict.TheVariants.{Covered, NotCovered}
use Rattle.bench.specs.Ran.{Ran, ShowsAllChanges, few_at_each, verdict_on}

covered_if : (b : Bool) → cond b Covered NotCovered ≡ Covered → b ≡ true
covered_if true e = refl
covered_if false e = cc

module _ {N T M U E V : Type 0} (f : Families N T M U E V) (st : Station) (a : List (Step (Head T U V))) (b : Bench N M E T U V) where
  pub shows_all : Laws f.name.meaning → Laws f.message.meaning → Laws f.alert.meaning → Ran f st a b → verdict_on b.tally ≡ Covered → ShowsAllChanges f a
  shows_all names messages alerts k e =
      let t = b.tally in
      let c = t.changes in
      let parts = and_parts (eqb t.turned_accepted 0) (few_at_each c) (covered_if _ e) in
      let three = and_parts (leb c.name 3 && leb c.message 3) (leb c.alert 3) parts.1 in
      let two = and_parts (leb c.name 3) (leb c.message 3) three.0 in
      let s = shows_texts f st a names messages alerts b.link.card k.linked.card_agrees (k.relayed (eqb-true t.turned_accepted 0 parts.0)) in
      let in_name = leb-true c.name 3 two.0 in
      let in_message = leb-true c.message 3 two.1 in
      let in_alert = leb-true c.alert 3 three.1 in
      record {
        name = s.name.changes_shown (s.name.few_changes (omega (arith, k.name_changes)));
        message = s.message.changes_shown (s.message.few_changes (omega (arith, k.message_changes)));
        alert = s.alert.changes_shown (s.alert.few_changes (omega (arith, k.alert_changes)));
      }
