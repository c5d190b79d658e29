use Rattle.std.proofs.Common.{refl, ap, ap₂, ◌∙◌}
use Rattle.family.specs.Texts.{record_view}
use Rattle.transport.specs.Families.{families, name_place, message_place, alert_place}
use Rattle.bench.proofs.Counting.{refused_counts_none, counted_at}
use Rattle.bench.proofs.bench.Bench.store.Goals as goal

pub returns : goal.returns
returns g c =
    let t = c.args.self.now.tally in record {
      unchanged = λ x is.
          let link = c.store-answer.ensures.unchanged x is in
          let counted = c.count.ensures ∙ refused_counts_none c.args.number c.store-answer.result x t.changes is in
          ap₂ (λ v w. record { link = v; tally = record { drawn = t.drawn; lost = t.lost; doubled = t.doubled; turned = t.turned; turned_accepted = t.turned_accepted; changes = w } }) link counted;
      due = λ n m e st a k.
          let f = families g.N.Family.meaning n g.M.Family.meaning m g.E.Family.meaning e in
          let r = record_view c.args.record in
          let s = c.store-answer.ensures.due n m e st a k.linked in
          let counted = c.count.ensures in
          record {
            answer_is = s.answer_is;
            ran = record {
              linked = s.linked;
              relayed = k.relayed;
              name_changes = ap (λ x. x.name) counted ∙ counted_at f a c.args.number r c.store-answer.result s.answer_is (name_place f) refl t.changes.name k.name_changes;
              message_changes = ap (λ x. x.message) counted ∙ counted_at f a c.args.number r c.store-answer.result s.answer_is (message_place f) refl t.changes.message k.message_changes;
              alert_changes = ap (λ x. x.alert) counted ∙ counted_at f a c.args.number r c.store-answer.result s.answer_is (alert_place f) refl t.changes.alert k.alert_changes;
            };
          };
      tally = ap (λ v. record { drawn = t.drawn; lost = t.lost; doubled = t.doubled; turned = t.turned; turned_accepted = t.turned_accepted; changes = v }) c.count.ensures;
    }
