use Rattle.std.proofs.Common.{◌≡◌, ℕ, true, ◌∷◌, Ok, sym, ◌∙◌, subst, arith}
use Rattle.family.specs.Meaning.{Fit}
use Rattle.family.specs.Texts.{record_view}
use Rattle.family.proofs.Records.{bytes_small}
use Rattle.gatherer.specs.Series.{accepted}
use Rattle.gatherer_tests.specs.Two.{meaning_of_two}
use Rattle.gatherer_tests.specs.LawsOfTwo.{keeps}
use Rattle.gatherer_tests.proofs.Pair.{given, both_heard}
use Rattle.gatherer_tests.proofs.both.head_after_both.Goals as goal

pub returns : goal.returns
returns c s h k head e =
    let r = record_view c.args.record.now in
    let q = c.args.sequence in
    let a = c.in_ok-first.first in
    let b = c.in_ok-second.second in
    let first = given s r q 0 a (sym c.frame.ensures ∙ c.in_ok-first.was) in
    let second = given s r q 1 b (sym c.frame-2.ensures ∙ c.in_ok-second.was) in
    let fit : Fit meaning_of_two s r q = record { record_fits = first.0; bytes_fit = bytes_small c.args.record.now.text; sequence_fits = first.1 } in
    let lawful_a : meaning_of_two.lawful s a ≡ true = subst (λ (x : ℕ). meaning_of_two.lawful s x ≡ true) (sym first.2) (keeps.cut_lawful s r q 0 fit (omega arith)) in
    let lawful_b : meaning_of_two.lawful s b ≡ true = subst (λ (x : ℕ). meaning_of_two.lawful s x ≡ true) (sym second.2) (keeps.cut_lawful s r q 1 fit (omega arith)) in
    let then = c.offer.ensures.taken s h k lawful_b in
    let both = c.offer-2.ensures.taken s (accepted b ∷ h) then.agrees lawful_a in
    let shown : c.shown_head.result ≡ Ok r.head = (c.shown_head.ensures s (accepted a ∷ accepted b ∷ h) both.agrees).heard r (both_heard s h r q a b fit first.2 second.2) in
    cc
