use Rattle.std.proofs.Common.{◌≡◌, ℕ, Some, Option, Result, sym, refl, ap, ◌∙◌}
use Rattle.std.specs.Result.{result_ok}
use Rattle.family.specs.Meaning.{Meaning, count_due, frame_due}
use Rattle.family.specs.Texts.{record_view}
use Rattle.pdu.specs.declared.refusal.Refusal.{Refusal}
use Rattle.airing.specs.declared.place.Current.{Current}
use Rattle.airing.specs.Agrees.{aired_in}
use Rattle.airing.proofs.Steps.{nothing_drawn, refused_none, drew}
use Rattle.airing.proofs.place.Place.draw.Goals as goal

pub returns-in_err-current-clause-drawn : goal.returns-in_err-current-clause-drawn
returns-in_err-current-clause-drawn g c s h k =
    nothing_drawn g.F.Family.meaning s h c.args.self.now k g.met.F.Family.keeps c.from_residual.result c.from_residual.ensures (sym c.record_on_air.ensures ∙ c.in_err-current.was)

pub returns-in_err-count-clause-drawn : goal.returns-in_err-count-clause-drawn
returns-in_err-count-clause-drawn g c s h k =
    let aired : aired_in c.args.self.now.current ≡ Some c.in_ok-current.current = sym c.record_on_air.ensures ∙ c.in_ok-current.was in
    let counted : c.ok.result ≡ result_ok (count_due g.F.Family.meaning c.args.self.now.family (record_view c.in_ok-current.current.«record»)) = c.ok.ensures.value ∙ ap result_ok c.frame_count.ensures in
    absurd ((refused_none g.F.Family.meaning s h c.args.self.now k g.met.F.Family.keeps c.in_ok-current.current aired).0 (sym counted ∙ c.in_err-count.was))

-- the frame that the family gives
given : {S T : Type 0} (m : Meaning S T) (f : S) (v : Current T) (r : Result ℕ Refusal) (o : Option ℕ) → r ≡ frame_due m f (record_view v.«record») v.sequence v.next → o ≡ result_ok r → o ≡ result_ok (frame_due m f (record_view v.«record») v.sequence v.next)
given m f v r o e n = n ∙ ap result_ok e

pub returns-in_err-frame-clause-drawn : goal.returns-in_err-frame-clause-drawn
returns-in_err-frame-clause-drawn g c s h k =
    let aired : aired_in c.args.self.now.current ≡ Some c.in_ok-current.current = sym c.record_on_air.ensures ∙ c.in_ok-current.was in
    let v = c.in_ok-current.current in
    let e = given g.F.Family.meaning c.args.self.now.family v c.frame.result c.ok-2.result c.frame.ensures c.ok-2.ensures.value in
    absurd ((refused_none g.F.Family.meaning s h c.args.self.now k g.met.F.Family.keeps v aired).1 (sym e ∙ c.in_err-frame.was))

pub returns-clause-drawn : goal.returns-clause-drawn
returns-clause-drawn g c s h k =
    let p = c.args.self.now in
    let v = c.in_ok-current.current in
    let aired : aired_in p.current ≡ Some v = sym c.record_on_air.ensures ∙ c.in_ok-current.was in
    let counted : c.ok.result ≡ result_ok (count_due g.F.Family.meaning p.family (record_view v.«record»)) = c.ok.ensures.value ∙ ap result_ok c.frame_count.ensures in
    let e = given g.F.Family.meaning p.family v c.frame.result c.ok-2.result c.frame.ensures c.ok-2.ensures.value in
    drew g.F.Family.meaning s h p (record { family = p.family; current = Some (record { «record» = v.«record»; sequence = v.sequence; next = c.successor.result; on_air = v.on_air }) }) k g.met.F.Family.keeps v c.in_ok-count.count c.in_ok-frame.frame aired (sym counted ∙ c.in_ok-count.was) (sym e ∙ c.in_ok-frame.was) refl
    (ap (λ (j : ℕ). Some (record { «record» = record_view v.«record»; sequence = v.sequence; next = j })) c.successor.ensures) refl
