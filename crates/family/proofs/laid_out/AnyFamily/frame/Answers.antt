use Rattle.std.proofs.Common.{arith}
use Rattle.family.proofs.Records.{counted, near, frame_due_lem}
use Rattle.family.proofs.laid_out.AnyFamily.frame.Goals as goal

pub frame-requires : goal.frame-requires
frame-requires g c =
    let l = g.L.FamilyLayout.layout in
    let s = c.args.self.now in
    let r = c.args.record.now in
    let q = c.args.sequence in
    let ok = counted l s r c.frame_count.result c.in_ok-count.count c.frame_count.ensures c.in_ok-count.was in
    record { near = near l s r g.met.L.FamilyLayout.sound q c.args.i ok.0 (omega (arith, c.MODULUS.ensures, g.met.L.FamilyLayout.modulus_is)) (omega (arith, ok.1)) }

pub returns : goal.returns
returns g c =
    let l = g.L.FamilyLayout.layout in
    let s = c.args.self.now in
    let r = c.args.record.now in
    let q = c.args.sequence in
    let ok = counted l s r c.frame_count.result c.in_ok-count.count c.frame_count.ensures c.in_ok-count.was in
    frame_due_lem l s r q c.args.i c.frame.result c.cut.result ok.0 (omega (arith, c.MODULUS.ensures, g.met.L.FamilyLayout.modulus_is)) (omega (arith, ok.1)) c.cut.ensures.layout c.cut.ensures.fields c.cut.ensures.text c.frame.ensures
