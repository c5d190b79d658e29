use Rattle.std.proofs.Common.{◌≡◌, ◌+◌, get_or, arith, rules}
use Rattle.layout.proofs.Packing.{packed_below}
use Rattle.layout.proofs.cut.Cut.with_bytes.Goals as goal

pub overflow_mul-packed : goal.overflow_mul-packed
overflow_mul-packed c =
    let b = packed_below c.args.leading c.args.self.now.layout.byte_bits c.args.self.now.text.now c.args.place c.args.count c.loop-i.i c.loop-i.packed c.args.self.now.cuttable.layout_fits.byte_bits_few c.args.self.now.cuttable.bytes_fit c.loop-i-test.true c.requires.room c.loop-i.invariant in
    record { fits = omega (arith, b) }

pub overflow_add-packed : goal.overflow_add-packed
overflow_add-packed c =
    let b = packed_below c.args.leading c.args.self.now.layout.byte_bits c.args.self.now.text.now c.args.place c.args.count c.loop-i.i c.loop-i.packed c.args.self.now.cuttable.layout_fits.byte_bits_few c.args.self.now.cuttable.bytes_fit c.loop-i-test.true c.requires.room c.loop-i.invariant in
    let e : c.from.result ≡ get_or c.args.self.now.text.now (c.args.place + c.loop-i.i) 0 = search rules in
    record { fits = omega (arith, b, e) }
