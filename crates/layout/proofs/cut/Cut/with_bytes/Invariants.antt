use Rattle.std.proofs.Common.{◌≡◌}
use Rattle.layout.specs.Frames.{with_bytes}
use Rattle.layout.proofs.cut.Cut.with_bytes.Given as goal

abbrev pub invariant-loop-i : goal.invariant-loop-i
invariant-loop-i l = l.packed ≡ with_bytes l.leading l.self.layout.byte_bits l.self.text.now l.place l.i
