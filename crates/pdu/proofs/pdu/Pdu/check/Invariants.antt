use Rattle.std.proofs.Common.{◌≡◌, ◌<◌}
use Rattle.pdu.specs.Check.{coefficient, down_from, check_of}
use Rattle.pdu.specs.Division.{divided}
use Rattle.pdu.proofs.pdu.Pdu.check.Given as goal

-- What is left to do gives the check.
abbrev pub invariant-loop-i : goal.invariant-loop-i
invariant-loop-i l = (divided 12 6155 l.remainder (down_from (coefficient l.self.bytes) l.i) ≡ check_of l.self.bytes) × (l.remainder < 4096)
