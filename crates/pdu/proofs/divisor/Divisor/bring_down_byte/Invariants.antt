use Rattle.std.proofs.Common.{◌≡◌, ◌+◌, ◌^◌, ◌<◌, drop}
use Rattle.pdu.specs.Division.{divided}
use Rattle.pdu.specs.Dividend.{bits_of}
use Rattle.pdu.proofs.divisor.Divisor.bring_down_byte.Given as goal

-- What is left to do gives the remainder.
abbrev pub invariant-loop-k : goal.invariant-loop-k
invariant-loop-k l =
    (l.remainder < 2 ^ l.self.degree)
    × (divided l.self.degree (2 ^ l.self.degree + l.self.generator) l.remainder (drop l.k (bits_of l.byte)) ≡ divided l.self.degree (2 ^ l.self.degree + l.self.generator) l.initial.remainder (bits_of l.byte))
