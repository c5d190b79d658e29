use Rattle.std.proofs.Common.{◌≡◌, ◌+◌, ◌-◌, ◌^◌, ◌<◌, drop, replicate}
use Rattle.std.specs.List.{flat_map}
use Rattle.pdu.specs.Division.{divided}
use Rattle.pdu.specs.Dividend.{bits_of, text_remainder}
use Rattle.pdu.proofs.divisor.Divisor.remainder.Given as goal

-- What is left to do gives the remainder: first over the bytes, then over the zeros.
abbrev pub invariant-loop-byte : goal.invariant-loop-byte
invariant-loop-byte l =
    (l.remainder < 2 ^ l.self.degree)
    × (divided l.self.degree (2 ^ l.self.degree + l.self.generator) l.remainder (flat_map bits_of (drop l.byte-index l.bytes)) ≡ divided l.self.degree (2 ^ l.self.degree + l.self.generator) 0 (flat_map bits_of l.bytes))

abbrev pub invariant-loop-zero : goal.invariant-loop-zero
invariant-loop-zero l =
    (l.remainder < 2 ^ l.self.degree)
    × (divided l.self.degree (2 ^ l.self.degree + l.self.generator) l.remainder (replicate (l.self.degree - l._zero) 0) ≡ text_remainder l.self.degree l.self.generator l.bytes)
