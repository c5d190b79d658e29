use Rattle.std.proofs.Common.{◌≡◌, ℕ, ◌+◌, ◌*◌, ◌^◌, ◌<◌, min, sym, ◌∙◌, subst, ap₂, arith}
use lib.Bits.{bit_xor}
use Rattle.pdu.specs.Division.{lowered}
use Rattle.pdu.proofs.Division.{lowered_low, smaller_lowered}
use Rattle.pdu.proofs.Dividend.{shifted}
use Rattle.pdu.proofs.divisor.Divisor.bring_down.Goals as goal

pub returns : goal.returns
returns c =
    let d = c.args.self.degree in
    let g = c.args.self.generator in
    let p = c.args.remainder * 2 + c.args.coefficient in
    let top = shifted d c.args.self.short in
    let from = c.from.ensures in
    let pre = c.requires in
    let less : p < 2 ^ d * 2 = omega (arith, from) in
    let least : c.min.result ≡ min p (bit_xor p (2 ^ d + g)) = c.min.ensures ∙ ap₂ (λ (a b : ℕ). min (c.args.remainder * 2 + a) (bit_xor (c.args.remainder * 2 + a) (b + g))) from top in
    let value : c.min.result ≡ lowered d (2 ^ d + g) p = least ∙ smaller_lowered d g p c.args.self.low less in
    record {
      value = value;
      small = subst (λ (x : ℕ). x < 2 ^ d) (sym value) (lowered_low d g p c.args.self.low less);
    }
