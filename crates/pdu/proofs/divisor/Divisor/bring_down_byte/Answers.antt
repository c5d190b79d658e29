use Rattle.std.proofs.Common.{◌≡◌, ℕ, ◌+◌, ◌-◌, ◌*◌, ◌/◌, ◌%◌, ◌^◌, ◌<◌, get_or, drop, sym, ap, ◌∙◌, zero-add, arith}
use Rattle.std.proofs.lemmas.List.{at_drop_more, at_drop_all}
use Rattle.std.proofs.lemmas.List.FromFn.{get_or-map-range_with_len}
use Rattle.pdu.specs.Division.{divided, lowered}
use Rattle.pdu.specs.Dividend.{bits_of}
use Rattle.pdu.proofs.Dividend.{divided_more, divided_none}
use Rattle.pdu.proofs.divisor.Divisor.bring_down_byte.Goals as goal

bit_is : (b k : ℕ) → k < 8 → get_or (bits_of b) k 0 ≡ b / 2 ^ (7 - k) % 2
bit_is b k h = get_or-map-range_with_len (λ (i : ℕ). b / 2 ^ (7 - i) % 2) 0 8 k k 0 h (zero-add k)

pub loop-k-preserved : goal.loop-k-preserved
loop-k-preserved c =
    let d = c.args.self.degree in
    let G = 2 ^ d + c.args.self.generator in
    let b = c.args.byte in
    let k = c.loop-k.k in
    let x = c.loop-k.remainder in
    let told = c.bring_down-remainder.ensures in
    let e = at_drop_more (divided d G x) (bits_of b) k 0 (omega arith) ∙ divided_more d G x (get_or (bits_of b) k 0) (drop (k + 1) (bits_of b)) in
    let s : c.bring_down-remainder.result ≡ lowered d G (x * 2 + get_or (bits_of b) k 0) = told.value ∙ ap (λ (y : ℕ). lowered d G (x * 2 + y)) (sym (bit_is b k (omega arith))) in
    (told.small, ap (λ (y : ℕ). divided d G y (drop (k + 1) (bits_of b))) s ∙ sym e ∙ c.loop-k.invariant.1)

pub returns : goal.returns
returns c =
    let d = c.args.self.degree in
    let G = 2 ^ d + c.args.self.generator in
    let z = at_drop_all (divided d G c.loop-k.remainder) (bits_of c.args.byte) c.loop-k.k (omega arith) ∙ divided_none d G c.loop-k.remainder in
    record { value = sym z ∙ c.loop-k.invariant.1; small = c.loop-k.invariant.0 }
