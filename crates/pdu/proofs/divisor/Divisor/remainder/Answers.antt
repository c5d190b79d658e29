use Rattle.std.proofs.Common.{◌≡◌, ℕ, ◌+◌, ◌-◌, ◌^◌, List, get_or, drop, replicate, sym, ap, ◌∙◌, subst, arith}
use Rattle.std.specs.List.{flat_map}
use Rattle.std.proofs.lemmas.List.{at_drop_more, at_drop_all}
use Rattle.pdu.specs.Division.{divided, OnlyRemainder}
use Rattle.pdu.specs.Dividend.{bits_of, dividend, text_remainder}
use Rattle.pdu.proofs.Dividend.{divided_append, divided_none, divided_zero, remainder_only}
use Rattle.pdu.proofs.divisor.Divisor.remainder.Goals as goal

pub loop-byte-preserved : goal.loop-byte-preserved
loop-byte-preserved c =
    let d = c.args.self.degree in
    let G = 2 ^ d + c.args.self.generator in
    let t = c.args.bytes.now in
    let j = c.loop-byte.byte-index in
    let x = c.loop-byte.remainder in
    let told = c.bring_down_byte-remainder.ensures in
    let rest = flat_map bits_of (drop (j + 1) t) in
    let e = at_drop_more (λ (u : List ℕ). divided d G x (flat_map bits_of u)) t j 0 c.loop-byte-test.true ∙ divided_append d G x (bits_of (get_or t j 0)) rest in
    (told.small, ap (λ (y : ℕ). divided d G y rest) told.value ∙ sym e ∙ c.loop-byte.invariant.1)

pub loop-zero-init : goal.loop-zero-init
unfolding text_remainder
loop-zero-init c =
    let d = c.args.self.degree in
    let G = 2 ^ d + c.args.self.generator in
    let t = c.args.bytes.now in
    let x = c.loop-byte.remainder in
    let z = at_drop_all (λ (u : List ℕ). divided d G x (flat_map bits_of u)) t c.loop-byte.byte-index (omega arith) ∙ divided_none d G x in
    let n : d - 0 ≡ d = omega arith in
    (c.loop-byte.invariant.0, ap (λ (m : ℕ). divided d G x (replicate m 0)) n ∙ ap (λ (y : ℕ). divided d G y (replicate d 0)) (sym z ∙ c.loop-byte.invariant.1) ∙ sym (divided_append d G 0 (flat_map bits_of t) (replicate d 0)))

pub loop-zero-preserved : goal.loop-zero-preserved
loop-zero-preserved c =
    let d = c.args.self.degree in
    let G = 2 ^ d + c.args.self.generator in
    let k = c.loop-zero._zero in
    let told = c.bring_down-remainder.ensures in
    let e = divided_zero d G c.loop-zero.remainder d k (omega arith) in
    (told.small, ap (λ (y : ℕ). divided d G y (replicate (d - (k + 1)) 0)) told.value ∙ sym e ∙ c.loop-zero.invariant.1)

pub returns : goal.returns
returns c =
    let d = c.args.self.degree in
    let g = c.args.self.generator in
    let t = c.args.bytes.now in
    let x = c.loop-zero.remainder in
    let e : d - c.loop-zero._zero ≡ 0 = omega arith in
    let z = ap (λ (n : ℕ). divided d (2 ^ d + g) x (replicate n 0)) e ∙ divided_none d (2 ^ d + g) x in
    let v = sym z ∙ c.loop-zero.invariant.1 in
    record { value = v; law = subst (OnlyRemainder d g (dividend d t)) (sym v) (remainder_only d g t c.args.self.low) }
