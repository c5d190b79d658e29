use Rattle.std.proofs.Common.{◌≡◌, ℕ, ◌^◌, ◌<◌, ◌≤◌, cond, ltb, Some, None, Err, sym, ap, ◌∙◌, arith}
use Rattle.std.specs.Option.{ok_or}
use Rattle.std.proofs.lemmas.Bool.{lt-ltb, le-ltb, cond-true, cond-false}
use Rattle.pdu.specs.declared.refusal.Refusal.TheVariants.{ReservedMessage, OutOfRange}
use Rattle.message.specs.Message.{size_of, message_of, parsed}
use Rattle.message.proofs.Messages.{written_again}
use Rattle.message.proofs.Ranges.{or_refused}
use Rattle.message.proofs.Sizes.{size_small, shifted}
use Rattle.message.proofs.message.Message.parse.Goals as goal

-- a number that is not reserved
with_size : (n p s : ℕ) → size_of n ≡ Some s → parsed n p ≡ cond (ltb p (2 ^ s)) (message_of n p) (Err OutOfRange)
with_size n p s e = ap (λ o. elim o [ None ↦ Err ReservedMessage | Some size ↦ cond (ltb p (2 ^ size)) (message_of n p) (Err OutOfRange) ]) e

pub returns-then-payload-size : goal.returns-then-payload-size
returns-then-payload-size c =
    let n = c.args.number in
    let p = c.args.payload in
    let s = c.in_ok-size.size in
    let e = or_refused (size_of n) ReservedMessage s (ap (λ o. ok_or o ReservedMessage) (sym c.payload_size.ensures) ∙ sym c.ok_or.ensures.value ∙ c.in_ok-size.was) in
    let power = shifted s (size_small n s e) in
    let above : 2 ^ s ≤ p = omega (arith, power) in
    let value = sym (with_size n p s e ∙ cond-false (ltb p (2 ^ s)) (message_of n p) (Err OutOfRange) (le-ltb p (2 ^ s) above)) in
    record { value = value; written_again = λ m w. written_again n p m (sym value ∙ w) }

pub returns : goal.returns
returns c =
    let n = c.args.number in
    let p = c.args.payload in
    let s = c.in_ok-size.size in
    let e = or_refused (size_of n) ReservedMessage s (ap (λ o. ok_or o ReservedMessage) (sym c.payload_size.ensures) ∙ sym c.ok_or.ensures.value ∙ c.in_ok-size.was) in
    let power = shifted s (size_small n s e) in
    let below : p < 2 ^ s = omega (arith, power) in
    let value = c.parse_sized.ensures ∙ sym (with_size n p s e ∙ cond-true (ltb p (2 ^ s)) (message_of n p) (Err OutOfRange) (lt-ltb p (2 ^ s) below)) in
    record { value = value; written_again = λ m w. written_again n p m (sym value ∙ w) }
