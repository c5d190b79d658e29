-- Payloads fit the sizes of their messages.
use Rattle.std.proofs.Common.{◌≡◌, ℕ, ◌+◌, ◌-◌, ◌^◌, ◌<◌, ◌≤◌, Bool, true, false, cond, ◌&&◌, eqb, ltb, List, length, Some, None, Ok, Err, Result, sym, refl, ap, ◌∙◌, subst, ⊎_elim, arith}
use Rattle.std.proofs.lemmas.Bool.{le-ltb, ltb-true, ltb-false, cond-true, cond-false, cases_Bool}
use Rattle.pdu.specs.declared.refusal.Refusal.{Refusal}
use Rattle.pdu.specs.declared.refusal.Refusal.TheVariants.{NotTenBytes, ReservedMessage, PayloadsTooLong, OutOfRange}
use Rattle.pdu.specs.declared.pdu.Pdu.{Pdu}
use Rattle.pdu.specs.Bytes.{taken}
use Rattle.message.specs.declared.message.Message.{Message}
use Rattle.message.specs.declared.message.Message.TheVariants.{StationId, ShortName, Frame, Location, Service, Parameter, Universal}
use Rattle.message.specs.declared.place.Place.TheVariants.{Name, Message as PlaceMessage, Alert}
use Rattle.message.specs.Message.{size_of, number_of, message_of, parsed}
use Rattle.message.proofs.Ranges.{refused, or_refused, then_parts}
use Rattle.std.proofs.lemmas.Bool.Decides.{nat_tests}
use Rattle.message.specs.Results.{and_then}
use Rattle.message.proofs.Sizes.{size_small}
use Rattle.contents.specs.Area.{size_due, size_within, first_size, second_size}

-- a test that refuses
pub unless_refused : {A : Type 0} (b : Bool) (x : Refusal) (a y : A) → cond b (Err x) (Ok a) ≡ Ok y → (b ≡ false) × (a ≡ y)
unless_refused true x a y e = refused x y e
unless_refused false x a y e = (refl, cc)

-- two tests of a size that agree
same_tests : (r : Result ℕ Refusal) (f g : ℕ → Result ℕ Refusal) → ((s : ℕ) → r ≡ Ok s → f s ≡ g s) → and_then r f ≡ and_then r g
same_tests (Ok s) f g h = h s refl
same_tests (Err x) f g h = refl

-- the room for the first message is the whole area, or what the second one's number leaves of it
pub first_within : (extension : Bool) (n : ℕ) → size_within (cond extension 54 58) n ≡ first_size extension n
first_within true n = refl
first_within false n = same_tests (size_due n) (λ s. cond (ltb 58 s) (Err PayloadsTooLong) (Ok s)) (λ s. Ok s) (λ s e.
    let small = size_small n s (or_refused (size_of n) ReservedMessage s e) in
    cond-false (ltb 58 s) (Err PayloadsTooLong) (Ok s) (le-ltb 58 s small))

-- the room for the second message is what the first one leaves
pub second_within : (first n : ℕ) → first ≤ 54 → size_within (54 - first) n ≡ second_size first n
second_within first n h = same_tests (size_due n) (λ s. cond (ltb (54 - first) s) (Err PayloadsTooLong) (Ok s)) (λ s. cond (ltb 54 (first + s)) (Err PayloadsTooLong) (Ok s)) (λ s e.
    let same : ltb (54 - first) s ≡ ltb 54 (first + s) = grind (arith, nat_tests) in
    ap (λ b. cond b (Err PayloadsTooLong) (Ok s)) same)

pub first_parts : (extension : Bool) (n size : ℕ) → first_size extension n ≡ Ok size → (size_of n ≡ Some size) × ((extension && ltb 54 size) ≡ false)
first_parts extension n size e =
    let parts = then_parts (size_due n) (λ s. cond (extension && ltb 54 s) (Err PayloadsTooLong) (Ok s)) size e in
    let s = parts.0 in
    let test = unless_refused (extension && ltb 54 s) PayloadsTooLong s size parts.2 in
    (or_refused (size_of n) ReservedMessage s parts.1 ∙ ap Some test.1, subst (λ (m : ℕ). (extension && ltb 54 m) ≡ false) test.1 test.0)

pub second_parts : (first n size : ℕ) → second_size first n ≡ Ok size → (size_of n ≡ Some size) × (first + size ≤ 54)
second_parts first n size e =
    let parts = then_parts (size_due n) (λ s. cond (ltb 54 (first + s)) (Err PayloadsTooLong) (Ok s)) size e in
    let s = parts.0 in
    let test = unless_refused (ltb 54 (first + s)) PayloadsTooLong s size parts.2 in
    let below = ltb-false 54 (first + s) test.0 in
    let same = test.1 in
    (or_refused (size_of n) ReservedMessage s parts.1 ∙ ap Some same, omega arith)

-- a message that is read has a payload of its size
pub payload_small : (n p size : ℕ) (m : Message) → size_of n ≡ Some size → parsed n p ≡ Ok m → p < 2 ^ size
payload_small n p size m s e =
    let q : cond (ltb p (2 ^ size)) (message_of n p) (Err OutOfRange) ≡ Ok m =
    sym (ap (λ o. elim o [ None ↦ Err ReservedMessage | Some t ↦ cond (ltb p (2 ^ t)) (message_of n p) (Err OutOfRange) ]) s) ∙ e in
    ⊎_elim
    (λ (t : ltb p (2 ^ size) ≡ true). ltb-true p (2 ^ size) t)
    (λ (f : ltb p (2 ^ size) ≡ false). refused OutOfRange m (sym (cond-false (ltb p (2 ^ size)) (message_of n p) (Err OutOfRange) f) ∙ q))
    (cases_Bool (ltb p (2 ^ size)))

-- a message's number has four bits
pub number_small : (m : Message) → number_of m < 16
number_small (StationId s) = omega arith
number_small (ShortName s) = omega arith
number_small (Frame Name x) = omega arith
number_small (Frame PlaceMessage x) = omega arith
number_small (Frame Alert x) = omega arith
number_small (Location h) = omega arith
number_small (Service s) = omega arith
number_small (Parameter q) = omega arith
number_small (Universal x) = omega arith

-- a slice that is a PDU is its bytes
pub taken_is : (bs : List ℕ) (p : Pdu) → Ok p ≡ taken bs → p ≡ record { bytes = bs }
taken_is bs p e = ⊎_elim
    (λ (t : eqb (length bs) 10 ≡ true). let q : Ok p ≡ Ok (record { bytes = bs }) = e ∙ cond-true (eqb (length bs) 10) (Ok (record { bytes = bs })) (Err NotTenBytes) t in cc)
    (λ (f : eqb (length bs) 10 ≡ false). refused NotTenBytes p (sym (e ∙ cond-false (eqb (length bs) 10) (Ok (record { bytes = bs })) (Err NotTenBytes) f)))
    (cases_Bool (eqb (length bs) 10))
