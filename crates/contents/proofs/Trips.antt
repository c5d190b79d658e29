-- Contents written and read, and read and written.
use Rattle.std.proofs.Common.{◌≡◌, ℕ, ◌+◌, ◌-◌, ◌^◌, ◌<◌, ◌≤◌, true, false, cond, eqb, Some, None, Ok, Err, Result, sym, ap, ◌∙◌, subst, ap₂, ⊎_elim, arith, pow_pos}
use Rattle.std.proofs.lemmas.Bool.{eqb-true, cond-true, cond-false, cases_Bool}
use Rattle.pdu.specs.declared.refusal.Refusal.{Refusal}
use Rattle.pdu.specs.declared.refusal.Refusal.TheVariants.{LeftoverBitSet}
use Rattle.pdu.specs.declared.fields.Fields.{Fields}
use Rattle.message.specs.declared.message.Message.{Message}
use Rattle.message.specs.Message.{number_of, parsed, payload_of}
use Rattle.message.specs.Results.{and_then}
use Rattle.message.proofs.Ranges.{refused, then_ok, then_parts}
use Rattle.message.proofs.Messages.{written_again}
use Rattle.contents.specs.declared.contents.Contents.{Contents}
use Rattle.contents.specs.Area.{upper, lower, joined, size_within, first_size, second_size}
use Rattle.contents.specs.Contents.{if_nothing_left, contents_with, one_message, both_messages, second_message, two_messages, contents_of, fields_with, two_written, fields_of, with_second}
use Rattle.contents.proofs.Areas.{joined_small, upper_joined, lower_joined, joined_again}
use Rattle.contents.proofs.Fitting.{second_within, first_parts, second_parts, payload_small}

-- nothing is left over
nothing_left : {A : Type 0} (leftover : ℕ) (x : A) → leftover ≡ 0 → if_nothing_left leftover x ≡ Ok x
nothing_left leftover x e = ap (λ n. if_nothing_left n x) e

left_parts : {A : Type 0} (leftover : ℕ) (x y : A) → if_nothing_left leftover x ≡ Ok y → (leftover ≡ 0) × (x ≡ y)
left_parts leftover x y e = ⊎_elim
    (λ (t : eqb leftover 0 ≡ true). let q : Ok x ≡ Ok y = sym (cond-true (eqb leftover 0) (Ok x) (Err LeftoverBitSet) t) ∙ e in (eqb-true leftover 0 t, cc))
    (λ (f : eqb leftover 0 ≡ false). refused LeftoverBitSet y (sym (cond-false (eqb leftover 0) (Ok x) (Err LeftoverBitSet) f) ∙ e))
    (cases_Bool (eqb leftover 0))

-- One message that was written is read.
pub one_read : (c : Contents) (size p : ℕ) → first_size false (number_of c.first) ≡ Ok size → parsed (number_of c.first) p ≡ Ok c.first
    → contents_of (fields_with c false (joined p (58 - size) 0)) ≡ Ok (with_second c None)
one_read c size p s e =
    let f = fields_with c false (joined p (58 - size) 0) in
    let up : upper (58 - size) f.area ≡ p = upper_joined p (58 - size) 0 (pow_pos (58 - size)) in
    let low : lower (58 - size) f.area ≡ 0 = lower_joined p (58 - size) 0 (pow_pos (58 - size)) in
    let ending : Message → Result Contents Refusal = λ first. if_nothing_left (lower (58 - size) f.area) (contents_with f first None) in
    then_ok (first_size false f.number) size (λ size. one_message f size) s
    ∙ then_ok (parsed f.number (upper (58 - size) f.area)) c.first ending (ap (parsed f.number) up ∙ e)
    ∙ nothing_left (lower (58 - size) f.area) (contents_with f c.first None) low

-- Two messages that were written are read.
pub two_read : (c : Contents) (second : Message) (size second-size p q : ℕ)
    → first_size true (number_of c.first) ≡ Ok size → second_size size (number_of second) ≡ Ok second-size → number_of second < 16
    → parsed (number_of c.first) p ≡ Ok c.first → parsed (number_of second) q ≡ Ok second
    → contents_of (fields_with c true (joined p (58 - size) (joined (number_of second) (54 - size) (joined q (54 - size - second-size) 0)))) ≡ Ok (with_second c (Some second))
two_read c second size second-size p q s t four e g =
    let n = number_of second in
    let w = 54 - size - second-size in
    let tail = joined q w 0 in
    let behind = joined n (54 - size) tail in
    let f = fields_with c true (joined p (58 - size) behind) in
    let first_parts = first_parts true (number_of c.first) size s in
    let second_parts = second_parts size n second-size t in
    let fits = second_parts.1 in
    let q_small = payload_small n q second-size second second_parts.0 g in
    let tail_width : second-size + w ≡ 54 - size = omega arith in
    let tail_small : tail < 2 ^ (54 - size) = subst (λ (m : ℕ). tail < 2 ^ m) tail_width (joined_small q second-size w 0 q_small (pow_pos w)) in
    let behind_width : 4 + (54 - size) ≡ 58 - size = omega arith in
    let behind_small : behind < 2 ^ (58 - size) = subst (λ (m : ℕ). behind < 2 ^ m) behind_width (joined_small n 4 (54 - size) tail four tail_small) in
    let up : upper (58 - size) f.area ≡ p = upper_joined p (58 - size) behind behind_small in
    let low : lower (58 - size) f.area ≡ behind = lower_joined p (58 - size) behind behind_small in
    let number : upper (54 - size) (lower (58 - size) f.area) ≡ n = ap (upper (54 - size)) low ∙ upper_joined n (54 - size) tail tail_small in
    let area : lower (54 - size) (lower (58 - size) f.area) ≡ tail = ap (lower (54 - size)) low ∙ lower_joined n (54 - size) tail tail_small in
    let ending : Message → Message → Result Contents Refusal = λ a b. if_nothing_left (lower w tail) (contents_with f a (Some b)) in
    let after_first : Message → Result Contents Refusal = λ a. and_then (parsed n (upper w tail)) (ending a) in
    let after_size : ℕ → Result Contents Refusal = λ k. and_then (parsed f.number (upper (58 - size) f.area)) (λ a. and_then (parsed n (upper (54 - size - k) tail)) (λ b. if_nothing_left (lower (54 - size - k) tail) (contents_with f a (Some b)))) in
    then_ok (first_size true f.number) size (λ size. two_messages f size) s
    ∙ ap₂ (second_message f size) number area
    ∙ then_ok (second_size size n) second-size after_size t
    ∙ then_ok (parsed f.number (upper (58 - size) f.area)) c.first after_first (ap (parsed f.number) up ∙ e)
    ∙ then_ok (parsed n (upper w tail)) second (ending c.first) (ap (parsed n) (upper_joined q w 0 (pow_pos w)) ∙ g)
    ∙ nothing_left (lower w tail) (contents_with f c.first (Some second)) (lower_joined q w 0 (pow_pos w))

-- Two messages that are taken from the area one after the other.
pub two_taken : (f : Fields) (size payload bits width : ℕ) → f.extension ≡ true → first_size f.extension f.number ≡ Ok size → size ≤ 54
    → payload ≡ upper (58 - size) f.area → bits ≡ lower (58 - size) f.area → width ≡ 54 - size
    → both_messages f payload (upper width bits) width (lower width bits) (size_within width (upper width bits)) ≡ contents_of f
two_taken f size payload bits width ext s short p b w =
    let n = upper (54 - size) (lower (58 - size) f.area) in
    (λ i. both_messages f (p i) (upper (w i) (b i)) (w i) (lower (w i) (b i)) (size_within (w i) (upper (w i) (b i))))
    ∙ ap (both_messages f (upper (58 - size) f.area) n (54 - size) (lower (54 - size) (lower (58 - size) f.area))) (second_within size n short)
    ∙ sym (cond-true f.extension (two_messages f size) (one_message f size) ext)
    ∙ sym (then_ok (first_size f.extension f.number) size (λ size. cond f.extension (two_messages f size) (one_message f size)) s)

-- One message that was read is written.
one_written_lem : (f : Fields) (size : ℕ) (c : Contents) → f.extension ≡ false → first_size f.extension f.number ≡ Ok size → one_message f size ≡ Ok c → fields_of c ≡ Ok f
one_written_lem f size c ext s e =
    let w = 58 - size in
    let p = upper w f.area in
    let read = then_parts (parsed f.number p) (λ first. if_nothing_left (lower w f.area) (contents_with f first None)) c e in
    let m = read.0 in
    let left = left_parts (lower w f.area) (contents_with f m None) c read.2 in
    let again = written_again f.number p m read.1 in
    let area : joined p w 0 ≡ f.area = ap (joined p w) (sym left.0) ∙ joined_again w f.area in
    let size_is : first_size false (number_of m) ≡ Ok size = ap₂ first_size (sym ext) again.0 ∙ s in
    let d = contents_with f m None in
    let number = again.0 in
    let fields : fields_with d false (joined p w 0) ≡ f = λ i. record { extension = sym ext i; number = number i; area = area i; reserved = f.reserved; time_locked = f.time_locked; pair = f.pair } in
    let after_size : ℕ → Result Fields Refusal = λ k. and_then (payload_of m) (λ payload. Ok (fields_with d false (joined payload (58 - k) 0))) in
    ap fields_of (sym left.1) ∙ then_ok (first_size false (number_of m)) size after_size size_is
    ∙ then_ok (payload_of m) p (λ payload. Ok (fields_with d false (joined payload w 0))) again.1 ∙ ap Ok fields

-- What two messages with payloads are written to.
pub two_written_is : (c : Contents) (second : Message) (size second-size p q : ℕ) → first_size true (number_of c.first) ≡ Ok size → second_size size (number_of second) ≡ Ok second-size
    → payload_of c.first ≡ Ok p → payload_of second ≡ Ok q
    → two_written c second ≡ Ok (fields_with c true (joined p (58 - size) (joined (number_of second) (54 - size) (joined q (54 - size - second-size) 0))))
two_written_is c second size second-size p q s t e g =
    let written : ℕ → ℕ → ℕ → ℕ → Result Fields Refusal = λ i j x y. Ok (fields_with c true (joined x (58 - i) (joined (number_of second) (54 - i) (joined y (54 - i - j) 0)))) in
    then_ok (first_size true (number_of c.first)) size (λ i. and_then (second_size i (number_of second)) (λ j. and_then (payload_of c.first) (λ x. and_then (payload_of second) (written i j x)))) s
    ∙ then_ok (second_size size (number_of second)) second-size (λ j. and_then (payload_of c.first) (λ x. and_then (payload_of second) (written size j x))) t
    ∙ then_ok (payload_of c.first) p (λ x. and_then (payload_of second) (written size second-size x)) e
    ∙ then_ok (payload_of second) q (written size second-size p) g

-- Two messages that were read are written.
two_written_lem : (f : Fields) (size : ℕ) (c : Contents) → f.extension ≡ true → first_size f.extension f.number ≡ Ok size → two_messages f size ≡ Ok c → fields_of c ≡ Ok f
two_written_lem f size c ext s e =
    let w = 58 - size in
    let p = upper w f.area in
    let behind = lower w f.area in
    let n = upper (54 - size) behind in
    let tail = lower (54 - size) behind in
    let sized = then_parts (second_size size n) (λ k. and_then (parsed f.number p) (λ a. and_then (parsed n (upper (54 - size - k) tail)) (λ b. if_nothing_left (lower (54 - size - k) tail) (contents_with f a (Some b))))) c e in
    let k = sized.0 in
    let v = 54 - size - k in
    let q = upper v tail in
    let first = then_parts (parsed f.number p) (λ a. and_then (parsed n q) (λ b. if_nothing_left (lower v tail) (contents_with f a (Some b)))) c sized.2 in
    let a = first.0 in
    let second = then_parts (parsed n q) (λ b. if_nothing_left (lower v tail) (contents_with f a (Some b))) c first.2 in
    let b = second.0 in
    let left = left_parts (lower v tail) (contents_with f a (Some b)) c second.2 in
    let again = written_again f.number p a first.1 in
    let again_second = written_again n q b second.1 in
    let d = contents_with f a (Some b) in
    let tail_again : joined q v 0 ≡ tail = ap (joined q v) (sym left.0) ∙ joined_again v tail in
    let behind_again : joined (number_of b) (54 - size) (joined q v 0) ≡ behind = ap₂ (λ m t. joined m (54 - size) t) again_second.0 tail_again ∙ joined_again (54 - size) behind in
    let area : joined p w (joined (number_of b) (54 - size) (joined q v 0)) ≡ f.area = ap (joined p w) behind_again ∙ joined_again w f.area in
    let number = again.0 in
    let fields : fields_with d true (joined p w (joined (number_of b) (54 - size) (joined q v 0))) ≡ f =
    λ i. record { extension = sym ext i; number = number i; area = area i; reserved = f.reserved; time_locked = f.time_locked; pair = f.pair } in
    let size_is : first_size true (number_of a) ≡ Ok size = ap₂ first_size (sym ext) again.0 ∙ s in
    let second_is : second_size size (number_of b) ≡ Ok k = ap (second_size size) again_second.0 ∙ sized.1 in
    ap fields_of (sym left.1) ∙ two_written_is d b size k p q size_is second_is again.1 again_second.1 ∙ ap Ok fields

-- Fields that were read to contents are written again.
pub fields_again : (f : Fields) (c : Contents) → contents_of f ≡ Ok c → fields_of c ≡ Ok f
fields_again f c e =
    let sized = then_parts (first_size f.extension f.number) (λ size. cond f.extension (two_messages f size) (one_message f size)) c e in
    let size = sized.0 in
    ⊎_elim
    (λ (t : f.extension ≡ true). two_written_lem f size c t sized.1 (sym (cond-true f.extension (two_messages f size) (one_message f size) t) ∙ sized.2))
    (λ (n : f.extension ≡ false). one_written_lem f size c n sized.1 (sym (cond-false f.extension (two_messages f size) (one_message f size) n) ∙ sized.2))
    (cases_Bool f.extension)
