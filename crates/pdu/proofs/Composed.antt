-- A PDU from its fields, and the fields from a PDU.
use Rattle.std.proofs.Common.{◌≡◌, ℕ, zero, suc, ◌+◌, ◌-◌, ◌/◌, ◌%◌, ◌^◌, ◌<◌, ◌≤◌, true, false, cond, ◌&&◌, eqb, ltb, List, get_or, Ok, Err, Result, sym, refl, ap, ◌∙◌, ap₂, ⊎_elim, arith}
use Rattle.std.proofs.lemmas.Bool.{lt-ltb, ltb-true, le-ltb, eq-eqb, eqb-true, cond-true, cond-false, cases_Bool, cases_lt, and_parts, and_from}
use Rattle.pdu.specs.declared.refusal.Refusal.{Refusal}
use Rattle.pdu.specs.declared.refusal.Refusal.TheVariants.{CheckDiffers, TypeNotZero, OutOfRange}
use Rattle.pdu.specs.declared.pdu.Pdu.{Pdu}
use Rattle.pdu.specs.declared.fields.Fields.{Fields}
use Rattle.pdu.specs.Bytes.{TenBytes, number_of, bytes_of, bits}
use Rattle.pdu.specs.Check.{bit_at, coefficient, coefficients, generator, check_of}
use Rattle.pdu.specs.Division.{remainder}
use Rattle.pdu.specs.Fields.{flag, bit_of, fields_of, tested, parsed, fit, unchecked_number, checked, composed}
use Rattle.pdu.proofs.Coefficients.{agree, binary, coefficient_is}
use Rattle.pdu.proofs.Division.{remainder_low}
use Rattle.pdu.proofs.Flags.{flag_bit, bit_flag, bit_small}
use Rattle.pdu.proofs.TenBytes.{number_small, number_bytes, bytes_number}

pub check_small : (bs : List ℕ) → check_of bs < 4096
check_small bs = remainder_low 12 generator (coefficients bs) (omega arith) (binary bs 80)

-- the bytes before the check do not depend on it
byte_kept : (n k j : ℕ) → n % 4096 ≡ 0 → k < 4096 → j < 8 → get_or (bytes_of (n + k)) j 0 ≡ get_or (bytes_of n) j 0
byte_kept n k zero z s h = omega arith
byte_kept n k (suc zero) z s h = omega arith
byte_kept n k (suc (suc zero)) z s h = omega arith
byte_kept n k (suc (suc (suc zero))) z s h = omega arith
byte_kept n k (suc (suc (suc (suc zero)))) z s h = omega arith
byte_kept n k (suc (suc (suc (suc (suc zero))))) z s h = omega arith
byte_kept n k (suc (suc (suc (suc (suc (suc zero)))))) z s h = omega arith
byte_kept n k (suc (suc (suc (suc (suc (suc (suc zero))))))) z s h = omega arith
byte_kept n k (suc (suc (suc (suc (suc (suc (suc (suc j)))))))) z s h = absurd (omega arith)

-- the upper half of a byte alone tells its upper four bits
upper_kept : (a b m : ℕ) → a / 16 ≡ b / 16 → m < 4 → a / 2 ^ (7 - m) % 2 ≡ b / 2 ^ (7 - m) % 2
upper_kept a b zero e h = omega arith
upper_kept a b (suc zero) e h = omega arith
upper_kept a b (suc (suc zero)) e h = omega arith
upper_kept a b (suc (suc (suc zero))) e h = omega arith
upper_kept a b (suc (suc (suc (suc m)))) e h = absurd (omega arith)

bit_kept : (n k i : ℕ) → n % 4096 ≡ 0 → k < 4096 → i < 68 → bit_at (bytes_of (n + k)) i ≡ bit_at (bytes_of n) i
bit_kept n k i z s h = ⊎_elim
    (λ (l : i < 64). ap (λ b. b / 2 ^ (7 - i % 8) % 2) (byte_kept n k (i / 8) z s (omega arith)))
    (λ (l : 64 ≤ i).
    let q : i / 8 ≡ 8 = omega arith in
    let half : (n + k) / 2 ^ 8 % 256 / 16 ≡ n / 2 ^ 8 % 256 / 16 = omega arith in
    ap (λ j. get_or (bytes_of (n + k)) j 0 / 2 ^ (7 - i % 8) % 2) q ∙ upper_kept ((n + k) / 2 ^ 8 % 256) (n / 2 ^ 8 % 256) (i % 8) half (omega arith)
    ∙ ap (λ j. get_or (bytes_of n) j 0 / 2 ^ (7 - i % 8) % 2) (sym q))
    (cases_lt i 64)

coefficient_kept : (n k i : ℕ) → n % 4096 ≡ 0 → k < 4096 → coefficient (bytes_of (n + k)) i ≡ coefficient (bytes_of n) i
coefficient_kept n k i z s = ⊎_elim
    (λ (l : i < 68). sym (coefficient_is (bytes_of (n + k)) i l) ∙ bit_kept n k i z s l ∙ coefficient_is (bytes_of n) i l)
    (λ (l : 68 ≤ i). let e = le-ltb i 68 l in cond-false (ltb i 68) (bit_at (bytes_of (n + k)) i) 0 e ∙ sym (cond-false (ltb i 68) (bit_at (bytes_of n) i) 0 e))
    (cases_lt i 68)

-- the check does not depend on the check bits
pub check_kept : (n k : ℕ) → n % 4096 ≡ 0 → k < 4096 → check_of (bytes_of (n + k)) ≡ check_of (bytes_of n)
check_kept n k z s = ap (remainder 12 generator) (agree (coefficient (bytes_of (n + k))) (coefficient (bytes_of n)) 80 (λ i l. coefficient_kept n k i z s))

fit_parts : (f : Fields) → fit f ≡ true → (f.number < 16) × (f.area < 2 ^ 58) × (f.pair < 4)
fit_parts f h =
    let outer = and_parts (ltb f.number 16 && ltb f.area (2 ^ 58)) (ltb f.pair 4) h in
    let inner = and_parts (ltb f.number 16) (ltb f.area (2 ^ 58)) outer.0 in
    (ltb-true f.number 16 inner.0, ltb-true f.area (2 ^ 58) inner.1, ltb-true f.pair 4 outer.1)

pub fits : (f : Fields) → f.number < 16 → f.area < 2 ^ 58 → f.pair < 4 → fit f ≡ true
fits f a b c = and_from (ltb f.number 16 && ltb f.area (2 ^ 58)) (ltb f.pair 4) (and_from (ltb f.number 16) (ltb f.area (2 ^ 58)) (lt-ltb f.number 16 a) (lt-ltb f.area (2 ^ 58) b)) (lt-ltb f.pair 4 c)

-- the fields of a number that was put together from fields and a check
fields_again : (f : Fields) (k : ℕ) → fit f ≡ true → k < 4096 → fields_of (unchecked_number f + k) ≡ f
fields_again f k h s =
    let small = fit_parts f h in
    let n = unchecked_number f + k in
    let be = bit_small f.extension in
    let br = bit_small f.reserved in
    let bl = bit_small f.time_locked in
    let e : bits 1 1 n ≡ bit_of f.extension = omega arith in
    let m : bits 2 4 n ≡ f.number = omega arith in
    let a : bits 6 58 n ≡ f.area = omega arith in
    let r : bits 64 1 n ≡ bit_of f.reserved = omega arith in
    let l : bits 65 1 n ≡ bit_of f.time_locked = omega arith in
    let q : bits 66 2 n ≡ f.pair = omega arith in
    let e' = ap flag e ∙ flag_bit f.extension in
    let r' = ap flag r ∙ flag_bit f.reserved in
    let l' = ap flag l ∙ flag_bit f.time_locked in
    λ i. record { extension = e' i; number = m i; area = a i; reserved = r' i; time_locked = l' i; pair = q i }

-- a PDU passes where its check and its type are right
passed : (n check : ℕ) → n % 4096 ≡ check → bits 0 1 n ≡ 0 → tested n check ≡ Ok tt
passed n check a b =
    cond-true (eqb (n % 4096) check) (cond (eqb (bits 0 1 n) 0) (Ok tt) (Err TypeNotZero)) (Err CheckDiffers) (eq-eqb (n % 4096) check a)
    ∙ cond-true (eqb (bits 0 1 n) 0) (Ok tt) (Err TypeNotZero) (eq-eqb (bits 0 1 n) 0 b)

passed_parts : (n check : ℕ) → tested n check ≡ Ok tt → (n % 4096 ≡ check) × (bits 0 1 n ≡ 0)
passed_parts n check e =
    let good = eqb (n % 4096) check in
    let zero_type = eqb (bits 0 1 n) 0 in
    let inner = cond zero_type (Ok tt) (Err TypeNotZero) in
    ⊎_elim
    (λ (g : good ≡ true). ⊎_elim
    (λ (t : zero_type ≡ true). (eqb-true (n % 4096) check g, eqb-true (bits 0 1 n) 0 t))
    (λ (t : zero_type ≡ false).
    let whole : Err TypeNotZero ≡ Ok tt = sym (cond-false zero_type (Ok tt) (Err TypeNotZero) t) ∙ sym (cond-true good inner (Err CheckDiffers) g) ∙ e in
    let z : ◌≡◌ {A = ℕ} 0 1 = cc in absurd (omega arith))
    (cases_Bool zero_type))
    (λ (g : good ≡ false).
    let whole : Err CheckDiffers ≡ Ok tt = sym (cond-false good inner (Err CheckDiffers) g) ∙ e in
    let z : ◌≡◌ {A = ℕ} 0 1 = cc in absurd (omega arith))
    (cases_Bool good)

fields_parts : (r : Result (Unit {0}) Refusal) (f g : Fields) → ◌≡◌ {A = Result Fields Refusal} (elim r [ Ok _ ↦ Ok f | Err e ↦ Err e ]) (Ok g) → (r ≡ Ok tt) × (f ≡ g)
fields_parts (Ok tt) f g e = (refl, cc)
fields_parts (Err x) f g e = absurd (let z : ◌≡◌ {A = ℕ} 0 1 = cc in omega arith)

-- what parsing gives where the check and the type are right
pub parsed_right : (p : Pdu) → tested (number_of p.bytes) (check_of p.bytes) ≡ Ok tt → parsed p ≡ Ok (fields_of (number_of p.bytes))
parsed_right p e = ap (λ r. elim r [ Ok _ ↦ Ok (fields_of (number_of p.bytes)) | Err x ↦ Err x ]) e

pub composed_right : (f : Fields) → fit f ≡ true → composed f ≡ Ok (checked (unchecked_number f))
composed_right f h = cond-true (fit f) (Ok (checked (unchecked_number f))) (Err OutOfRange) h

-- Fields that were put together are read again.
pub read_again : (f : Fields) → fit f ≡ true → parsed (checked (unchecked_number f)) ≡ Ok f
read_again f h =
    let small = fit_parts f h in
    let be = bit_small f.extension in
    let br = bit_small f.reserved in
    let bl = bit_small f.time_locked in
    let n = unchecked_number f in
    let k = check_of (bytes_of n) in
    let ks = check_small (bytes_of n) in
    let N : number_of (bytes_of (n + k)) ≡ n + k = number_bytes (n + k) (omega arith) in
    let low : (n + k) % 4096 ≡ k = omega arith in
    let top : bits 0 1 (n + k) ≡ 0 = omega arith in
    parsed_right (checked n) (ap₂ tested N (check_kept n k (omega arith) ks) ∙ passed (n + k) k low top)
    ∙ ap Ok (ap fields_of N ∙ fields_again f k h ks)

-- the check and the type of a PDU that is parsed
parsed_parts : (p : Pdu) (f : Fields) → parsed p ≡ Ok f
    → (number_of p.bytes % 4096 ≡ check_of p.bytes) × (bits 0 1 (number_of p.bytes) ≡ 0) × (fields_of (number_of p.bytes) ≡ f)
parsed_parts p f e =
    let n = number_of p.bytes in
    let whole = fields_parts (tested n (check_of p.bytes)) (fields_of n) f e in
    let right = passed_parts n (check_of p.bytes) whole.0 in
    (right.0, right.1, whole.1)

-- the number put together from the fields of a number, but for its check
unchecked_again : (n : ℕ) → n < 2 ^ 80 → bits 0 1 n ≡ 0 → unchecked_number (fields_of n) + n % 4096 ≡ n
unchecked_again n h t =
    let e = bit_flag (bits 1 1 n) (omega arith) in
    let r = bit_flag (bits 64 1 n) (omega arith) in
    let l = bit_flag (bits 65 1 n) (omega arith) in
    omega (arith, e, r, l)

-- A PDU that was parsed is put together again.
pub written_again : (p : Pdu) → TenBytes p.bytes → (f : Fields) → parsed p ≡ Ok f → composed f ≡ Ok p
written_again p ten f e =
    let parts = parsed_parts p f e in
    let n = number_of p.bytes in
    let small = number_small p.bytes ten in
    let k = n % 4096 in
    let u = unchecked_number (fields_of n) in
    let whole : u + k ≡ n = unchecked_again n small parts.1 in
    let check : check_of (bytes_of u) ≡ k =
    sym (check_kept u k (omega arith) (omega arith)) ∙ ap (λ m. check_of (bytes_of m)) whole ∙ ap check_of (bytes_number p.bytes ten) ∙ sym parts.0 in
    let same : bytes_of (u + check_of (bytes_of u)) ≡ p.bytes = ap (λ c. bytes_of (u + c)) check ∙ ap bytes_of whole ∙ bytes_number p.bytes ten in
    let pdu : checked u ≡ p = λ i. record { bytes = same i } in
    ap composed (sym parts.2) ∙ composed_right (fields_of n) (fits (fields_of n) (omega arith) (omega arith) (omega arith)) ∙ ap Ok pdu

pub composed_parts : (f : Fields) (p : Pdu) → composed f ≡ Ok p → (fit f ≡ true) × (checked (unchecked_number f) ≡ p)
composed_parts f p e = ⊎_elim
    (λ (h : fit f ≡ true). let whole : Ok (checked (unchecked_number f)) ≡ Ok p = sym (composed_right f h) ∙ e in (h, cc))
    (λ (h : fit f ≡ false). let whole : Err OutOfRange ≡ Ok p = sym (cond-false (fit f) (Ok (checked (unchecked_number f))) (Err OutOfRange) h) ∙ e in let z : ◌≡◌ {A = ℕ} 0 1 = cc in absurd (omega arith))
    (cases_Bool (fit f))

-- Fields that were put together to a PDU are its fields.
pub parsed_again : (f : Fields) (p : Pdu) → composed f ≡ Ok p → parsed p ≡ Ok f
parsed_again f p e = let parts = composed_parts f p e in ap parsed (sym parts.1) ∙ read_again f parts.0

-- Fields that make a PDU have an area of 58 bits.
pub area_small : (f : Fields) {p : Pdu} → composed f ≡ Ok p → f.area < 2 ^ 58
area_small f {p} e = (fit_parts f (composed_parts f p e).0).1
