-- A parameter, packed and unpacked.
use Rattle.std.proofs.Common.{◌≡◌, ℕ, ◌+◌, ◌*◌, ◌/◌, ◌%◌, ◌^◌, ◌<◌, true, false, cond, not, ◌&&◌, eqb, ltb, Ok, sym, ap, ◌∙◌, ⊎_elim, add_assoc, arith}
use Rattle.std.proofs.lemmas.Bool.{lt-ltb, ltb-true, eq-eqb, ne_eqb, cond-true, cond-false, cases_eq, and_parts, and_from, not_from_false}
use Rattle.pdu.specs.Fields.{flag, bit_of}
use Rattle.message.specs.declared.parameter.LeapSeconds.{LeapSeconds}
use Rattle.message.specs.declared.parameter.LocalTime.{LocalTime}
use Rattle.message.specs.declared.parameter.Parameter.TheVariants.{Leap, Local, Unread}
use Rattle.message.specs.Bits.{field, signed, unsigned, fits_signed}
use Rattle.message.specs.Results.{in_range}
use Rattle.message.specs.Parameter.{leap_of, local_of, parameter_of, parameter_in_range, parameter_packed}
use Rattle.pdu.proofs.Flags.{flag_bit, bit_small, bit_flag}
use Rattle.message.proofs.Ranges.{in_range_lem}
use Rattle.message.proofs.TwosComplement.{signed_again, unsigned_small, unsigned_again, signed_fits}

local_bits : (o s l e : ℕ) → o < 2048 → s < 8 → l < 2 → e < 2 →
    (field 6 16 (3 * 65536 + ((o * 8 + s) * 2 + l) * 2 + e) ≡ 3) × (field 11 5 (3 * 65536 + ((o * 8 + s) * 2 + l) * 2 + e) ≡ o)
    × (field 3 2 (3 * 65536 + ((o * 8 + s) * 2 + l) * 2 + e) ≡ s) × (field 1 1 (3 * 65536 + ((o * 8 + s) * 2 + l) * 2 + e) ≡ l)
    × (field 1 0 (3 * 65536 + ((o * 8 + s) * 2 + l) * 2 + e) ≡ e) × (3 * 65536 + ((o * 8 + s) * 2 + l) * 2 + e < 2 ^ 22)
local_bits o s l e ho hs hl he = (omega arith, omega arith, omega arith, omega arith, omega arith, omega arith)

index_three : (p : ℕ) → p < 2 ^ 22 → field 6 16 p ≡ 3 → 3 * 65536 + p % 2 ^ 16 ≡ p
index_three p h t =
    let whole : field 6 16 p ≡ p / 2 ^ 16 = omega arith in
    let three : p / 2 ^ 16 ≡ 3 = sym whole ∙ t in
    let parts : p / 2 ^ 16 * 65536 + p % 2 ^ 16 ≡ p = omega arith in
    ap (λ m. m * 65536 + p % 2 ^ 16) (sym three) ∙ parts

local_same : (p : ℕ) → p < 2 ^ 22 → field 6 16 p ≡ 3 → 3 * 65536 + ((field 11 5 p * 8 + field 3 2 p) * 2 + field 1 1 p) * 2 + field 1 0 p ≡ p
local_same p h t =
    let a : field 11 5 p * 8 + field 3 2 p ≡ p / 2 ^ 2 % 2 ^ 14 = omega arith in
    let b : p / 2 ^ 2 % 2 ^ 14 * 2 + field 1 1 p ≡ p / 2 % 2 ^ 15 = omega arith in
    let low : p / 2 % 2 ^ 15 * 2 + field 1 0 p ≡ p % 2 ^ 16 = omega arith in
    let high = index_three p h t in
    let c : 3 * 65536 + p / 2 % 2 ^ 15 * 2 + field 1 0 p ≡ p = add_assoc (3 * 65536) (p / 2 % 2 ^ 15 * 2) (field 1 0 p) ∙ ap (λ m. 3 * 65536 + m) low ∙ high in
    ap (λ m. 3 * 65536 + (m * 2 + field 1 1 p) * 2 + field 1 0 p) a ∙ ap (λ m. 3 * 65536 + m * 2 + field 1 0 p) b ∙ c

parameter_zero : (p : ℕ) → field 6 16 p ≡ 0 → parameter_of p ≡ Leap (leap_of p)
parameter_zero p e = cond-true (eqb (field 6 16 p) 0) (Leap (leap_of p)) (cond (eqb (field 6 16 p) 3) (Local (local_of p)) (Unread (field 6 16 p) (field 16 0 p))) (eq-eqb (field 6 16 p) 0 e)

parameter_three : (p : ℕ) → field 6 16 p ≡ 3 → parameter_of p ≡ Local (local_of p)
parameter_three p e =
    cond-false (eqb (field 6 16 p) 0) (Leap (leap_of p)) (cond (eqb (field 6 16 p) 3) (Local (local_of p)) (Unread (field 6 16 p) (field 16 0 p))) (ap (λ m. eqb m 0) e)
    ∙ cond-true (eqb (field 6 16 p) 3) (Local (local_of p)) (Unread (field 6 16 p) (field 16 0 p)) (eq-eqb (field 6 16 p) 3 e)

parameter_other : (p : ℕ) → eqb (field 6 16 p) 0 ≡ false → eqb (field 6 16 p) 3 ≡ false → parameter_of p ≡ Unread (field 6 16 p) (field 16 0 p)
parameter_other p a b =
    cond-false (eqb (field 6 16 p) 0) (Leap (leap_of p)) (cond (eqb (field 6 16 p) 3) (Local (local_of p)) (Unread (field 6 16 p) (field 16 0 p))) a
    ∙ cond-false (eqb (field 6 16 p) 3) (Local (local_of p)) (Unread (field 6 16 p) (field 16 0 p)) b

pub leap_again : (l : LeapSeconds) → parameter_in_range (Leap l) ≡ true → (parameter_packed (Leap l) < 2 ^ 22) × (parameter_of (parameter_packed (Leap l)) ≡ Leap l)
leap_again l h =
    let parts = and_parts (fits_signed 128 l.pending) (fits_signed 128 l.current) h in
    let a = unsigned 128 l.pending in
    let b = unsigned 128 l.current in
    let n = parameter_packed (Leap l) in
    let a_small = unsigned_small 128 l.pending parts.0 in
    let b_small = unsigned_small 128 l.current parts.1 in
    let high : field 8 8 n ≡ a = omega arith in
    let low : field 8 0 n ≡ b = omega arith in
    let zero : field 6 16 n ≡ 0 = omega arith in
    let pending = ap (signed 128) high ∙ signed_again 128 l.pending parts.0 in
    let current = ap (signed 128) low ∙ signed_again 128 l.current parts.1 in
    (omega arith, parameter_zero n zero ∙ (λ i. Leap (record { pending = pending i; current = current i })))

pub local_again : (l : LocalTime) → parameter_in_range (Local l) ≡ true → (parameter_packed (Local l) < 2 ^ 22) × (parameter_of (parameter_packed (Local l)) ≡ Local l)
local_again l h =
    let parts = and_parts (fits_signed 1024 l.offset.0) (ltb l.schedule 8) h in
    let bits =
    local_bits (unsigned 1024 l.offset.0) l.schedule (bit_of l.practised_locally) (bit_of l.in_effect) (unsigned_small 1024 l.offset.0 parts.0) (ltb-true l.schedule 8 parts.1)
    (bit_small l.practised_locally) (bit_small l.in_effect) in
    let offset = ap (signed 1024) bits.1 ∙ signed_again 1024 l.offset.0 parts.0 in
    let schedule = bits.2 in
    let practised = ap flag bits.3 ∙ flag_bit l.practised_locally in
    let effect = ap flag bits.4 ∙ flag_bit l.in_effect in (
      bits.5,
      parameter_three (parameter_packed (Local l)) bits.0
          ∙ (λ i. Local (record { offset = record { 0 = offset i }; schedule = schedule i; practised_locally = practised i; in_effect = effect i })),
    )

pub parameter_packed_lem : (p : ℕ) → p < 2 ^ 22 → in_range (parameter_in_range (parameter_of p)) (parameter_packed (parameter_of p)) ≡ Ok p
parameter_packed_lem p h = ⊎_elim
    (λ (z : field 6 16 p ≡ 0).
    let a = unsigned_again 128 (field 8 8 p) (omega arith) in
    let b = unsigned_again 128 (field 8 0 p) (omega arith) in
    let l = leap_of p in
    let whole : parameter_packed (Leap l) ≡ p = omega (arith, a, b) in
    ap (λ x. in_range (parameter_in_range x) (parameter_packed x)) (parameter_zero p z)
    ∙ in_range_lem (parameter_in_range (Leap l)) (parameter_packed (Leap l)) (and_from (fits_signed 128 l.pending) (fits_signed 128 l.current) (signed_fits 128 (field 8 8 p) (omega arith)) (signed_fits 128 (field 8 0 p) (omega arith)))
    ∙ ap Ok whole)
    (λ (nz : field 6 16 p ≡ 0 → ⊥). ⊎_elim
    (λ (t : field 6 16 p ≡ 3).
    let l = local_of p in
    let o = unsigned_again 1024 (field 11 5 p) (omega arith) in
    let d = bit_flag (field 1 1 p) (omega arith) in
    let e = bit_flag (field 1 0 p) (omega arith) in
    let whole : parameter_packed (Local l) ≡ p =
    (λ i. 3 * 65536 + ((o i * 8 + field 3 2 p) * 2 + d i) * 2 + e i) ∙ local_same p h t in
    ap (λ x. in_range (parameter_in_range x) (parameter_packed x)) (parameter_three p t)
    ∙ in_range_lem (parameter_in_range (Local l)) (parameter_packed (Local l)) (and_from (fits_signed 1024 l.offset.0) (ltb l.schedule 8) (signed_fits 1024 (field 11 5 p) (omega arith)) (lt-ltb l.schedule 8 (omega arith)))
    ∙ ap Ok whole)
    (λ (nt : field 6 16 p ≡ 3 → ⊥).
    let j = field 6 16 p in
    let v = field 16 0 p in
    let a = ne_eqb j 0 nz in
    let b = ne_eqb j 3 nt in
    let whole : parameter_packed (Unread j v) ≡ p = omega arith in
    ap (λ x. in_range (parameter_in_range x) (parameter_packed x)) (parameter_other p a b)
    ∙ in_range_lem (parameter_in_range (Unread j v)) (parameter_packed (Unread j v)) (and_from (ltb j 64 && not (eqb j 0)) (not (eqb j 3)) (and_from (ltb j 64) (not (eqb j 0)) (lt-ltb j 64 (omega arith)) (not_from_false (eqb j 0) a)) (not_from_false (eqb j 3) b))
    ∙ ap Ok whole)
    (cases_eq (field 6 16 p) 3))
    (cases_eq (field 6 16 p) 0)
