-- A service, packed and unpacked.
use Rattle.std.proofs.Common.{◌≡◌, ℕ, ◌+◌, ◌*◌, ◌/◌, ◌^◌, ◌<◌, cond, ◌&&◌, eqb, ltb, Ok, Err, sym, ap, ◌∙◌, ⊎_elim, arith}
use Rattle.std.proofs.lemmas.Bool.{lt-ltb, eq-eqb, ne_eqb, cond-true, cond-false, cases_eq, and_from}
use Rattle.pdu.specs.declared.refusal.Refusal.TheVariants.{OutOfRange}
use Rattle.message.specs.declared.service.Service.{Service}
use Rattle.message.specs.declared.service.Service.TheVariants.{Audio, Data}
use Rattle.message.specs.Bits.{field}
use Rattle.message.specs.Results.{in_range}
use Rattle.message.specs.Service.{audio_of, service_of, service_in_range, service_packed}
use Rattle.pdu.proofs.Flags.{bit_flag}
use Rattle.message.proofs.Ranges.{in_range_lem}

audio_same : (p : ℕ) → p < 2 ^ 27 → field 2 25 p ≡ 0 → (((field 1 24 p * 64 + field 6 18 p) * 256 + field 8 10 p) * 32 + field 5 5 p) * 32 + field 5 0 p ≡ p
audio_same p h e =
    let a : field 1 24 p * 64 + field 6 18 p ≡ p / 2 ^ 18 = omega arith in
    let b : p / 2 ^ 18 * 256 + field 8 10 p ≡ p / 2 ^ 10 = omega arith in
    let c : p / 2 ^ 10 * 32 + field 5 5 p ≡ p / 2 ^ 5 = omega arith in
    let d : p / 2 ^ 5 * 32 + field 5 0 p ≡ p = omega arith in
    ap (λ m. ((m * 256 + field 8 10 p) * 32 + field 5 5 p) * 32 + field 5 0 p) a ∙ ap (λ m. (m * 32 + field 5 5 p) * 32 + field 5 0 p) b ∙ ap (λ m. m * 32 + field 5 0 p) c ∙ d

pub service_packed_lem : (p : ℕ) (s : Service) → p < 2 ^ 27 → service_of p ≡ Ok s → in_range (service_in_range s) (service_packed s) ≡ Ok p
service_packed_lem p s h e =
    let audio = Ok (Audio (audio_of p)) in
    let unread = Ok (Data (field 25 0 p)) in
    ⊎_elim
    (λ (z : field 2 25 p ≡ 0).
    let q : service_of p ≡ Ok (Audio (audio_of p)) = cond-true (eqb (field 2 25 p) 0) audio (cond (eqb (field 2 25 p) 1) unread (Err OutOfRange)) (eq-eqb (field 2 25 p) 0 z) in
    let same : Audio (audio_of p) ≡ s = cc in
    let a = audio_of p in
    let all = and_from (ltb a.program 64 && ltb a.reserved 32) (ltb a.sound 32)
    (and_from (ltb a.program 64) (ltb a.reserved 32) (lt-ltb a.program 64 (omega arith)) (lt-ltb a.reserved 32 (omega arith))) (lt-ltb a.sound 32 (omega arith)) in
    let restricted = bit_flag (field 1 24 p) (omega arith) in
    ap (λ x. in_range (service_in_range x) (service_packed x)) (sym same) ∙ in_range_lem (service_in_range (Audio a)) (service_packed (Audio a)) all
    ∙ ap Ok (ap (λ m. (((m * 64 + field 6 18 p) * 256 + field 8 10 p) * 32 + field 5 5 p) * 32 + field 5 0 p) restricted ∙ audio_same p h z))
    (λ (nz : field 2 25 p ≡ 0 → ⊥). ⊎_elim
    (λ (o : field 2 25 p ≡ 1).
    let q : service_of p ≡ Ok (Data (field 25 0 p)) = cond-false (eqb (field 2 25 p) 0) audio (cond (eqb (field 2 25 p) 1) unread (Err OutOfRange)) (ne_eqb (field 2 25 p) 0 nz)
    ∙ cond-true (eqb (field 2 25 p) 1) unread (Err OutOfRange) (eq-eqb (field 2 25 p) 1 o) in
    let same : Data (field 25 0 p) ≡ s = cc in
    let whole : service_packed (Data (field 25 0 p)) ≡ p = omega arith in
    ap (λ x. in_range (service_in_range x) (service_packed x)) (sym same) ∙ in_range_lem (ltb (field 25 0 p) (2 ^ 25)) (service_packed (Data (field 25 0 p))) (lt-ltb (field 25 0 p) (2 ^ 25) (omega arith)) ∙ ap Ok whole)
    (λ (no : field 2 25 p ≡ 1 → ⊥).
    let q : service_of p ≡ Err OutOfRange = cond-false (eqb (field 2 25 p) 0) audio (cond (eqb (field 2 25 p) 1) unread (Err OutOfRange)) (ne_eqb (field 2 25 p) 0 nz)
    ∙ cond-false (eqb (field 2 25 p) 1) unread (Err OutOfRange) (ne_eqb (field 2 25 p) 1 no) in
    absurd (let z : ◌≡◌ {A = ℕ} 0 1 = cc in omega arith))
    (cases_eq (field 2 25 p) 1))
    (cases_eq (field 2 25 p) 0)
