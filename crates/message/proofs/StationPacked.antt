-- The station ID and the short name, packed and unpacked.
use Rattle.std.proofs.Common.{◌≡◌, ℕ, ◌+◌, ◌*◌, ◌/◌, ◌^◌, ◌<◌, true, ◌&&◌, ltb, Ok, Err, sym, refl, ap, ◌∙◌, ⊎_elim, arith}
use Rattle.std.proofs.lemmas.Bool.{lt-ltb, ltb-true, ne_eqb, cases_eq, and_parts, and_from}
use Rattle.pdu.specs.declared.refusal.Refusal.TheVariants.{OutOfRange}
use Rattle.message.specs.declared.station.StationId.{StationId}
use Rattle.message.specs.declared.station.CallSignExtension.{CallSignExtension}
use Rattle.message.specs.declared.station.CallSignExtension.TheVariants.{Nothing, DashFm}
use Rattle.message.specs.declared.station.ShortName.{ShortName}
use Rattle.message.specs.Bits.{field}
use Rattle.message.specs.Results.{in_range}
use Rattle.message.specs.Station.{station_of, station_in_range, station_packed, extension_of, extension_bits, short_name_with, short_name_in_range, short_name_of, short_name_packed}
use Rattle.message.proofs.Ranges.{in_range_lem, range_parts, then_ok, then_parts}

-- the station ID
pub station_again : (s : StationId) → station_in_range s ≡ true → (station_packed s < 2 ^ 32) × (station_of (station_packed s) ≡ s)
station_again s h =
    let outer = and_parts (ltb s.country.0 1024 && ltb s.reserved 8) (ltb s.facility (2 ^ 19)) h in
    let inner = and_parts (ltb s.country.0 1024) (ltb s.reserved 8) outer.0 in
    let c = ltb-true s.country.0 1024 inner.0 in
    let r = ltb-true s.reserved 8 inner.1 in
    let f = ltb-true s.facility (2 ^ 19) outer.1 in
    let n = station_packed s in
    let ec : field 10 22 n ≡ s.country.0 = omega arith in
    let er : field 3 19 n ≡ s.reserved = omega arith in
    let ef : field 19 0 n ≡ s.facility = omega arith in
    (omega arith, λ i. record { country = record { 0 = ec i }; reserved = er i; facility = ef i })

pub station_packed_lem : (p : ℕ) → p < 2 ^ 32 → in_range (station_in_range (station_of p)) (station_packed (station_of p)) ≡ Ok p
station_packed_lem p h =
    let s = station_of p in
    let all : station_in_range s ≡ true = and_from (ltb s.country.0 1024 && ltb s.reserved 8) (ltb s.facility (2 ^ 19))
    (and_from (ltb s.country.0 1024) (ltb s.reserved 8) (lt-ltb s.country.0 1024 (omega arith)) (lt-ltb s.reserved 8 (omega arith)))
    (lt-ltb s.facility (2 ^ 19) (omega arith)) in
    let same : station_packed s ≡ p = omega arith in
    in_range_lem (station_in_range s) (station_packed s) all ∙ ap Ok same

-- the short name
extension_again : (e : CallSignExtension) → extension_of (extension_bits e) ≡ Ok e
extension_again Nothing = refl
extension_again DashFm = refl

extension_small : (e : CallSignExtension) → extension_bits e < 2
extension_small Nothing = omega arith
extension_small DashFm = omega arith

extension_bits_lem : (n : ℕ) (e : CallSignExtension) → extension_of n ≡ Ok e → extension_bits e ≡ n
extension_bits_lem n e h = ⊎_elim
    (λ (z : n ≡ 0). let q = ap extension_of z in let r : Nothing ≡ e = cc in ap extension_bits (sym r) ∙ sym z)
    (λ (nz : n ≡ 0 → ⊥). ⊎_elim
    (λ (o : n ≡ 1). let q = ap extension_of o in let r : DashFm ≡ e = cc in ap extension_bits (sym r) ∙ sym o)
    (λ (no : n ≡ 1 → ⊥).
    let q : extension_of n ≡ Err OutOfRange = simp (ne_eqb n 0 nz, ne_eqb n 1 no) in
    absurd (let z : ◌≡◌ {A = ℕ} 0 1 = cc in omega arith))
    (cases_eq n 1))
    (cases_eq n 0)

short_name_parts : (s : ShortName) → short_name_in_range s ≡ true
    → (s.characters.0.0 < 31) × (s.characters.1.0 < 31) × (s.characters.2.0 < 31) × (s.characters.3.0 < 31)
short_name_parts s h =
    let a = s.characters.0.0 in
    let b = s.characters.1.0 in
    let c = s.characters.2.0 in
    let d = s.characters.3.0 in
    let outer = and_parts (ltb a 31 && ltb b 31) (ltb c 31 && ltb d 31) h in
    let left = and_parts (ltb a 31) (ltb b 31) outer.0 in
    let right = and_parts (ltb c 31) (ltb d 31) outer.1 in
    (ltb-true a 31 left.0, ltb-true b 31 left.1, ltb-true c 31 right.0, ltb-true d 31 right.1)

-- the digits of a short name, four of base 32 and one of base 4
name_bits : (a b c d x : ℕ) → a < 32 → b < 32 → c < 32 → d < 32 → x < 2 →
    (field 5 17 ((((a * 32 + b) * 32 + c) * 32 + d) * 4 + x) ≡ a) × (field 5 12 ((((a * 32 + b) * 32 + c) * 32 + d) * 4 + x) ≡ b)
    × (field 5 7 ((((a * 32 + b) * 32 + c) * 32 + d) * 4 + x) ≡ c) × (field 5 2 ((((a * 32 + b) * 32 + c) * 32 + d) * 4 + x) ≡ d)
    × (field 2 0 ((((a * 32 + b) * 32 + c) * 32 + d) * 4 + x) ≡ x) × ((((a * 32 + b) * 32 + c) * 32 + d) * 4 + x < 2 ^ 22)
name_bits a b c d x ha hb hc hd hx = (omega arith, omega arith, omega arith, omega arith, omega arith, omega arith)

name_same : (p x : ℕ) → p < 2 ^ 22 → field 2 0 p ≡ x → (((field 5 17 p * 32 + field 5 12 p) * 32 + field 5 7 p) * 32 + field 5 2 p) * 4 + x ≡ p
name_same p x h e =
    let a : field 5 17 p * 32 + field 5 12 p ≡ p / 2 ^ 12 = omega arith in
    let b : p / 2 ^ 12 * 32 + field 5 7 p ≡ p / 2 ^ 7 = omega arith in
    let c : p / 2 ^ 7 * 32 + field 5 2 p ≡ p / 2 ^ 2 = omega arith in
    let d : p / 2 ^ 2 * 4 + x ≡ p = omega arith in
    ap (λ m. ((m * 32 + field 5 7 p) * 32 + field 5 2 p) * 4 + x) a ∙ ap (λ m. (m * 32 + field 5 2 p) * 4 + x) b ∙ ap (λ m. m * 4 + x) c ∙ d

pub short_name_again : (s : ShortName) → short_name_in_range s ≡ true → (short_name_packed s < 2 ^ 22) × (short_name_of (short_name_packed s) ≡ Ok s)
short_name_again s h =
    let parts = short_name_parts s h in
    let x = extension_small s.extension in
    let n = short_name_packed s in
    let w = s.characters in
    let bits = name_bits w.0.0 w.1.0 w.2.0 w.3.0 (extension_bits s.extension) (omega arith) (omega arith) (omega arith) (omega arith) x in
    let below = bits.5 in
    let e = bits.4 in
    let a = bits.0 in
    let b = bits.1 in
    let c = bits.2 in
    let d = bits.3 in
    let same : short_name_with n s.extension ≡ s =
    λ i. record { characters = (record { 0 = a i }, record { 0 = b i }, record { 0 = c i }, record { 0 = d i }); extension = s.extension } in (
      below,
      then_ok (extension_of (field 2 0 n)) s.extension (λ e. in_range (short_name_in_range (short_name_with n e)) (short_name_with n e)) (ap extension_of e ∙ extension_again s.extension)
          ∙ ap (λ t. in_range (short_name_in_range t) t) same ∙ in_range_lem (short_name_in_range s) s h,
    )

pub short_name_packed_lem : (p : ℕ) (s : ShortName) → p < 2 ^ 22 → short_name_of p ≡ Ok s → in_range (short_name_in_range s) (short_name_packed s) ≡ Ok p
short_name_packed_lem p s h e =
    let parts = then_parts (extension_of (field 2 0 p)) (λ e. in_range (short_name_in_range (short_name_with p e)) (short_name_with p e)) s e in
    let x = parts.0 in
    let t = short_name_with p x in
    let ranged = range_parts (short_name_in_range t) t s parts.2 in
    let bits = extension_bits_lem (field 2 0 p) x parts.1 in
    let same : short_name_packed t ≡ p = name_same p (extension_bits x) h (sym bits) in
    ap (λ u. in_range (short_name_in_range u) (short_name_packed u)) (sym ranged.1) ∙ in_range_lem (short_name_in_range t) (short_name_packed t) ranged.0 ∙ ap Ok same
