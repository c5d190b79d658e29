-- One half of a location, packed and unpacked.
use Rattle.std.proofs.Common.{◌≡◌, ℕ, suc, ◌+◌, ◌*◌, ◌^◌, ◌<◌, true, eqb, ltb, leb, ℤ, pos, negsuc, nat_abs, Ok, sym, ap, ◌∙◌, ⊎_elim, arith}
use Rattle.std.proofs.lemmas.Bool.{lt-ltb, ltb-true, leb-true, eq-eqb, cond-true, cond-false, cases_eq, and_parts}
use Rattle.message.specs.declared.location.Half.{Half}
use Rattle.message.specs.declared.location.LocationHalf.{LocationHalf}
use Rattle.message.specs.declared.location.LocationHalf.TheVariants.{Latitude, Longitude}
use Rattle.message.specs.Bits.{field, signed, unsigned, fits_signed}
use Rattle.message.specs.Results.{in_range}
use Rattle.message.specs.Location.{latitude_limit, longitude_limit, half_under, in_range_under, packed_under, half_of, half_in_range, half_packed}
use Rattle.message.proofs.Ranges.{in_range_lem, range_parts}
use Rattle.message.proofs.TwosComplement.{signed_again, unsigned_small, unsigned_again}

-- an angle within a limit fits its 22 bits
pub angle_fits : (z : ℤ) (limit : ℕ) → limit < 2 ^ 21 → leb (nat_abs z) limit ≡ true → fits_signed (2 ^ 21) z ≡ true
angle_fits (pos n) limit l e = let m = leb-true n limit e in lt-ltb n (2 ^ 21) (omega arith)
angle_fits (negsuc n) limit l e = let m = leb-true (suc n) limit e in lt-ltb n (2 ^ 21) (omega arith)

half_bits : (top z : ℕ) (u : ℕ) → top < 2 → z < 2 ^ 22 → u < 16 → (field 1 26 (top * 2 ^ 26 + z * 16 + u) ≡ top) × (field 22 4 (top * 2 ^ 26 + z * 16 + u) ≡ z) × (field 4 0 (top * 2 ^ 26 + z * 16 + u) ≡ u) × (top * 2 ^ 26 + z * 16 + u < 2 ^ 27)
half_bits top z u t h k = (omega arith, omega arith, omega arith, omega arith)

-- either half, packed behind the bit that tells which it is
again_under : (limit top n : ℕ) (h : Half limit) → limit < 2 ^ 21 → top < 2 → in_range_under limit h ≡ true → n ≡ top * 2 ^ 26 + packed_under limit h →
    (field 1 26 n ≡ top) × (half_under limit n ≡ h) × (n < 2 ^ 27)
again_under limit top n h l t e is =
    let parts = and_parts (leb (nat_abs h.angle.0) limit) (ltb h.altitude 16) e in
    let fits = angle_fits h.angle.0 limit l parts.0 in
    let z = unsigned (2 ^ 21) h.angle.0 in
    let small = unsigned_small (2 ^ 21) h.angle.0 fits in
    let shape : n ≡ top * 2 ^ 26 + z * 16 + h.altitude = omega arith in
    let bits = half_bits top z h.altitude t (omega arith) (ltb-true h.altitude 16 parts.1) in
    let angle = ap (λ m. signed (2 ^ 21) (field 22 4 m)) shape ∙ ap (signed (2 ^ 21)) bits.1 ∙ signed_again (2 ^ 21) h.angle.0 fits in
    let altitude = ap (field 4 0) shape ∙ bits.2 in
    let below = bits.3 in
    (ap (field 1 26) shape ∙ bits.0, λ i. record { angle = record { 0 = angle i }; altitude = altitude i }, omega arith)

-- which half a payload is
is_latitude : (p : ℕ) → field 1 26 p ≡ 1 → half_of p ≡ Latitude (half_under latitude_limit p)
is_latitude p e = cond-true (eqb (field 1 26 p) 1) (Latitude (half_under latitude_limit p)) (Longitude (half_under longitude_limit p)) (eq-eqb (field 1 26 p) 1 e)

is_longitude : (p : ℕ) → field 1 26 p ≡ 0 → half_of p ≡ Longitude (half_under longitude_limit p)
is_longitude p e = cond-false (eqb (field 1 26 p) 1) (Latitude (half_under latitude_limit p)) (Longitude (half_under longitude_limit p)) (ap (λ m. eqb m 1) e)

pub half_again : (h : LocationHalf) → half_in_range h ≡ true → (half_packed h < 2 ^ 27) × (half_of (half_packed h) ≡ h)
half_again (Latitude h) e =
    let n = half_packed (Latitude h) in
    let again = again_under latitude_limit 1 n h (omega arith) (omega arith) e (omega arith) in
    (again.2, is_latitude n again.0 ∙ ap Latitude again.1)
half_again (Longitude h) e =
    let n = half_packed (Longitude h) in
    let again = again_under longitude_limit 0 n h (omega arith) (omega arith) e (omega arith) in
    (again.2, is_longitude n again.0 ∙ ap Longitude again.1)

half_same : (p : ℕ) → p < 2 ^ 27 → half_packed (half_of p) ≡ p
half_same p h =
    let z = unsigned_again (2 ^ 21) (field 22 4 p) (omega arith) in
    ⊎_elim
    (λ (t : field 1 26 p ≡ 1). ap half_packed (is_latitude p t) ∙ omega (arith, z))
    (λ (t : field 1 26 p ≡ 1 → ⊥).
    let o : field 1 26 p ≡ 0 = grind arith in
    ap half_packed (is_longitude p o) ∙ omega (arith, z, o))
    (cases_eq (field 1 26 p) 1)

pub half_packed_lem : (p : ℕ) (h : LocationHalf) → p < 2 ^ 27 → in_range (half_in_range (half_of p)) (half_of p) ≡ Ok h → in_range (half_in_range h) (half_packed h) ≡ Ok p
half_packed_lem p h l e =
    let ranged = range_parts (half_in_range (half_of p)) (half_of p) h e in
    ap (λ x. in_range (half_in_range x) (half_packed x)) (sym ranged.1) ∙ in_range_lem (half_in_range (half_of p)) (half_packed (half_of p)) ranged.0 ∙ ap Ok (half_same p l)
