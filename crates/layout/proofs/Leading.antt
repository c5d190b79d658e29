-- The leading fields of frame 0 and of a later frame, and their room.
use Rattle.std.proofs.Common.{◌≡◌, ℕ, ◌+◌, ◌*◌, ◌^◌, ◌<◌, ◌≤◌, eqb, ap, ◌∙◌, ⊎_elim, mul-le-mul_right, add-mul, one-mul, arith}
use Rattle.std.proofs.lemmas.Bool.{cases_eq, eq-eqb, ne_eqb, cond-true, cond-false}
use Rattle.layout.specs.declared.layout.FrameLayout.{FrameLayout}
use Rattle.layout.specs.declared.layout.FrameFields.{FrameFields}
use Rattle.layout.specs.Frames.{leading_of, bytes_in, FitFields}

pub unit_below : (b i t : ℕ) → i < 64 → 1 ≤ t → b + i * t + 1 ≤ b + 64 * t
unit_below b i t h s =
    let m : (i + 1) * t ≤ 64 * t = mul-le-mul_right t (omega arith) in
    let e : (i + 1) * t ≡ i * t + t = add-mul i 1 t ∙ ap (λ (x : ℕ). i * t + x) (one-mul t) in
    omega (arith, m, e)

pub leading_first : (f : FrameFields) (i : ℕ) → i ≡ 0 → leading_of f i ≡ f.first_leading
leading_first f i e = cond-true (eqb i 0) f.first_leading (f.later_leading + i * f.number_unit) (eq-eqb i 0 e)

pub leading_later : (f : FrameFields) (i : ℕ) → (i ≡ 0 → ⊥) → leading_of f i ≡ f.later_leading + i * f.number_unit
leading_later f i n = cond-false (eqb i 0) f.first_leading (f.later_leading + i * f.number_unit) (ne_eqb i 0 n)

pub bytes_first : (s : FrameLayout) (i : ℕ) → i ≡ 0 → bytes_in s i ≡ s.first_bytes
bytes_first s i e = cond-true (eqb i 0) s.first_bytes s.later_bytes (eq-eqb i 0 e)

pub bytes_later : (s : FrameLayout) (i : ℕ) → (i ≡ 0 → ⊥) → bytes_in s i ≡ s.later_bytes
bytes_later s i n = cond-false (eqb i 0) s.first_bytes s.later_bytes (ne_eqb i 0 n)

pub room_after : (s : FrameLayout) (f : FrameFields) (i : ℕ) → FitFields s f → i < 64 → (f.later_leading + i * f.number_unit + 1) * 2 ^ (s.byte_bits * s.later_bytes) ≤ 2 ^ 61
room_after s f i r h =
    let b = unit_below f.later_leading i f.number_unit h r.unit_some in
    let m = mul-le-mul_right (2 ^ (s.byte_bits * s.later_bytes)) b in
    omega (arith, m, r.later_fits)

pub room_in : (s : FrameLayout) (f : FrameFields) (i : ℕ) → FitFields s f → i < 64 → (leading_of f i + 1) * 2 ^ (s.byte_bits * bytes_in s i) ≤ 2 ^ 61
room_in s f i r h =
    ⊎_elim (λ (e : i ≡ 0). rw (leading_first f i e, bytes_first s i e) r.first_fits) (λ (n : i ≡ 0 → ⊥). rw (leading_later f i n, bytes_later s i n) (room_after s f i r h)) (cases_eq i 0)
