use Rattle.std.proofs.Common.{◌≡◌, ℕ, ◌+◌, ◌*◌, ◌%◌, ◌^◌, ◌<◌, ◌≤◌, List, ap, arith}
use Rattle.layout.specs.declared.layout.FrameLayout.{FrameLayout}
use Rattle.layout.specs.declared.layout.FrameFields.{FrameFields}
use Rattle.layout.specs.Frames.{with_bytes, place_of, bytes_in, leading_of, Cuttable}
use Rattle.layout.proofs.Packing.{shifted, with_bytes_below, trailing_below}
use Rattle.layout.proofs.Leading.{room_in}
use Rattle.layout.proofs.cut.Cut.frame.Goals as goal

below : (s : FrameLayout) (f : FrameFields) (t : List ℕ) (i y : ℕ) → Cuttable s f t → i < 64
    → y ≡ with_bytes (leading_of f i) s.byte_bits t (place_of s i) (bytes_in s i) → y * (1 * 2 ^ s.trailing_bits % 18446744073709551616) + f.trailing < 2 ^ 64
below s f t i y ok h e =
    let q = with_bytes_below (leading_of f i) s.byte_bits t (place_of s i) (bytes_in s i) ok.bytes_fit in
    let k = room_in s f i ok.fields_fit h in
    let few : s.trailing_bits ≤ 3 = ok.layout_fits.trailing_bits_few in
    let b : y < 2 ^ 61 = omega (arith, q, k, e) in
    let v : y * (1 * 2 ^ s.trailing_bits % 18446744073709551616) ≡ y * 2 ^ s.trailing_bits = ap (λ (x : ℕ). y * x) (shifted s.trailing_bits (omega arith)) in
    let z = trailing_below y s.trailing_bits f.trailing b few ok.fields_fit.trailing_fits in
    omega (arith, v, z)

pub overflow_mul-result : goal.overflow_mul-result
overflow_mul-result c =
    let s = c.args.self.now in
    let b = below s.layout s.fields s.text.now c.args.i c.before_trailing.result s.cuttable c.requires.near c.before_trailing.ensures in
    record { fits = omega (arith, b) }

pub overflow_add-result : goal.overflow_add-result
overflow_add-result c =
    let s = c.args.self.now in
    let b = below s.layout s.fields s.text.now c.args.i c.before_trailing.result s.cuttable c.requires.near c.before_trailing.ensures in
    record { fits = omega (arith, b) }
