-- Ten bytes and the number that they spell.
use Rattle.std.proofs.Common.{◌≡◌, ℕ, ◌/◌, ◌%◌, ◌^◌, ◌<◌, List, [], ◌∷◌, length, get_or, sym, refl, ◌∙◌, arith}
use Rattle.pdu.specs.Bytes.{TenBytes, number_of, bytes_of}

-- a list of length ten is its ten elements
pub spelled : (bs : List ℕ) → length bs ≡ 10 → bs ≡ get_or bs 0 0 ∷ get_or bs 1 0 ∷ get_or bs 2 0 ∷ get_or bs 3 0 ∷ get_or bs 4 0 ∷ get_or bs 5 0 ∷ get_or bs 6 0 ∷ get_or bs 7 0 ∷ get_or bs 8 0 ∷ get_or bs 9 0 ∷ []
spelled [] l = absurd (omega arith)
spelled (a ∷ []) l = absurd (omega arith)
spelled (a ∷ b ∷ []) l = absurd (omega arith)
spelled (a ∷ b ∷ c ∷ []) l = absurd (omega arith)
spelled (a ∷ b ∷ c ∷ d ∷ []) l = absurd (omega arith)
spelled (a ∷ b ∷ c ∷ d ∷ e ∷ []) l = absurd (omega arith)
spelled (a ∷ b ∷ c ∷ d ∷ e ∷ f ∷ []) l = absurd (omega arith)
spelled (a ∷ b ∷ c ∷ d ∷ e ∷ f ∷ g ∷ []) l = absurd (omega arith)
spelled (a ∷ b ∷ c ∷ d ∷ e ∷ f ∷ g ∷ h ∷ []) l = absurd (omega arith)
spelled (a ∷ b ∷ c ∷ d ∷ e ∷ f ∷ g ∷ h ∷ i ∷ []) l = absurd (omega arith)
spelled (a ∷ b ∷ c ∷ d ∷ e ∷ f ∷ g ∷ h ∷ i ∷ j ∷ []) l = refl
spelled (a ∷ b ∷ c ∷ d ∷ e ∷ f ∷ g ∷ h ∷ i ∷ j ∷ k ∷ ks) l = absurd (omega arith)

pub number_small : (bs : List ℕ) → TenBytes bs → number_of bs < 2 ^ 80
number_small bs h = omega (arith, h.1 0, h.1 1, h.1 2, h.1 3, h.1 4, h.1 5, h.1 6, h.1 7, h.1 8, h.1 9)

pub number_bytes : (n : ℕ) → n < 2 ^ 80 → number_of (bytes_of n) ≡ n
number_bytes n h = omega arith

cons : {x y : ℕ} {xs ys : List ℕ} → x ≡ y → xs ≡ ys → ◌≡◌ {A = List ℕ} (x ∷ xs) (y ∷ ys)
cons p q = λ i. p i ∷ q i

pub bytes_number : (bs : List ℕ) → TenBytes bs → bytes_of (number_of bs) ≡ bs
bytes_number bs h =
    let n = number_of bs in
    let h0 = h.1 0 in
    let h1 = h.1 1 in
    let h2 = h.1 2 in
    let h3 = h.1 3 in
    let h4 = h.1 4 in
    let h5 = h.1 5 in
    let h6 = h.1 6 in
    let h7 = h.1 7 in
    let h8 = h.1 8 in
    let h9 = h.1 9 in
    let e0 : n / 2 ^ 72 % 256 ≡ get_or bs 0 0 = omega arith in
    let e1 : n / 2 ^ 64 % 256 ≡ get_or bs 1 0 = omega arith in
    let e2 : n / 2 ^ 56 % 256 ≡ get_or bs 2 0 = omega arith in
    let e3 : n / 2 ^ 48 % 256 ≡ get_or bs 3 0 = omega arith in
    let e4 : n / 2 ^ 40 % 256 ≡ get_or bs 4 0 = omega arith in
    let e5 : n / 2 ^ 32 % 256 ≡ get_or bs 5 0 = omega arith in
    let e6 : n / 2 ^ 24 % 256 ≡ get_or bs 6 0 = omega arith in
    let e7 : n / 2 ^ 16 % 256 ≡ get_or bs 7 0 = omega arith in
    let e8 : n / 2 ^ 8 % 256 ≡ get_or bs 8 0 = omega arith in
    let e9 : n % 256 ≡ get_or bs 9 0 = omega arith in
    cons e0 (cons e1 (cons e2 (cons e3 (cons e4 (cons e5 (cons e6 (cons e7 (cons e8 (cons e9 refl))))))))) ∙ sym (spelled bs h.0)
