-- The coefficients of a PDU's polynomial.
use Rattle.std.proofs.Common.{◌≡◌, ℕ, zero, suc, ◌+◌, ◌-◌, ◌*◌, ◌/◌, ◌%◌, ◌^◌, ◌<◌, ltb, List, ◌∷◌, get_or, sym, refl, ap, ap₂, mod-lt, arith}
use Rattle.std.proofs.lemmas.Bool.{lt-ltb, cond-true, cond_both}
use Rattle.pdu.specs.Check.{bit_at, coefficient, down_from}
use Rattle.pdu.specs.Division.{Coefficients, divided, lowered}

pub bit_small : (bs : List ℕ) (i : ℕ) → bit_at bs i < 2
bit_small bs i = mod-lt (get_or bs (i / 8) 0 / 2 ^ (7 - i % 8)) (omega arith)

-- below 68 the coefficients are the PDU's bits
pub coefficient_is : (bs : List ℕ) (i : ℕ) → i < 68 → bit_at bs i ≡ coefficient bs i
coefficient_is bs i h = sym (cond-true (ltb i 68) (bit_at bs i) 0 (lt-ltb i 68 h))

pub binary : (bs : List ℕ) (n : ℕ) → Coefficients (down_from (coefficient bs) n)
unfolding down_from
binary bs zero = tt
binary bs (suc n) = (cond_both (ltb n 68) (bit_at bs n) 0 (λ c. c < 2) (λ e. bit_small bs n) (λ e. omega arith), binary bs n)

-- one step of long division takes the highest coefficient
pub next : (d g : ℕ) (f : ℕ → ℕ) (r i : ℕ) → 0 < i → divided d g r (down_from f i) ≡ divided d g (lowered d g (r * 2 + f (i - 1))) (down_from f (i - 1))
unfolding down_from divided
next d g f r i h =
    let e : i ≡ suc (i - 1) = omega arith in
    ap (λ j. divided d g r (down_from f j)) e

-- lists of coefficients that agree are equal
pub agree : (f g : ℕ → ℕ) (n : ℕ) → ((i : ℕ) → i < n → f i ≡ g i) → down_from f n ≡ down_from g n
unfolding down_from
agree f g zero h = refl
agree f g (suc n) h = ap₂ ◌∷◌ (h n (omega arith)) (agree f g n (λ i l. h i (omega arith)))
