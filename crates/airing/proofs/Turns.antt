-- Numbers in a round of n.
use Rattle.std.proofs.Common.{◌≡◌, ℕ, ◌+◌, ◌-◌, ◌%◌, ◌<◌, sym, ap, ◌∙◌, inl, inr, mod-lt, mod-eq_of_lt, arith}
use native.Mathlib.Nat.{mod_self, mod-eq-sub-mod, mod-add-mod, add-mod-mod, add-mod_right}
use Rattle.std.proofs.lemmas.Bool.{cases_lt, lt-ltb, le-ltb}
use Rattle.airing.specs.Steps.{successor_in}

pub successor_mod : (k n : ℕ) → 0 < n → successor_in n (k % n) ≡ (k + 1) % n
successor_mod k n h =
    let l : k % n < n = mod-lt k h in
    let m : (k % n + 1) % n ≡ (k + 1) % n = mod-add-mod k n 1 in
    elim (cases_lt (k % n + 1) n) [
      | inl lt ↦ rw (lt-ltb (k % n + 1) n lt) (sym (mod-eq_of_lt lt) ∙ m)
      | inr ge ↦ (let e : k % n + 1 ≡ n = omega arith in rw (le-ltb (k % n + 1) n ge) (sym (mod_self n) ∙ ap (λ (j : ℕ). j % n) (sym e) ∙ m))
    ]

-- numbers less than a round apart differ in it
pub apart : (a d n : ℕ) → 0 < d → d < n → (a + d) % n ≡ a % n → ⊥
apart a d n pos lt e =
    let b = a % n in
    let b_fits : b < n = mod-lt a (omega arith) in
    let f : (b + d) % n ≡ b = mod-add-mod a n d ∙ e in
    elim (cases_lt (b + d) n) [
      | inl l ↦ (let g : (b + d) % n ≡ b + d = mod-eq_of_lt l in omega arith)
      | inr l ↦ (let g : (b + d) % n ≡ (b + d - n) % n = mod-eq-sub-mod l in
          let l2 : b + d - n < n = omega arith in
          let g2 : (b + d - n) % n ≡ b + d - n = mod-eq_of_lt l2 in omega arith)
    ]

pub only_one : (g k j n : ℕ) → k < n → j < n → (g + k) % n ≡ (g + j) % n → k ≡ j
only_one g k j n lk lj e =
    elim (cases_lt k j) [
      | inl l ↦ absurd (apart (g + k) (j - k) n (omega arith) (omega arith) (ap (λ (v : ℕ). v % n) (let f : g + k + (j - k) ≡ g + j = omega arith in f) ∙ sym e))
      | inr l ↦ elim (cases_lt j k) [
        | inl l2 ↦ absurd (apart (g + j) (k - j) n (omega arith) (omega arith) (ap (λ (v : ℕ). v % n) (let f : g + j + (k - j) ≡ g + k = omega arith in f) ∙ e))
        | inr l2 ↦ omega arith
      ]
    ]

-- how far from g the number i comes
unfoldable pub distance : ℕ → ℕ → ℕ → ℕ
distance g i n = (i + (n - g % n)) % n

pub distance_reaches : (g i n : ℕ) → i < n → (g + distance g i n) % n ≡ i
unfolding distance
distance_reaches g i n l =
    let b_fits : g % n < n = mod-lt g (omega arith) in
    let e : g % n + (i + (n - g % n)) ≡ i + n = omega arith in
    add-mod-mod g (i + (n - g % n)) n ∙ sym (mod-add-mod g n (i + (n - g % n))) ∙ ap (λ (j : ℕ). j % n) e ∙ add-mod_right i n ∙ mod-eq_of_lt l

pub distance_fits : (g i n : ℕ) → i < n → distance g i n < n
unfolding distance
distance_fits g i n l = mod-lt (i + (n - g % n)) (omega arith)
