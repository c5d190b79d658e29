-- The 381 bytes of a text: bytes at the front, and zeros after them.
use Rattle.std.proofs.Common.{◌≡◌, ℕ, ◌+◌, ◌-◌, ◌<◌, ◌≤◌, refl, List, ◌++◌, length, drop, replicate, ⊎_elim, arith}
use Rattle.std.proofs.Math.ListN.{get_or-append}
use Rattle.std.proofs.lemmas.List.{length-append, length-drop, length-replicate, get_or-replicate, get_or-drop, get_or_past, get_or-append_right}
use Rattle.std.proofs.lemmas.Bool.{cases_lt}
use Rattle.family.specs.Meaning.{Bytes}

pub padded_long : (n : ℕ) (xs : List ℕ) → n ≤ 381 → length xs ≡ n → length (xs ++ drop n (replicate 381 0)) ≡ 381
padded_long n xs h e = let zeros = length-replicate {A = ℕ} 381 0 in omega (arith, length-append xs (drop n (replicate 381 0)), length-drop {A = ℕ} n (replicate 381 0), zeros)

zeros_small : (n : ℕ) → Bytes (replicate n 0)
zeros_small n k =
    ⊎_elim (λ (l : k < n). let e = get_or-replicate {A = ℕ} n k 0 0 l in omega (arith, e))
    (λ (l : n ≤ k). let e = get_or_past {X = ℕ} (replicate n 0) k 0 (let q = length-replicate {A = ℕ} n 0 in omega (arith, q)) in omega (arith, e)) (cases_lt k n)

pub padded_small : (n : ℕ) (xs : List ℕ) → Bytes xs → Bytes (xs ++ drop n (replicate 381 0))
padded_small n xs h i =
    ⊎_elim (λ (l : i < length xs). let e = get_or-append xs (drop n (replicate 381 0)) 0 i l in omega (arith, e, h i))
    (λ (l : length xs ≤ i).
    let e = get_or-append_right xs (drop n (replicate 381 0)) (length xs) i 0 refl l in
    let f = get_or-drop {A = ℕ} n (replicate 381 0) (i - length xs) 0 in
    omega (arith, e, f, zeros_small 381 (n + (i - length xs)))) (cases_lt i (length xs))
