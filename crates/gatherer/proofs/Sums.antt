-- Sums of 2^i over empty slots.
use Rattle.std.proofs.Common.{◌≡◌, ℕ, zero, suc, ◌+◌, ◌*◌, ◌%◌, ◌^◌, ◌<◌, ◌≤◌, List, Some, None, Option, refl, pow-suc, add-one, arith}
use lib.Pow.{pow-lt}
use Rattle.family.specs.Meaning.{Meaning}
use Rattle.gatherer.specs.declared.gatherer.Table.{Table}
use Rattle.gatherer.specs.Series.{missing_below, gap_value}
use Rattle.gatherer.specs.Agrees.{empty_sum, slot, Slots}

-- the sum below i, and that it fits i bits
pub record Summed (t : Table) (i sum : ℕ) : Type 0 where
  pub is : sum ≡ empty_sum t i
  pub small : sum < 2 ^ i

gap_small : (o : Option ℕ) (i : ℕ) → gap_value o i ≤ 2 ^ i
gap_small None i = omega arith
gap_small (Some x) i = omega arith

pub summed_more : (t : Table) (i sum new : ℕ) → Summed t i sum → new ≡ sum + gap_value (slot t i) i → Summed t (i + 1) new
summed_more t i sum new k n =
    let p : 2 ^ suc i ≡ 2 ^ i * 2 = pow-suc 2 i in
    let small = gap_small (slot t i) i in
    record { is = rw (add-one i) (omega (arith, k.is)); small = rw (add-one i) (omega (arith, k.small)) }

-- a shift by a slot's number loses no bit
pub shifted : (i : ℕ) → i < 64 → (1 * 2 ^ i) % 18446744073709551616 ≡ 2 ^ i
shifted i l = let p : 2 ^ i < 18446744073709551616 = pow-lt {i = i} {j = 64} l in omega arith

pub empty_missing : {S T : Type 0} (m : Meaning S T) (s : S) (xs : List ℕ) (t : Table) → Slots m s xs t → (n : ℕ) → n ≤ 64 → empty_sum t n ≡ missing_below m s xs n
empty_missing m s xs t slots zero h = refl
empty_missing m s xs t slots (suc n) h =
    let before = empty_missing m s xs t slots n (omega arith) in
    let here = slots n (omega arith) in
    rw (before, here) refl
