-- Lists within others, and lists that end alike.
use Rattle.std.proofs.Common.{◌≡◌, ◌≤◌, List, [], ◌∷◌, ◌++◌, length, sym, ap, inr, arith, length-append}
use Rattle.reception.specs.Order.{Within, nothing, omitted, Among}

pub all_omitted : {A : Type 0} (ys : List A) → Within [] ys
all_omitted [] = nothing
all_omitted (y ∷ ys) = omitted (all_omitted ys)

pub within_more : {A : Type 0} {xs ys : List A} (zs : List A) → Within xs ys → Within xs (zs ++ ys)
within_more [] w = w
within_more (z ∷ zs) w = omitted (within_more zs w)

pub among_more : {A : Type 0} (x : A) (zs ys : List A) → Among x ys → Among x (zs ++ ys)
among_more x [] ys i = i
among_more x (z ∷ zs) ys i = inr (among_more x zs ys i)

-- of two ends of a list, the longer ends in the shorter
pub longer_end : {A : Type 0} (xs ys us vs : List A) → xs ++ us ≡ ys ++ vs → length us ≤ length vs → (zs : List A) × (vs ≡ zs ++ us)
longer_end xs [] us vs e l = (xs, sym e)
longer_end [] (y ∷ ys) us vs e l = absurd (let n = ap length e in let k = length-append ys vs in omega arith)
longer_end (x ∷ xs) (y ∷ ys) us vs e l = longer_end xs ys us vs (let f : xs ++ us ≡ ys ++ vs = cc in f) l
