-- Answers that are in range, and answers that follow one another.
use Rattle.std.proofs.Common.{◌≡◌, ℕ, Bool, true, false, Some, None, Ok, Err, Option, Result, refl, ap, arith}
use Rattle.std.proofs.lemmas.Bool.{cond-true}
use Rattle.std.specs.Option.{ok_or}
use Rattle.pdu.specs.declared.refusal.Refusal.{Refusal}
use Rattle.pdu.specs.declared.refusal.Refusal.TheVariants.{OutOfRange}
use Rattle.message.specs.Results.{in_range, and_then}

-- an answer that is refused is no answer
pub refused : {A B : Type 0} (x : Refusal) (a : A) → ◌≡◌ {A = Result A Refusal} (Err x) (Ok a) → B
refused x a e = absurd (let z : ◌≡◌ {A = ℕ} 0 1 = cc in omega arith)

-- what is in range is answered
pub in_range_lem : {A : Type 0} (b : Bool) (x : A) → b ≡ true → in_range b x ≡ Ok x
in_range_lem b x e = cond-true b (Ok x) (Err OutOfRange) e

pub range_parts : {A : Type 0} (b : Bool) (x y : A) → in_range b x ≡ Ok y → (b ≡ true) × (x ≡ y)
range_parts true x y e = (refl, cc)
range_parts false x y e = absurd (let z : ◌≡◌ {A = ℕ} 0 1 = cc in omega arith)

-- a value that was not refused for want of one
pub or_refused : {A : Type 0} (o : Option A) (x : Refusal) (a : A) → ok_or o x ≡ Ok a → o ≡ Some a
or_refused None x a e = refused x a e
or_refused (Some b) x a e = cc

-- an answer that follows another
pub then_ok : {A B : Type 0} (r : Result A Refusal) (a : A) (f : A → Result B Refusal) → r ≡ Ok a → and_then r f ≡ f a
then_ok r a f e = ap (λ x. and_then x f) e

pub then_parts : {A B : Type 0} (r : Result A Refusal) (f : A → Result B Refusal) (b : B) → and_then r f ≡ Ok b → (a : A) × (r ≡ Ok a) × (f a ≡ Ok b)
then_parts (Ok a) f b e = (a, refl, e)
then_parts (Err x) f b e = absurd (let z : ◌≡◌ {A = ℕ} 0 1 = cc in omega arith)
