use Rattle.std.proofs.Common.{◌≡◌, ℕ, ◌+◌, ◌*◌, ◌^◌, ◌<◌, true, sym, subst, rules}
use Rattle.message.specs.declared.parameter.Parameter.{Parameter}
use Rattle.message.specs.Parameter.{parameter_of, parameter_in_range, parameter_packed}
use Rattle.message.proofs.ParameterPacked.{leap_again, local_again}
use Rattle.message.proofs.parameter.Parameter.packed.Goals as goal

-- what is packed under another name
via : (q k : Parameter) (n : ℕ) → q ≡ k → n ≡ parameter_packed q → (parameter_in_range k ≡ true → (parameter_packed k < 2 ^ 22) × (parameter_of (parameter_packed k) ≡ k))
    → parameter_in_range q ≡ true → (n < 2 ^ 22) × (parameter_of n ≡ q)
via q k n is value again range =
    subst (λ (m : ℕ). (m < 2 ^ 22) × (parameter_of m ≡ q)) (sym value)
    (subst (λ (x : Parameter). (parameter_packed x < 2 ^ 22) × (parameter_of (parameter_packed x) ≡ x)) (sym is) (again (subst (λ (x : Parameter). parameter_in_range x ≡ true) is range)))

pub returns-in-Leap : goal.returns-in-Leap
returns-in-Leap c =
    let q = c.args.self in
    let n = c.field_with-pending.result * 256 + c.field_with.result in
    let value : n ≡ parameter_packed q = search rules in
    record { value = value; read_again = via q _ n c.in-Leap.is value (leap_again c.in-Leap.leap) c.requires }

pub returns-in-Local : goal.returns-in-Local
returns-in-Local c =
    let q = c.args.self in
    let n = 196608 + ((c.field_with-offset.result * 8 + c.from-in-Local-2.result) * 2 + c.from-in-Local-3.result) * 2 + c.from-in-Local-4.result in
    let value : n ≡ parameter_packed q = search rules in
    record { value = value; read_again = via q _ n c.in-Local.is value (local_again c.in-Local.local) c.requires }
