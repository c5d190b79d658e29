-- The number of a place.
use Rattle.std.proofs.Common.{◌≡◌, ℕ, Some, None, Option, refl, inl, inr}
use Rattle.std.proofs.lemmas.Bool.{cases_eq, ne_eqb}
use Rattle.message.specs.declared.place.Place.{Place}
use Rattle.message.specs.declared.place.Place.TheVariants.{Name, Message, Alert}
use Rattle.message.specs.Place.{place_number, place_with}

-- a number that is a place's is that of the place
pub place_number_lem : (n : ℕ) (p : Place) → place_with n ≡ Some p → n ≡ place_number p
place_number_lem n p e =
    elim (cases_eq n 2) [
      | inl two ↦ (let f : ◌≡◌ {A = Option Place} (Some Name) (Some p) = rw two at e in let q : Name ≡ p = cc in rw (two, ← q) refl)
      | inr a ↦ elim (cases_eq n 5) [
        | inl five ↦ (let f : ◌≡◌ {A = Option Place} (Some Message) (Some p) = rw five at e in let q : Message ≡ p = cc in rw (five, ← q) refl)
        | inr b ↦ elim (cases_eq n 9) [
          | inl nine ↦ (let f : ◌≡◌ {A = Option Place} (Some Alert) (Some p) = rw nine at e in let q : Alert ≡ p = cc in rw (nine, ← q) refl)
          | inr c ↦ absurd (let f : ◌≡◌ {A = Option Place} None (Some p) = rw (ne_eqb n 2 a, ne_eqb n 5 b, ne_eqb n 9 c) at e in cc)
        ]
      ]
    ]
