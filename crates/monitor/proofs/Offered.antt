-- An offer, from what was read and heard of it.
use Rattle.std.proofs.Common.{◌≡◌, ℕ, Bool, true, cond, List, Ok, Err, Result, sym, refl, ap, ◌∙◌, subst, inl, inr}
use Rattle.std.proofs.lemmas.Bool.{and_parts, cases_Bool}
use Rattle.pdu.specs.declared.refusal.Refusal.{Refusal}
use Rattle.pdu.specs.declared.refusal.Refusal.TheVariants.{UnlawfulFrame}
use Rattle.message.specs.declared.place.Place.{Place}
use Rattle.message.proofs.Ranges.{then_parts}
use Rattle.contents.specs.declared.contents.Contents.{Contents}
use Rattle.contents.specs.Contents.{read_from}
use Rattle.transport.specs.Transport.{message_lawful, second_lawful, contents_lawful, if_lawful, read_with}
use Rattle.transport.specs.Families.{Families, lawful_in}
use Rattle.monitor.specs.declared.monitor.Monitor.{Monitor}
use Rattle.station_information.specs.Hearings.{Hearing}
use Rattle.monitor.specs.Calls.{Call, hearings}
use Rattle.monitor.specs.Agrees.{Holds, Agrees, families_of}

if_lawful_lem : (lawful : Place → ℕ → Bool) (d c : Contents) → if_lawful lawful d d ≡ Ok c → contents_lawful lawful c ≡ true
if_lawful_lem lawful d c e =
    elim (cases_Bool (contents_lawful lawful d)) [
      | inl held ↦ (let f : ◌≡◌ {A = Result Contents Refusal} (Ok d) (Ok c) = sym (ap (λ b. cond b (Ok d) (Err UnlawfulFrame)) held) ∙ e in let same : d ≡ c = cc in subst (λ x. contents_lawful lawful x ≡ true) same held)
      | inr broken ↦ absurd (let f : ◌≡◌ {A = Result Contents Refusal} (Err UnlawfulFrame) (Ok c) = sym (ap (λ b. cond b (Ok d) (Err UnlawfulFrame)) broken) ∙ e in cc)
    ]

-- what was read is lawful, the first message and the second
pub read_lawful : (lawful : Place → ℕ → Bool) (bs : List ℕ) (c : Contents) → read_with lawful bs ≡ Ok c → (message_lawful lawful c.first ≡ true) × (second_lawful lawful c.second ≡ true)
read_lawful lawful bs c e =
    let parts = then_parts (read_from bs) (λ d. if_lawful lawful d d) c e in
    and_parts (message_lawful lawful c.first) (second_lawful lawful c.second) (if_lawful_lem lawful parts.0 c parts.2)

module _ {N T M U E V : Type 0} (f : Families N T M U E V) where
  -- a monitor reads by the families that it agrees with
  pub own_families : (k : List Hearing) (w : Monitor N M E T U V) → Holds f k w → lawful_in (families_of f.name.meaning f.message.meaning f.alert.meaning w) ≡ lawful_in f
  own_families k w holds = rw (← holds.name_agrees.holds.family_is, ← holds.message_agrees.holds.family_is, ← holds.alert_agrees.holds.family_is) refl

  -- what it reads is what they read
  pub read_by_own : (h : List Call) (bs : List ℕ) (w : Monitor N M E T U V) → Agrees f h w → {r : Result Contents Refusal} → read_with (lawful_in (families_of f.name.meaning f.message.meaning f.alert.meaning w)) bs ≡ r → read_with (lawful_in f) bs ≡ r
  read_by_own h bs w agrees read = sym (ap (λ lawful. read_with lawful bs) (own_families (hearings (lawful_in f) h) w agrees)) ∙ read
