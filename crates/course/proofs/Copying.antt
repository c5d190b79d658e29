-- A text copied to a buffer, and made of what it left there.
use Rattle.std.proofs.Common.{◌≡◌, ℕ, replicate, subst, Option, leb, ◌<◌, ◌≤◌, List, length, take, Some, None, Ok, Err, Result, refl, ap, ◌∙◌, arith}
use Rattle.std.proofs.lemmas.Bool.{cond-true, le-leb}
use Rattle.std.specs.Result.{result_ok}
use Rattle.pdu.specs.declared.refusal.Refusal.{Refusal}
use Rattle.pdu.specs.declared.refusal.Refusal.TheVariants.{TextLength}
use Rattle.family.specs.declared.text.Text.{Text}
use Rattle.family.specs.Texts.{text_view, text_taken}
use Rattle.message.specs.declared.place.Place.{Place}
use Rattle.message.specs.Place.{place_number}
use Rattle.transport.specs.Families.{Families}
use Rattle.monitor.specs.Calls.{Call}
use Rattle.monitor.specs.Shown.{TextDue}
use Rattle.course.specs.Shown.{bytes_in, copied, ShowsText}

-- a copy asked for by the place's number
pub shows_text : {N T M U E V : Type 0} (f : Families N T M U E V) (h : List Call) (p : Place) (t : Option Text) (answer : Result ℕ Refusal) (left : List ℕ) (number : ℕ) → number ≡ place_number p → TextDue f h number (replicate 381 0) answer left → bytes_in t ≡ copied answer left → ShowsText f h p t
shows_text f h p t answer left number e due is = record { answer = answer; left = left; due = subst (λ q. TextDue f h q (replicate 381 0) answer left) e due; text_is = is }

pub none_copied : (r : Result ℕ Refusal) (left : List ℕ) → None ≡ result_ok r → None ≡ copied r left
none_copied (Ok n) left e = cc
none_copied (Err x) left e = refl

pub long_copied : (r : Result ℕ Refusal) (left : List ℕ) (n : ℕ) → Some n ≡ result_ok r → 381 < n → None ≡ copied r left
long_copied (Ok n) left m e h = let same : m ≡ n = cc in grind arith
long_copied (Err x) left m e h = cc

pub text_copied : (r : Result ℕ Refusal) (left : List ℕ) (n : ℕ) → Some n ≡ result_ok r → n ≤ 381 → copied r left ≡ Some (take n left)
text_copied (Ok n) left m e h = let same : m ≡ n = cc in grind arith
text_copied (Err x) left m e h = cc

viewed : (r : Result Text Refusal) → bytes_in (result_ok r) ≡ result_ok (text_view r)
viewed (Ok t) = refl
viewed (Err x) = refl

pub text_made : (r : Result Text Refusal) (bs : List ℕ) → text_view r ≡ text_taken bs → length bs ≤ 381 → bytes_in (result_ok r) ≡ Some bs
text_made r bs e h = viewed r ∙ ap result_ok e ∙ ap result_ok (cond-true (leb (length bs) 381) (Ok bs) (Err TextLength) (le-leb (length bs) 381 h))
