use Rattle.std.proofs.Common.{◌≡◌, ◌+◌, ◌*◌, [], ◌∷◌, ◌++◌, length, Some, None, Err, inr, sym, refl, ap, ◌∙◌, arith}
use Rattle.std.proofs.lemmas.Iterator.{YieldsList-from_chars}
use Rattle.std.proofs.lemmas.Iterator.Consumers.{YieldsList-from_enumerate, YieldsList-turn, YieldsList-end}
use Rattle.std.proofs.lemmas.List.{length_push}
use Rattle.std.specs.Str.{chars}
use Rattle.hexadecimal.specs.declared.Reading.TheVariants.{Blank, UpperDigit, Byte}
use Rattle.hexadecimal.specs.declared.text.TextError.TheVariants.{OddDigits}
use Rattle.hexadecimal.specs.Spelled.{ended}
use Rattle.hexadecimal.proofs.Spelling.{goes_on, stops, ends}
use Rattle.hexadecimal.proofs.text.bytes_of.Goals as goal

pub loop-i-preserved-in-Blank : goal.loop-i-preserved-in-Blank
loop-i-preserved-in-Blank c =
    let t = YieldsList-turn (YieldsList-from_enumerate (YieldsList-from_chars c.args.text.now c.utf8.text cc) (cc)) c.loop-i.yielded _ c.loop-i.yielded_by _ _ (c.in-Some.i, c.in-Some.character) c.in-Some.is c.next.ensures.steps in
    goes_on (chars c.args.text.now) _ (length c.loop-i.yielded) c.in-Some.i c.in-Some.character c.loop-i.bytes.items c.loop-i.upper t c.loop-i.invariant
    _ c.loop-i.bytes.items c.loop-i.upper Blank (length_push c.loop-i.yielded (c.in-Some.i, c.in-Some.character)) (sym c.in-Blank.is ∙ c.read_character.ensures) refl

pub loop-i-preserved-in-UpperDigit : goal.loop-i-preserved-in-UpperDigit
loop-i-preserved-in-UpperDigit c =
    let t = YieldsList-turn (YieldsList-from_enumerate (YieldsList-from_chars c.args.text.now c.utf8.text cc) (cc)) c.loop-i.yielded _ c.loop-i.yielded_by _ _ (c.in-Some.i, c.in-Some.character) c.in-Some.is c.next.ensures.steps in
    goes_on (chars c.args.text.now) _ (length c.loop-i.yielded) c.in-Some.i c.in-Some.character c.loop-i.bytes.items c.loop-i.upper t c.loop-i.invariant
    _ c.loop-i.bytes.items (Some c.in-UpperDigit.digit) (UpperDigit c.in-UpperDigit.digit) (length_push c.loop-i.yielded (c.in-Some.i, c.in-Some.character)) (sym c.in-UpperDigit.is ∙ c.read_character.ensures) refl

pub loop-i-preserved : goal.loop-i-preserved
loop-i-preserved c =
    let t = YieldsList-turn (YieldsList-from_enumerate (YieldsList-from_chars c.args.text.now c.utf8.text cc) (cc)) c.loop-i.yielded _ c.loop-i.yielded_by _ _ (c.in-Some.i, c.in-Some.character) c.in-Some.is c.next.ensures.steps in
    rw c.in_ok-push-in-Byte.ensures.items
    (goes_on (chars c.args.text.now) _ (length c.loop-i.yielded) c.in-Some.i c.in-Some.character c.loop-i.bytes.items c.loop-i.upper t c.loop-i.invariant
    _ (c.loop-i.bytes.items ++ c.in-Byte.byte ∷ []) None (Byte c.in-Byte.byte) (length_push c.loop-i.yielded (c.in-Some.i, c.in-Some.character)) (sym c.in-Byte.is ∙ c.read_character.ensures) refl)

pub returns-in-NoDigit-clause-refused : goal.returns-in-NoDigit-clause-refused
returns-in-NoDigit-clause-refused c =
    let t = YieldsList-turn (YieldsList-from_enumerate (YieldsList-from_chars c.args.text.now c.utf8.text cc) (cc)) c.loop-i.yielded _ c.loop-i.yielded_by _ _ (c.in-Some.i, c.in-Some.character) c.in-Some.is c.next.ensures.steps in
    inr (stops (chars c.args.text.now) _ (length c.loop-i.yielded) c.in-Some.i c.in-Some.character c.loop-i.bytes.items c.loop-i.upper t c.loop-i.invariant (sym c.in-NoDigit.is ∙ c.read_character.ensures))

pub returns-in-None-upper-clause-bytes : goal.returns-in-None-upper-clause-bytes
returns-in-None-upper-clause-bytes c =
    let t = YieldsList-end (YieldsList-from_enumerate (YieldsList-from_chars c.args.text.now c.utf8.text cc) (cc)) c.loop-i.yielded _ c.loop-i.yielded_by _ _ c.in-None.is c.next.ensures.steps in
    ends (chars c.args.text.now) _ c.loop-i.bytes.items c.loop-i.upper _ t.1 c.loop-i.invariant ∙ ap (ended c.loop-i.bytes.items) c.in-None-upper.is

pub returns-in-Some-upper-clause-refused : goal.returns-in-Some-upper-clause-refused
returns-in-Some-upper-clause-refused c =
    let t = YieldsList-end (YieldsList-from_enumerate (YieldsList-from_chars c.args.text.now c.utf8.text cc) (cc)) c.loop-i.yielded _ c.loop-i.yielded_by _ _ c.in-None.is c.next.ensures.steps in
    let counted : length c.loop-i.bytes.items ≡ c.len.result = omega (arith, c.loop-i.bytes.ok.0, c.len.ensures) in
    inr (ends (chars c.args.text.now) _ c.loop-i.bytes.items c.loop-i.upper _ t.1 c.loop-i.invariant ∙ ap (ended c.loop-i.bytes.items) c.in-Some-upper.is ∙ ap (λ x. Err (OddDigits (2 * x + 1))) counted)
