-- What a text spells, a character at a time.
use Rattle.std.proofs.Common.{◌≡◌, ℕ, ◌+◌, ◌<◌, List, [], ◌∷◌, ◌++◌, length, get_or, drop, Option, Some, None, Result, Err, sym, ap, ◌∙◌, subst, zero-add, arith}
use Rattle.std.proofs.lemmas.List.{drop_more, at_drop_all}
use Rattle.std.proofs.lemmas.List.FromFn.{length-enumerate_from, get_or-enumerate_from}
use Rattle.std.specs.List.{enumerate_from}
use Rattle.hexadecimal.specs.declared.Reading.{Reading}
use Rattle.hexadecimal.specs.declared.Reading.TheVariants.{Blank, UpperDigit, Byte, NoDigit}
use Rattle.hexadecimal.specs.declared.text.TextError.{TextError}
use Rattle.hexadecimal.specs.declared.text.TextError.TheVariants.{NoDigit as NoDigitAt}
use Rattle.hexadecimal.specs.Hexadecimal.{reading_of}
use Rattle.hexadecimal.specs.Spelled.{ended, spelled}

-- this turn's pair is the next character with its index
at_character : (cs : List ℕ) (n i c : ℕ) → (n < length (enumerate_from 0 cs)) × ((i, c) ≡ get_or (enumerate_from 0 cs) n (i, c)) → (i ≡ n) × (drop n cs ≡ c ∷ drop (n + 1) cs)
at_character cs n i c t =
    let within : n < length cs = omega (arith, t.0, length-enumerate_from 0 cs) in
    let pair = t.1 ∙ get_or-enumerate_from 0 cs n (i, c) within in
    (ap (λ p. p.0) pair ∙ zero-add n, drop_more cs n c within ∙ ap (λ x. x ∷ drop (n + 1) cs) (sym (ap (λ p. p.1) pair)))

-- what a character of this reading leads to
abbrev leads_to : Option ℕ → ℕ → List ℕ → List ℕ → ℕ → Reading → Result (List ℕ) TextError
leads_to u k b rest c Blank = spelled (k + 1) b u rest
leads_to u k b rest c (UpperDigit d) = spelled (k + 1) b (Some d) rest
leads_to u k b rest c (Byte d) = spelled (k + 1) (b ++ d ∷ []) None rest
leads_to u k b rest c NoDigit = Err (NoDigitAt k c)

read : (u : Option ℕ) (k : ℕ) (b rest : List ℕ) (c : ℕ) (r : Reading) → r ≡ reading_of u c → spelled k b u (c ∷ rest) ≡ leads_to u k b rest c r
read u k b rest c r e = ap (leads_to u k b rest c) (sym e)

module _ (cs : List ℕ) (whole : Result (List ℕ) TextError) (n i c : ℕ) (b : List ℕ) (u : Option ℕ) (t : (n < length (enumerate_from 0 cs)) × ((i, c) ≡ get_or (enumerate_from 0 cs) n (i, c))) (k : spelled (n + 1) b u (drop n cs) ≡ whole) where
  -- the character is read, and the rest follows; m is what the loop calls n + 1
  pub goes_on : (m : ℕ) (d : List ℕ) (v : Option ℕ) (r : Reading) → m ≡ n + 1 → r ≡ reading_of u c → leads_to u (n + 1) b (drop (n + 1) cs) c r ≡ spelled (n + 1 + 1) d v (drop (n + 1) cs) → spelled (m + 1) d v (drop m cs) ≡ whole
  goes_on m d v r e is step =
      let P : ℕ → Type 0 = λ x. spelled (x + 1) d v (drop x cs) ≡ whole in
      let next = ap (λ x. spelled (n + 1) b u x) (at_character cs n i c t).1 ∙ read u (n + 1) b (drop (n + 1) cs) c r is ∙ step in
      subst P (sym e) (sym next ∙ k)

  pub stops : NoDigit ≡ reading_of u c → whole ≡ Err (NoDigitAt (i + 1) c)
  stops is =
      let a = at_character cs n i c t in
      sym k ∙ ap (λ x. spelled (n + 1) b u x) a.1 ∙ read u (n + 1) b (drop (n + 1) cs) c NoDigit is ∙ ap (λ x. Err (NoDigitAt (x + 1) c)) (sym a.0)

-- every character is read
pub ends : (cs : List ℕ) (n : ℕ) (b : List ℕ) (u : Option ℕ) (whole : Result (List ℕ) TextError) → n ≡ length (enumerate_from 0 cs) → spelled (n + 1) b u (drop n cs) ≡ whole → whole ≡ ended b u
ends cs n b u whole e k = sym k ∙ at_drop_all (λ r. spelled (n + 1) b u r) cs n (omega (arith, e, length-enumerate_from 0 cs))
