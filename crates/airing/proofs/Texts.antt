-- Equal records are equal to the same records.
use Rattle.std.proofs.Common.{◌≡◌, true, ap}
use Rattle.std.specs.Str.{bytes_eq}
use Rattle.std.proofs.lemmas.Slice.Eq.{bytes_eq-Decides}
use Rattle.family.specs.Meaning.{RecordOf, equal_records}

pub equal_alike : {T : Type 0} (a b x : RecordOf T) → equal_records a b ≡ true → equal_records a x ≡ equal_records b x
equal_alike a b x same = ap (λ t. bytes_eq t x.text) ((bytes_eq-Decides a.text b.text).0 same)
