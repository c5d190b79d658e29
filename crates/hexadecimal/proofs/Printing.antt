-- What is printed of one byte.
use Rattle.std.proofs.Common.{◌≡◌, ℕ, ◌<◌, true, false, List, [], Option, Some, ap, ◌∙◌}
use Rattle.std.specs.Option.{option_map}
use Rattle.std.specs.Fmt.{digits, padded_integral, shown_prefix, format_spec}
use Rattle.std.proofs.lemmas.Fmt.{hex_byte}
use Rattle.hexadecimal.specs.Printed.{byte_digits}

-- two digits, of which the first may be 0, whatever stands before a number
pub printed_byte : (b : ℕ) (o : Option (List ℕ)) (s : _) (prefix : List ℕ) → b < 256 → o ≡ Some (digits 16 true b) → s ≡ format_spec 32 0 4 2 18446744073709551615 →
    option_map (padded_integral s false (shown_prefix s prefix)) o ≡ Some (byte_digits b)
printed_byte b o s prefix small is laid =
    ap (λ x. option_map (padded_integral x false (shown_prefix x prefix)) o) laid ∙ ap (option_map (padded_integral (format_spec 32 0 4 2 18446744073709551615) false [])) is ∙ ap Some (hex_byte true b small)
