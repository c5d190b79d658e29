use Rattle.std.proofs.Common.{◌≡◌, get_or, Option, Some, None, unwrap_or, refl, ap, ◌∙◌, arith}
use Rattle.std.specs.Option.{option_flatten}
use Rattle.message.specs.Station.{symbols}
use Rattle.message.proofs.station.Character.symbol.Goals as goal

flat : {A : Type 0} (o : Option (Option A)) → option_flatten o ≡ unwrap_or o None
flat None = refl
flat (Some o) = refl

pub returns : goal.returns
returns c = c.flatten.ensures ∙ flat c.copied.result ∙ ap (λ o. unwrap_or o None) c.copied.ensures ∙ c.get.ensures.lookup.4 (omega arith) None ∙ ap (λ n. get_or symbols n None) c.from.ensures
