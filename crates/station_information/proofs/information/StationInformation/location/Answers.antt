use Rattle.std.proofs.Common.{◌≡◌, sym, ◌∙◌, rules}
use Rattle.station_information.specs.Latest.{location_due}
use Rattle.station_information.proofs.Located.{located}
use Rattle.station_information.proofs.information.StationInformation.location.Goals as goal

pub returns-clause-in_range : goal.returns-clause-in_range
returns-clause-in_range c h k all e =
    let due : c.location.result ≡ location_due h = search rules in
    located h all (sym due ∙ e)
