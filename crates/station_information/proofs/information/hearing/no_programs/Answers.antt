use Rattle.std.proofs.Common.{None, ap}
use Rattle.std.proofs.lemmas.List.{get_or-replicate}
use Rattle.station_information.specs.declared.information.Program.{Program}
use Rattle.station_information.proofs.information.hearing.no_programs.Goals as goal

pub returns : goal.returns
returns c n l = ap (λ (p : Program). p.audio) (get_or-replicate 64 n (record { audio = None }) (record { audio = None }) l)
