use Rattle.monitor.proofs.monitor.Monitor.read.Goals as goal

pub returns : goal.returns
returns g c = rw (← c.family.ensures, ← c.family-2.ensures, ← c.family-3.ensures) c.read.ensures.value
