use Rattle.std.proofs.Common.{◌∷◌, sym, ◌∙◌, rules}
use Rattle.transport.specs.Families.{families, lawful_in}
use Rattle.station_information.specs.Hearings.{heard}
use Rattle.monitor.specs.Calls.{hearings}
use Rattle.monitor.proofs.Offered.{read_lawful, read_by_own}
use Rattle.monitor.proofs.monitor.Monitor.offer.Goals as goal

pub returns-in_err-contents-clause-due : goal.returns-in_err-contents-clause-due
returns-in_err-contents-clause-due g c n m e h k =
    let f = families g.N.Family.meaning n g.M.Family.meaning m g.E.Family.meaning e in
    let read = read_by_own f h c.args.bytes.now c.args.self.now k (sym c.read.ensures ∙ c.in_err-contents.was) in
    search rules

pub returns-in-Some-clause-due : goal.returns-in-Some-clause-due
returns-in-Some-clause-due g c n m e h k =
    let f = families g.N.Family.meaning n g.M.Family.meaning m g.E.Family.meaning e in
    let said = c.in_ok-contents.contents in
    let read = read_by_own f h c.args.bytes.now c.args.self.now k (sym c.read.ensures ∙ c.in_ok-contents.was) in
    let lawful = read_lawful (lawful_in f) c.args.bytes.now said read in
    let one = c.hear-answer.ensures n m e (hearings (lawful_in f) h) k lawful.0 in
    let two = c.hear.ensures n m e (heard said.first ∷ hearings (lawful_in f) h) one.holds (search rules) in
    search rules

pub returns-in_default-clause-due : goal.returns-in_default-clause-due
returns-in_default-clause-due g c n m e h k =
    let f = families g.N.Family.meaning n g.M.Family.meaning m g.E.Family.meaning e in
    let read = read_by_own f h c.args.bytes.now c.args.self.now k (sym c.read.ensures ∙ c.in_ok-contents.was) in
    let lawful = read_lawful (lawful_in f) c.args.bytes.now c.in_ok-contents.contents read in
    let one = c.hear-answer.ensures n m e (hearings (lawful_in f) h) k lawful.0 in
    search rules
