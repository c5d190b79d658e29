use Rattle.bench.proofs.bench.Bench.new.Goals as goal

pub returns-clause-ran : goal.returns-clause-ran
returns-clause-ran g c n m e st k j =
    let changes = c.default.ensures.1.1.1.1.1 in
    record { linked = c.new.ensures n m e st k j; relayed = λ _. tt; name_changes = changes.0; message_changes = changes.1.0; alert_changes = changes.1.1 }
