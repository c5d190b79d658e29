use Rattle.pdu.proofs.pdu.Pdu.from_number.Goals as goal

pub returns : goal.returns
returns c = simp c.to_be_bytes.ensures
