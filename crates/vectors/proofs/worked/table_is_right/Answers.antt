use Rattle.std.proofs.Common.{refl}
use Rattle.pdu.specs.Dividend.{text_remainder}
use Rattle.pdu.specs.Check.{down_from}
use Rattle.pdu.specs.Division.{divided}
use Rattle.vectors.proofs.worked.table_is_right.Goals as goal

pub returns : goal.returns
unfolding down_from divided text_remainder
returns c = (refl, (refl, (refl, (refl, (refl, (refl, (refl, (refl, (refl, (refl, (refl, (record { lawful = refl; cut = refl; joined = refl }, (record { lawful = refl; cut = refl; joined = refl }, (record { lawful = refl; cut = refl; joined = refl }, tt))))))))))))))
