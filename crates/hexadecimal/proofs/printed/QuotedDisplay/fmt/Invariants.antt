use Rattle.std.proofs.Common.{[], ◌∷◌, ◌++◌, eqb, not, take}
use Rattle.std.specs.Fmt.{HasWritten, IsPlainFormatter}
use Rattle.std.specs.List.{flat_map}
use Rattle.hexadecimal.specs.Printed.{shown}
use Rattle.hexadecimal.proofs.printed.QuotedDisplay.fmt.Given as goal

abbrev pub invariant-loop-byte : goal.invariant-loop-byte
invariant-loop-byte g l = IsPlainFormatter l.fn.f → HasWritten g.W.Write.write_str_gives l.fn.f ((34 ∷ []) ++ flat_map (shown (not (eqb g.row.ESCAPE_MARKS 0))) (take l.byte-index l.byte-items)) l.f
