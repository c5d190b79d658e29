use Rattle.std.proofs.Common.{◌≡◌, ◌+◌, [], None, length, drop}
use Rattle.std.specs.Str.{chars}
use Rattle.hexadecimal.specs.Spelled.{spelled}
use Rattle.hexadecimal.proofs.text.bytes_of.Given as goal

abbrev pub invariant-loop-i : goal.invariant-loop-i
invariant-loop-i l = spelled (length l.yielded + 1) l.bytes.items l.upper (drop (length l.yielded) (chars l.text)) ≡ spelled 1 [] None (chars l.text)
