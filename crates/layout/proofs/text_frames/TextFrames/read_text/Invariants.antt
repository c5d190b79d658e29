use Rattle.std.proofs.Common.{◌≡◌, ℕ, ◌<◌, get_or}
use Rattle.layout.specs.Frames.{byte_at}
use Rattle.layout.proofs.text_frames.TextFrames.read_text.Given as goal

abbrev pub invariant-loop-j : goal.invariant-loop-j
invariant-loop-j l = (k : ℕ) → k < l.j → get_or l.text k 0 ≡ byte_at l.self.layout l.self.frames.now k
