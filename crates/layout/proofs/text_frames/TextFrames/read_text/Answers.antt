use Rattle.std.proofs.Common.{length, arith}
use Rattle.std.proofs.lemmas.List.FromFn.{fill_by_all}
use Rattle.layout.specs.Frames.{byte_at}
use Rattle.layout.proofs.text_frames.TextFrames.read_text.Goals as goal

pub returns : goal.returns
returns c = fill_by_all (byte_at c.args.self.now.layout c.args.self.now.frames.now) c.loop-j.text (length c.args.text.now) 0 (omega arith) (λ k l. c.loop-j.invariant k (omega arith))
