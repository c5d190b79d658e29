use Rattle.std.proofs.Common.{ℕ, eqb, map, length, ap, ◌∙◌, arith, rules, tests}
use Rattle.std.specs.Str.{bytes_eq}
use Rattle.std.specs.List.{range_with_len}
use Rattle.std.proofs.lemmas.List.FromFn.{length-map-range_with_len}
use Rattle.std.proofs.lemmas.Iterator.{YieldsList-from_slice}
use Rattle.std.proofs.lemmas.Iterator.Consumers.{YieldsList-from_enumerate}
use Rattle.std.proofs.lemmas.Iterator.Search.{all_from_yields_List}
use Rattle.layout.specs.Frames.{frame_count, frame_of, cut_of}
use Rattle.layout.proofs.Equality.{apart, all_equal}
use Rattle.layout.proofs.cut.Cut.has_frames.Goals as goal

pub returns-then-frames-frame_count : goal.returns-then-frames-frame_count
returns-then-frames-frame_count c =
    let s = c.args.self.now in
    let long = length-map-range_with_len (frame_of s.layout s.fields s.text.now) 0 (frame_count s.layout (length s.text.now)) in
    apart (cut_of s.layout s.fields s.text.now) c.args.frames.now (λ e. let l = ap length e in omega (arith, l, long, c.frame_count.ensures))

pub returns : goal.returns
returns c =
    let s = c.args.self.now in
    let xs = c.args.frames.now in
    let f = frame_of s.layout s.fields s.text.now in
    all_from_yields_List (λ p. eqb (f p.0) p.1) _ _ c.all.result c.all.ensures.ran (YieldsList-from_enumerate (YieldsList-from_slice xs (cc)) (cc)) (λ x b q k. search (rules, tests))
    ∙ all_equal f 0 xs ∙ ap (λ (n : ℕ). bytes_eq (map f (range_with_len 0 n)) xs) (omega (arith, c.frame_count.ensures))
