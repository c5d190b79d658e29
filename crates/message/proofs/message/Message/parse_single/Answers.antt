use Rattle.std.proofs.Common.{◌≡◌, false, eqb, arith}
use Rattle.std.proofs.lemmas.Bool.{ne_eqb}
use Rattle.message.proofs.message.Message.parse_single.Goals as goal

pub returns-in_default : goal.returns-in_default
returns-in_default c =
    let n = c.args.number in
    let n0 : eqb n 0 ≡ false = ne_eqb n 0 (λ (e : n ≡ 0). omega arith) in
    let n1 : eqb n 1 ≡ false = ne_eqb n 1 (λ (e : n ≡ 1). omega arith) in
    let n4 : eqb n 4 ≡ false = ne_eqb n 4 (λ (e : n ≡ 4). omega arith) in
    let n6 : eqb n 6 ≡ false = ne_eqb n 6 (λ (e : n ≡ 6). omega arith) in
    let n7 : eqb n 7 ≡ false = ne_eqb n 7 (λ (e : n ≡ 7). omega arith) in
    let n8 : eqb n 8 ≡ false = ne_eqb n 8 (λ (e : n ≡ 8). omega arith) in
    simp (n0, n1, n4, n6, n7, n8)
