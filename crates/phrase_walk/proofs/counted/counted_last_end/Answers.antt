use Rattle.std.proofs.Common.{◌≡◌, ◌+◌, ◌-◌, ◌≤◌, length, sym, arith}
use Rattle.std.proofs.lemmas.Result.{IfOk-weaker}
use Rattle.phrase_walk.proofs.Members.{last_end_found, no_last_end}
use Rattle.phrase_walk.proofs.counted.counted_last_end.Goals as goal

pub returns-in_default-clause-answer : goal.returns-in_default-clause-answer
returns-in_default-clause-answer g c =
    let some : 2 ≤ length c.args.tokens.now = c.requires.tokens in
    let count : c.len-len.result ≡ length c.args.tokens.now = c.len-len.ensures in
    let short : c.len-len.result - 1 ≤ c.args.k → ⊥ = rw c.in_default.is at c.checked_sub.ensures in
    sym (no_last_end (g.C.CountedLeaves.text c.args.source.now) c.args.tokens.now c.args.k (omega arith))

pub returns-clause-answer : goal.returns-clause-answer
returns-clause-answer g c =
    let some : 2 ≤ length c.args.tokens.now = c.requires.tokens in
    let count : c.len-len.result ≡ length c.args.tokens.now = c.len-len.ensures in
    let room = rw c.in-Some.is at c.checked_sub.ensures in
    let start : c.in-Some.start + (length c.args.tokens.now - 1) ≡ c.args.k = omega (arith, room.0, room.1) in
    IfOk-weaker c.last_upto.result _ _
    (λ found is. last_end_found (g.C.CountedLeaves.text c.args.source.now) c.as_slice.result.now c.args.tokens.now c.args.k c.in-Some.start found c.as_slice.ensures (omega arith) start is)
    c.last_upto.ensures.answer
