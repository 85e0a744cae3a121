use Rattle.std.proofs.Common.{◌≡◌, ◌-◌, ◌≤◌, length, arith}
use Rattle.std.proofs.lemmas.Result.{IfOk-weaker}
use Rattle.phrase_walk.proofs.Members.{first_end_found}
use Rattle.phrase_walk.proofs.counted.counted_first_end.Goals as goal

pub returns-clause-answer : goal.returns-clause-answer
returns-clause-answer g c =
    let some : 2 ≤ length c.args.tokens.now = c.requires.tokens in
    let start : c.saturating_sub.result ≡ c.args.k - (length c.args.tokens.now - 1) = omega arith in
    IfOk-weaker c.first_from.result _ _
    (λ found is. first_end_found (g.C.CountedLeaves.text c.args.source.now) c.as_slice.result.now c.args.tokens.now c.args.k c.saturating_sub.result found c.as_slice.ensures (omega arith) start is)
    c.first_from.ensures.answer
