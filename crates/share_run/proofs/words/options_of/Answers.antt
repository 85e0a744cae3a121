use Rattle.std.proofs.Common.{◌<◌, length, rules}
use Rattle.share_run.proofs.WordLemmas.{too_many}
use Rattle.share_run.proofs.words.options_of.Goals as goal

pub returns-then-not-is_empty-clause-value : goal.returns-then-not-is_empty-clause-value
returns-then-not-is_empty-clause-value c =
    let three = c.in_ok-three.three in
    let some : 0 < length three.2.now = search rules in
    too_many c.args.words.now c.in_ok-one.one.2.now c.in_ok-two.two.2.now three.2.now _ _ _ c.in_ok-one.ensures.some c.in_ok-two.ensures.some c.in_ok-three.ensures.some some
