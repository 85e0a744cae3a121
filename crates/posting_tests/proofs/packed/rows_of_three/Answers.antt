use Rattle.posting_code.proofs.Rising.{front_of, rest_of}
use Rattle.posting_tests.proofs.packed.rows_of_three.Goals as goal

pub put_three-requires-clause-front : goal.put_three-requires-clause-front
put_three-requires-clause-front c = front_of c.args.members.now c.split_at.result.0.now c.min.result c.split_at.ensures.front c.requires.rising

pub put_three-requires-clause-middle : goal.put_three-requires-clause-middle
put_three-requires-clause-middle c =
    let rest = rest_of c.args.members.now c.split_at.result.1.now c.min.result c.split_at.ensures.back c.requires.rising in
    front_of c.split_at.result.1.now c.split_at-2.result.0.now c.min-2.result c.split_at-2.ensures.front rest

pub put_three-requires-clause-behind : goal.put_three-requires-clause-behind
put_three-requires-clause-behind c =
    let rest = rest_of c.args.members.now c.split_at.result.1.now c.min.result c.split_at.ensures.back c.requires.rising in
    rest_of c.split_at.result.1.now c.split_at-2.result.1.now c.min-2.result c.split_at-2.ensures.back rest
