use Rattle.std.proofs.Common.{arith}
use Rattle.word_tokens.proofs.PartLemmas.{few_tokens}
use Rattle.collection.proofs.add.find_room.Goals as goal

pub returns-then-bytes-left-clause-ok : goal.returns-then-bytes-left-clause-ok
returns-then-bytes-left-clause-ok c =
    let few = few_tokens c.args.bytes.now in
    let two = c.if-left-ge2.true in
    let short = c.if-bytes-left.true in
    omega (arith, few, two, short, c.requires)
