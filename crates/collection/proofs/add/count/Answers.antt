use Rattle.std.proofs.Common.{arith}
use Rattle.word_tokens.proofs.PartLemmas.{few_tokens}
use Rattle.collection.proofs.add.count.Goals as goal

pub returns-clause-few : goal.returns-clause-few
returns-clause-few c =
    let few = few_tokens c.args.bytes.now in
    omega (arith, few, c.token_count.ensures)
