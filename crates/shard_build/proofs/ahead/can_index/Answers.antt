use Rattle.std.proofs.Common.{arith, refl}
use Rattle.word_tokens.proofs.PartLemmas.{few_tokens}
use Rattle.shard_build.proofs.ahead.can_index.Goals as goal

pub returns-then-bytes : goal.returns-then-bytes
returns-then-bytes c =
    let few = few_tokens c.args.bytes.now in
    let short = c.if-bytes.true in
    (λ yes. omega (arith, few, short), λ small. refl)
