use Rattle.std.proofs.Common.{arith}
use Rattle.shard_build.proofs.AheadLemmas.{ahead_placed, ahead_width}
use Rattle.shard_build.proofs.ahead.TextIndex.placed.Goals as goal

pub moved-requires : goal.moved-requires
moved-requires c =
    let width = ahead_width c.self.inside.shard c.args.self c.self.invariant c.self.view_is in
    omega (arith, width, c.requires)

pub returns-clause-words : goal.returns-clause-words
returns-clause-words c = (ahead_placed c.self.inside.shard c.moved.result c.args.self c.args.base c.self.invariant c.self.view_is c.moved.ensures.value c.moved.ensures.words).0

pub returns-clause-range : goal.returns-clause-range
returns-clause-range c = (ahead_placed c.self.inside.shard c.moved.result c.args.self c.args.base c.self.invariant c.self.view_is c.moved.ensures.value c.moved.ensures.words).1
