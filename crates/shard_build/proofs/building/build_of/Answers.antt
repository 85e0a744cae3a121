use Rattle.std.proofs.Common.{ap, ◌∙◌}
use Rattle.gcl_model.specs.Slots.{SlotRange}
use Rattle.gcl_model.specs.Collections.{words_from, with_boundaries}
use Rattle.shard_build.proofs.building.build_of.Goals as goal

pub make-requires : goal.make-requires
make-requires g c = (with_boundaries (g.S.TokenSource.left c.args.source.now), c.in_ok-range.ensures.tokens)

pub returns-clause-words : goal.returns-clause-words
returns-clause-words g c =
    let tokens = with_boundaries (g.S.TokenSource.left c.args.source.now) in
    c.in_ok-shard.ensures.words tokens c.in_ok-range.ensures.tokens ∙ ap (λ (r : SlotRange). words_from r.first tokens) c.in_ok-range.ensures.range
