use Rattle.std.proofs.Common.{◌≡◌, ap, ◌∙◌}
use Rattle.index_shard.proofs.MovedUp.{all_can_move, parts, room_up, shard_up, words_up}
use Rattle.index_shard.proofs.shard.Shard.moved.Goals as goal

pub move_up-requires : goal.move_up-requires
move_up-requires c =
    let i = c.self.inside in
    all_can_move c.args.by i.range i.table c.self.invariant.table (room_up c.args.by c.args.self i.range i.table c.self.view_is c.requires)

pub of-requires : goal.of-requires
of-requires c =
    let i = c.self.inside in
    (shard_up c.args.by c.args.self i.range c.moved_range-range.result i.table c.move_up.new.self c.self.view_is c.self.invariant c.requires c.moved_range-range.ensures c.move_up.ensures).0

pub returns-clause-words : goal.returns-clause-words
returns-clause-words c =
    let i = c.self.inside in
    let up = shard_up c.args.by c.args.self i.range c.moved_range-range.result i.table c.move_up.new.self c.self.view_is c.self.invariant c.requires c.moved_range-range.ensures c.move_up.ensures in
    let made : c.of.result ≡ parts c.moved_range-range.result c.move_up.new.self = ap (λ r. parts r c.of.result.table) c.of.ensures.range ∙ ap (parts c.moved_range-range.result) c.of.ensures.table in
    words_up c.args.by c.args.self c.of.result (made ∙ up.1)
