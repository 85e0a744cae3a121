use Rattle.std.proofs.Common.{length, filter, sym, ap, ◌∙◌}
use Rattle.index_shard.specs.Tables.{ShardContent, place_of}
use Rattle.index_shard.proofs.TableLaws.{at_its_place, at_no_place}
use Rattle.live_version.specs.LookUps.{is_alive}
use Rattle.live_version.proofs.WordLemmas.{live_places}
use Rattle.live_version.proofs.slot.Slot.count_of_term.Goals as goal

pub count_at-requires : goal.count_at-requires
count_at-requires c =
    let found = ap (λ (s : ShardContent). place_of s.table c.args.token.now) (sym c.shard.ensures.value) ∙ sym c.in-Some.ensures.value in
    (at_its_place c.args.self.now.shard.table c.args.token.now c.in-Some.place found).0

pub returns-in-Some : goal.returns-in-Some
returns-in-Some c =
    let slot = c.args.self.now in
    let token = c.args.token.now in
    let found = ap (λ (s : ShardContent). place_of s.table token) (sym c.shard.ensures.value) ∙ sym c.in-Some.ensures.value in
    c.count_at.ensures ∙ ap (λ ps. length (filter (is_alive slot.mask) ps)) (at_its_place slot.shard.table token c.in-Some.place found).1
    ∙ sym (ap length (live_places slot token c.shard.ensures.slot))

pub returns-in-None : goal.returns-in-None
returns-in-None c =
    let slot = c.args.self.now in
    let token = c.args.token.now in
    let none = ap (λ (s : ShardContent). place_of s.table token) (sym c.shard.ensures.value) ∙ sym c.in-None.ensures.value in
    sym (ap length (live_places slot token c.shard.ensures.slot ∙ ap (filter (is_alive slot.mask)) (at_no_place slot.shard.table token none)))
