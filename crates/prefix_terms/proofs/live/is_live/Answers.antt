use Rattle.std.proofs.Common.{◌≡◌, [], List, length, slice_get, sym, ap, ◌∙◌, is_some}
use Rattle.std.specs.List.{list_any}
use Rattle.gcl_model.specs.Slots.{SlotRange}
use Rattle.index_shard.specs.Tables.{ShardContent, postings_of}
use Rattle.live_version.specs.LookUps.{is_alive}
use Rattle.prefix_terms.specs.Runs.{names}
use Rattle.prefix_terms.proofs.Matches.{found_alive, no_ranges, postings_at, whole_live}
use Rattle.prefix_terms.proofs.live.is_live.Goals as goal

pub returns-then-ranges-eq0-clause-value : goal.returns-then-ranges-eq0-clause-value
returns-then-ranges-eq0-clause-value g c =
    let slot = c.args.slot.now in
    let none : slot.mask ≡ [] = no_ranges slot.mask (sym (ap (λ (m : List SlotRange). length m) c.mask.ensures.value) ∙ sym c.range_count-ranges.ensures ∙ c.if-ranges-eq0.true) in
    sym (whole_live slot.shard.range slot.mask slot.shard.table c.args.place c.mask.ensures.slot.shard.table c.requires none)

pub returns-clause-value : goal.returns-clause-value
returns-clause-value g c =
    let slot = c.args.slot.now in
    let term = c.term.result.now in
    let at = ap (λ (s : ShardContent). slice_get (names s.table) c.args.place) (sym c.shard.ensures.value) ∙ c.term.ensures.value in
    c.is_some.ensures ∙ ap is_some c.first_alive.ensures.answer ∙ found_alive slot.mask (postings_of slot.shard.table term)
    ∙ ap (list_any (is_alive slot.mask)) (postings_at slot.shard.range slot.shard.table c.args.place term c.shard.ensures.slot.shard.table at)
