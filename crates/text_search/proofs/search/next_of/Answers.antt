use Rattle.std.proofs.Common.{◌≡◌, ◌<◌, ◌∙◌, ap, sym, ltb, rules, ℕ, length, slice_get, arith}
use Rattle.std.specs.List.{prefix_len}
use Rattle.std.proofs.lemmas.List.Sorted.{IsPartitionPoint-from_clause}
use Rattle.gcl_model.proofs.Lists.{prefix_len_at_point}
use Rattle.text_search.proofs.PlaceSearch.{parted_below, next_at, slice_end, slice_some}
use Rattle.text_search.proofs.search.next_of.Goals as goal

pub returns-then-before-places : goal.returns-then-before-places
returns-then-before-places c =
    let k = c.args.k in
    let xs = c.args.places.now in
    let below = λ (p : ℕ). ltb p k in
    let point = IsPartitionPoint-from_clause below xs c.partition_point-before.result c.partition_point-before.ensures.partitioned (parted_below xs k c.requires) (λ a r f called. search rules) in
    let count : c.partition_point-before.result ≡ prefix_len below xs = prefix_len_at_point below xs c.partition_point-before.result c.partition_point-before.ensures.bound point in
    sym (next_at xs k ∙ ap (slice_get xs) (sym count ∙ c.if-before-places.true) ∙ slice_end xs)

pub returns : goal.returns
returns c =
    let k = c.args.k in
    let xs = c.args.places.now in
    let below = λ (p : ℕ). ltb p k in
    let point = IsPartitionPoint-from_clause below xs c.partition_point-before.result c.partition_point-before.ensures.partitioned (parted_below xs k c.requires) (λ a r f called. search rules) in
    let count : c.partition_point-before.result ≡ prefix_len below xs = prefix_len_at_point below xs c.partition_point-before.result c.partition_point-before.ensures.bound point in
    let within : c.partition_point-before.result < length xs = omega (arith, c.partition_point-before.ensures.bound, c.if-before-places.false) in
    sym (next_at xs k ∙ ap (slice_get xs) (sym count) ∙ slice_some xs c.partition_point-before.result 0 within)
