use Rattle.std.proofs.Common.{◌≡◌, ◌-◌, ◌<◌, suc, ◌∙◌, ap, sym, leb, rules, ℕ, length, arith}
use Rattle.std.specs.List.{prefix_len}
use Rattle.std.proofs.lemmas.List.Sorted.{IsPartitionPoint-from_clause}
use Rattle.gcl_model.proofs.Lists.{prefix_len_at_point}
use Rattle.text_search.proofs.PlaceSearch.{parted_upto, last_at, last_of_front, slice_some}
use Rattle.text_search.proofs.search.last_of.Goals as goal

pub returns-then-upto-eq0 : goal.returns-then-upto-eq0
returns-then-upto-eq0 c =
    let k = c.args.k in
    let xs = c.args.places.now in
    let upto = λ (p : ℕ). leb p k in
    let point = IsPartitionPoint-from_clause upto xs c.partition_point-upto.result c.partition_point-upto.ensures.partitioned (parted_upto xs k c.requires) (λ a r f called. search rules) in
    let count : c.partition_point-upto.result ≡ prefix_len upto xs = prefix_len_at_point upto xs c.partition_point-upto.result c.partition_point-upto.ensures.bound point in
    sym (last_at xs k c.requires ∙ ap (last_of_front xs) (sym count ∙ c.if-upto-eq0.true))

pub returns : goal.returns
returns c =
    let k = c.args.k in
    let xs = c.args.places.now in
    let upto = λ (p : ℕ). leb p k in
    let n = c.partition_point-upto.result in
    let point = IsPartitionPoint-from_clause upto xs n c.partition_point-upto.ensures.partitioned (parted_upto xs k c.requires) (λ a r f called. search rules) in
    let count : n ≡ prefix_len upto xs = prefix_len_at_point upto xs n c.partition_point-upto.ensures.bound point in
    let some : n ≡ suc (n - 1) = omega (arith, c.if-upto-eq0.false) in
    let within : n - 1 < length xs = omega (arith, c.partition_point-upto.ensures.bound, c.if-upto-eq0.false) in
    sym (last_at xs k c.requires ∙ ap (last_of_front xs) (sym count ∙ some) ∙ slice_some xs (n - 1) 0 within)
