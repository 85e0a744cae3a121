use Rattle.std.proofs.Common.{sym, subst}
use Rattle.std.proofs.lemmas.List.Sorted.{IsNonDecreasingBy-from_sort}
use Rattle.posting_code.specs.Postings.{ArePostings}
use Rattle.prefix_places.proofs.RunWords.{shard_rising, sorted_run}
use Rattle.prefix_places.proofs.gathering.places_of.Goals as goal

pub returns : goal.returns
returns c =
    let is = c.addresses_of_run.ensures.shard in
    let places = sorted_run c.args.shard.now c.args.prefix.now c.in_ok-places.places.items c.sort_unstable.new.self.items is c.in_ok-places.ensures.addresses c.sort_unstable.ensures.permutation
    (IsNonDecreasingBy-from_sort (λ x. x) c.sort_unstable.new.self.items c.sort_unstable.ensures.sorted) in
    record { places = places; rising = subst ArePostings (sym places) (shard_rising c.args.shard.now c.args.prefix.now is) }
