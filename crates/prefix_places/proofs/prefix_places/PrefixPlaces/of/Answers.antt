use Rattle.std.proofs.Common.{take, ap}
use Rattle.prefix_places.proofs.Rows.{version_places, version_rising}
use Rattle.prefix_places.proofs.prefix_places.PrefixPlaces.of.Goals as goal

pub invariant_of-result : goal.invariant_of-result
invariant_of-result c = version_rising c.args.version.now c.slots.result.now (take c.saturating_sub.result c.args.token.now) c.in_ok-places.places.items c.slots.ensures.version c.slots.ensures.value c.in_ok-places.ensures

pub returns : goal.returns
returns c = (
  c.in_ok-token.ensures,
  version_places c.args.version.now c.slots.result.now c.args.token.now (take c.saturating_sub.result c.args.token.now) c.in_ok-places.places.items c.requires c.slots.ensures.value
      (ap (λ n. take n c.args.token.now) c.saturating_sub.ensures) c.in_ok-places.ensures,
)
