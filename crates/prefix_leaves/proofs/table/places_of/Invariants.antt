use Rattle.std.proofs.Common.{◌≡◌, take, map}
use Rattle.live_version.specs.Contents.{version_text}
use Rattle.prefix_places.specs.Places.{wide_places}
use Rattle.prefix_leaves.specs.Prefixes.{tokens_of}
use Rattle.prefix_leaves.proofs.table.places_of.Given as goal

-- the terms so far have their places
abbrev pub invariant-loop-term : goal.invariant-loop-term
invariant-loop-term l = record {
  terms : tokens_of l.prefixes.items ≡ take l.term-index l.terms;
  exact : map (λ p. p.places) l.prefixes.items ≡ map (λ p. wide_places (version_text l.version).words p.token) l.prefixes.items;
}
