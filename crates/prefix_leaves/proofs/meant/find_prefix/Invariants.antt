use Rattle.std.proofs.Common.{◌≡◌, drop}
use Rattle.prefix_leaves.specs.Prefixes.{places_among}
use Rattle.prefix_leaves.proofs.meant.find_prefix.Given as goal

-- none before what is left has this token
abbrev pub invariant-loop-prefix : goal.invariant-loop-prefix
invariant-loop-prefix l = places_among (drop l.prefix-index l.prefixes) l.token ≡ places_among l.prefixes l.token
