use Rattle.std.proofs.Common.{◌≡◌, drop}
use Rattle.std.specs.List.{list_all}
use Rattle.prefix_leaves.specs.Renaming.{are_alone, is_alone}
use Rattle.prefix_leaves.proofs.apart.are_alone.Given as goal

-- none before what is left decides
abbrev pub invariant-loop-prefix : goal.invariant-loop-prefix
invariant-loop-prefix l = list_all (is_alone l.prefixes) (drop l.prefix-index l.prefixes) ≡ are_alone l.prefixes
