use Rattle.std.proofs.Common.{◌≡◌, drop}
use Rattle.prefix_leaves.specs.Renaming.{is_alone}
use Rattle.prefix_leaves.proofs.apart.is_alone.Given as goal

-- none before what is left decides
abbrev pub invariant-loop-prefix : goal.invariant-loop-prefix
invariant-loop-prefix l = is_alone (drop l.prefix-index l.prefixes) l.token ≡ is_alone l.prefixes l.token
