use Rattle.std.proofs.Common.{◌≡◌, drop}
use Rattle.prefix_leaves.specs.Prefixes.{is_meant_by_one}
use Rattle.prefix_leaves.proofs.meant.is_meant_by_one.Given as goal

-- none before what is left decides
abbrev pub invariant-loop-prefix : goal.invariant-loop-prefix
invariant-loop-prefix l = is_meant_by_one (drop l.prefix-index l.prefixes) l.token ≡ is_meant_by_one l.prefixes l.token
