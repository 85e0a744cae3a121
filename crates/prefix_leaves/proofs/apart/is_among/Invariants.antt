use Rattle.std.proofs.Common.{◌≡◌, drop}
use Rattle.prefix_leaves.specs.Renaming.{is_among}
use Rattle.prefix_leaves.proofs.apart.is_among.Given as goal

-- none before what is left decides
abbrev pub invariant-loop-prefix : goal.invariant-loop-prefix
invariant-loop-prefix l = is_among (drop l.prefix-index l.prefixes) l.token ≡ is_among l.prefixes l.token
