use Rattle.std.proofs.Common.{◌≡◌, not, drop}
use Rattle.std.specs.List.{list_all}
use Rattle.prefix_leaves.specs.Renaming.{is_meant_among}
use Rattle.prefix_leaves.proofs.apart.are_unmeant.Given as goal

-- none before what is left decides
abbrev pub invariant-loop-token : goal.invariant-loop-token
invariant-loop-token l = list_all (λ token. not (is_meant_among l.prefixes token)) (drop l.token-index l.tokens) ≡ list_all (λ token. not (is_meant_among l.prefixes token)) l.tokens
