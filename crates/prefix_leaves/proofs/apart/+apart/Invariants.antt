use Rattle.std.proofs.Common.{◌≡◌, drop, map}
use Rattle.gcl_model.specs.FormOf.{form_of, forms_from}
use Rattle.prefix_leaves.specs.Renaming.{are_apart}
use Rattle.prefix_leaves.proofs.apart.+apart.Given as goal

-- what is left is apart exactly if all operands are
abbrev pub invariant-are_apart-loop-operand : goal.invariant-are_apart-loop-operand
invariant-are_apart-loop-operand l =
    are_apart l.prefixes (forms_from (map form_of (drop l.operand-index l.operands))) ≡ are_apart l.prefixes (forms_from (map form_of l.operands))
