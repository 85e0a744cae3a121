use Rattle.std.proofs.Common.{◌≡◌, drop, map}
use Rattle.gcl_model.specs.FormOf.{form_of, forms_from}
use Rattle.wide_terms.specs.Expansion.{any_has_prefix_term}
use Rattle.wide_terms.proofs.asking.+ask.Given as goal

-- what is left has a prefix term exactly if the list of all operands has one
abbrev pub invariant-any_has_prefix_terms-loop-operand : goal.invariant-any_has_prefix_terms-loop-operand
invariant-any_has_prefix_terms-loop-operand l =
    any_has_prefix_term (forms_from (map form_of (drop l.operand-index l.operands))) ≡ any_has_prefix_term (forms_from (map form_of l.operands))
