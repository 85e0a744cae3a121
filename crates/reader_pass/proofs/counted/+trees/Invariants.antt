use Rattle.std.proofs.Common.{◌≡◌, ℕ, ◌++◌, true, List, map, take}
use Rattle.gcl_model.specs.FormOf.{form_of, forms_from}
use Rattle.live_version.specs.Contents.{version_text}
use Rattle.wide_terms.specs.Trees.{are_term_trees, all_leaf_tokens}
use Rattle.reader_pass.specs.Sums.{IsSumOf}
use Rattle.reader_pass.proofs.counted.+trees.Given as goal

-- the operands so far are trees, and their members are summed
abbrev pub invariant-trees_sum-loop-operand : goal.invariant-trees_sum-loop-operand
invariant-trees_sum-loop-operand l = record {
  trees : are_term_trees (forms_from (map form_of (take l.operand-index l.operands))) ≡ true;
  summed : (seen : List (List ℕ)) → IsSumOf (version_text l.version) seen l.count l.last →
      IsSumOf (version_text l.version) (seen ++ all_leaf_tokens (forms_from (map form_of (take l.operand-index l.operands)))) l.sum.0 l.sum.1.now;
}
