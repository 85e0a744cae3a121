use Rattle.std.proofs.Common.{◌++◌, ◌∷◌, [], List, map, take, refl, sym, ap, subst, ◌∙◌}
use Rattle.std.proofs.lemmas.List.{take_all}
use Rattle.gcl_model.specs.declared.expr.Expr.{Expr}
use Rattle.gcl_model.specs.FormOf.{form_of, forms_from}
use Rattle.gcl_model.proofs.FormLemmas.{form_of-One}
use Rattle.live_version.specs.Contents.{version_text}
use Rattle.wide_terms.specs.Trees.{is_term_tree, are_term_trees, leaf_tokens, all_leaf_tokens}
use Rattle.reader_pass.specs.Sums.{IsSumOf}
use Rattle.reader_pass.proofs.TermCounts.{form_of-Term}
use Rattle.reader_pass.proofs.TreeSums.{leaves_more, no_operands, trees_more}
use Rattle.reader_pass.proofs.counted.+trees.Goals as goal

pub tree_sum-returns-in_ok-one-in-Term-clause-tree : goal.tree_sum-returns-in_ok-one-in-Term-clause-tree
tree_sum-returns-in_ok-one-in-Term-clause-tree t c = ap is_term_tree (ap form_of c.in-Term.is ∙ form_of-Term c.in-Term.token)

pub tree_sum-returns-in_ok-one-in-Term-clause-sum : goal.tree_sum-returns-in_ok-one-in-Term-clause-sum
tree_sum-returns-in_ok-one-in-Term-clause-sum t c = λ seen old.
    let leaves = ap (λ token. token ∷ []) c.as_slice.ensures ∙ sym (ap leaf_tokens (ap form_of c.in-Term.is ∙ form_of-Term c.in-Term.token)) in
    subst (λ tokens. IsSumOf (version_text c.args.version.now) (seen ++ tokens) c.in_ok-one-in-Term.one.0 c.in_ok-one-in-Term.one.1.now) leaves (c.in_ok-one-in-Term.ensures seen old)

pub tree_sum-returns-in_ok-all-in-One-clause-tree : goal.tree_sum-returns-in_ok-all-in-One-clause-tree
tree_sum-returns-in_ok-all-in-One-clause-tree t c =
    ap is_term_tree (ap form_of c.in-One.is ∙ form_of-One c.in-One.operands) ∙ sym (ap (λ (exprs : List Expr). are_term_trees (forms_from (map form_of exprs))) c.deref.ensures.value) ∙ c.in_ok-all-in-One.ensures.tree

pub tree_sum-returns-in_ok-all-in-One-clause-sum : goal.tree_sum-returns-in_ok-all-in-One-clause-sum
tree_sum-returns-in_ok-all-in-One-clause-sum t c = λ seen old.
    let leaves = ap (λ (exprs : List Expr). all_leaf_tokens (forms_from (map form_of exprs))) c.deref.ensures.value ∙ sym (ap leaf_tokens (ap form_of c.in-One.is ∙ form_of-One c.in-One.operands)) in
    subst (λ tokens. IsSumOf (version_text c.args.version.now) (seen ++ tokens) c.in_ok-all-in-One.all.0 c.in_ok-all-in-One.all.1.now) leaves (c.in_ok-all-in-One.ensures.sum seen old)

pub trees_sum-loop-operand-init : goal.trees_sum-loop-operand-init
trees_sum-loop-operand-init t c = record { trees = refl; summed = λ seen old. no_operands (version_text c.args.version.now) seen c.args.count c.args.last.now old }

pub trees_sum-loop-operand-preserved : goal.trees_sum-loop-operand-preserved
trees_sum-loop-operand-preserved t c =
    let text = version_text c.args.version.now in
    let operands = c.args.operands.now in
    let i = c.loop-operand.operand-index in
    let operand = c.operand-item.result in
    let before = c.loop-operand.invariant in
    let next = c.in_ok-next in
    record {
      trees = trees_more operands i operand c.loop-operand-test.true c.operand-item.is before.trees next.ensures.tree;
      summed = λ seen old.
          subst (λ tokens. IsSumOf text tokens next.next.0 next.next.1.now) (leaves_more seen operands i operand c.loop-operand-test.true c.operand-item.is)
          (next.ensures.sum (seen ++ all_leaf_tokens (forms_from (map form_of (take i operands)))) (before.summed seen old));
    }

pub trees_sum-returns-clause-tree : goal.trees_sum-returns-clause-tree
trees_sum-returns-clause-tree t c =
    ap (λ (exprs : List Expr). are_term_trees (forms_from (map form_of exprs))) (sym (take_all c.loop-operand.operand-index c.args.operands.now c.loop-operand-test.false)) ∙ c.loop-operand.invariant.trees

pub trees_sum-returns-clause-sum : goal.trees_sum-returns-clause-sum
trees_sum-returns-clause-sum t c = λ seen old.
    subst (λ (exprs : List Expr). IsSumOf (version_text c.args.version.now) (seen ++ all_leaf_tokens (forms_from (map form_of exprs))) c.loop-operand.sum.0 c.loop-operand.sum.1.now)
    (take_all c.loop-operand.operand-index c.args.operands.now c.loop-operand-test.false) (c.loop-operand.invariant.summed seen old)
