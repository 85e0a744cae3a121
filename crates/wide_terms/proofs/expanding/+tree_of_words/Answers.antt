use Rattle.std.proofs.Common.{◌≡◌, ◌-◌, ◌/◌, IfOk, length, take, sym, ap, subst, ◌∙◌, arith}
use Rattle.gcl_model.specs.FormOf.{form_of}
use Rattle.gcl_model.specs.Forms.{Form, more_forms, no_forms, one}
use Rattle.wide_terms.specs.Expansion.{tree_of_words}
use Rattle.wide_terms.proofs.Flattening.{tree-more}
use Rattle.wide_terms.proofs.expanding.+tree_of_words.Goals as goal

pub returns : goal.returns
returns t c =
    let words = c.args.words.now in
    let levels = c.args.levels in
    let not_none = c.if-levels-eq0.false in
    let not_few = c.if-words-le-NODE_WORDS.false in
    let first = c.in_ok-first.ensures ∙ ap (tree_of_words (levels - 1)) c.split_at.ensures.front in
    let second = c.in_ok-second.ensures ∙ ap (tree_of_words (levels - 1)) c.split_at.ensures.back in
    let both = ap (λ f. one (more_forms f (more_forms (form_of c.in_ok-second.second) no_forms))) first
    ∙ ap (λ f. one (more_forms (tree_of_words (levels - 1) (take (length words / 2) words)) (more_forms f no_forms))) second
    ∙ sym (tree-more levels words (omega (arith, not_none)) (omega (arith, not_few))) in
    subst (λ (form : Form). IfOk c.one_of_two.result (λ expr. form_of expr ≡ form)) both c.one_of_two.ensures
