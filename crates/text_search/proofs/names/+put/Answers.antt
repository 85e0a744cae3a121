use Rattle.std.proofs.Common.{◌++◌, map, take, sym, ap, subst, ◌∙◌}
use Rattle.gcl_model.specs.FormOf.{form_of, forms_from}
use Rattle.gcl_model.proofs.FormLemmas.{form_of-Both, form_of-One, form_of-Seq}
use Rattle.text_search.specs.Names.{names_of, names_in}
use Rattle.text_search.specs.Tables.{tokens_in, Names}
use Rattle.text_search.proofs.NameTables.{names_then, names_in-more, on_same, on_then, two_names}
use Rattle.text_search.proofs.names.+put.Goals as goal

pub put_each-loop-operand-preserved : goal.put_each-loop-operand-preserved
put_each-loop-operand-preserved t c =
    let all = c.args.operands.now in
    let i = c.loop-operand.operand-index in
    let e = c.operand-item.result in
    record {
      named = subst (Names (tokens_in c.args.table.now) (tokens_in c.put_names.new.table)) (sym (names_in-more all i e c.loop-operand-test.true c.operand-item.is))
          (names_then (tokens_in c.args.table.now) (tokens_in c.loop-operand.table) (tokens_in c.put_names.new.table) (names_in (forms_from (map form_of (take i all)))) (names_of (form_of e))
          c.loop-operand.invariant.named c.in_ok-put_names.ensures.named);
      empty = λ h. c.put_names.ensures.empty (c.loop-operand.invariant.empty h);
    }

pub put_names-returns-in-Both-clause-named : goal.put_names-returns-in-Both-clause-named
put_names-returns-in-Both-clause-named t c =
    on_same c.put_each.result (tokens_in c.args.table.now) (tokens_in c.put_each.new.table) _ _
    (ap (λ xs. names_in (forms_from (map form_of xs))) c.deref.ensures.value ∙ sym (ap names_of (ap form_of c.in-Both.is ∙ form_of-Both c.in-Both.operands))) c.put_each.ensures.named

pub put_names-returns-in-One-clause-named : goal.put_names-returns-in-One-clause-named
put_names-returns-in-One-clause-named t c =
    on_same c.put_each-in-One.result (tokens_in c.args.table.now) (tokens_in c.put_each-in-One.new.table) _ _
    (ap (λ xs. names_in (forms_from (map form_of xs))) c.deref-in-One.ensures.value ∙ sym (ap names_of (ap form_of c.in-One.is ∙ form_of-One c.in-One.operands))) c.put_each-in-One.ensures.named

pub put_names-returns-in-Seq-clause-named : goal.put_names-returns-in-Seq-clause-named
put_names-returns-in-Seq-clause-named t c =
    on_same c.put_each-in-Seq.result (tokens_in c.args.table.now) (tokens_in c.put_each-in-Seq.new.table) _ _
    (ap (λ xs. names_in (forms_from (map form_of xs))) c.deref-in-Seq.ensures.value ∙ sym (ap names_of (ap form_of c.in-Seq.is ∙ form_of-Seq c.in-Seq.operands))) c.put_each-in-Seq.ensures.named

pub put_names-returns-in_ok-put_names-in-Containing-clause-named : goal.put_names-returns-in_ok-put_names-in-Containing-clause-named
put_names-returns-in_ok-put_names-in-Containing-clause-named t c =
    let first = c.deref-in-Containing.result.now in
    let second = c.deref-in-Containing-2.result.now in
    on_same c.put_names-in-Containing.result (tokens_in c.args.table.now) (tokens_in c.put_names-in-Containing.new.table) (names_of (form_of first) ++ names_of (form_of second)) (names_of (form_of c.args.expr.now))
    (ap (λ x. names_of (form_of x) ++ names_of (form_of second)) c.deref-in-Containing.ensures ∙ ap (λ x. names_of (form_of c.in-Containing.first.value) ++ names_of (form_of x)) c.deref-in-Containing-2.ensures
    ∙ sym (two_names c.args.expr.now c.in-Containing.first c.in-Containing.second c.in-Containing.is))
    (on_then c.put_names-in-Containing.result (tokens_in c.args.table.now) (tokens_in c.put_names.new.table) (tokens_in c.put_names-in-Containing.new.table) (names_of (form_of first)) (names_of (form_of second))
    c.in_ok-put_names-in-Containing.ensures.named c.put_names-in-Containing.ensures.named)
