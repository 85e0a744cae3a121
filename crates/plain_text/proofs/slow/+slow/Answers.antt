use Rattle.plain_text.proofs.Operands.{both_answer, one_answer, seq_answer, containment_answer}
use Rattle.gcl_model.specs.FormOf.{form_of}
use Rattle.plain_text.proofs.slow.+slow.Goals as goal

pub slow_list-returns-in_ok-lists-in-Both : goal.slow_list-returns-in_ok-lists-in-Both
slow_list-returns-in_ok-lists-in-Both t c =
    both_answer c.args.text.now c.args.expr.now c.in-Both.operands c.as_slice-in-Both.result.now c.in_ok-lists-in-Both.lists.items c.as_slice-in-Both-2.result.now c.both_list.result
    c.as_slice-in-Both.ensures.value c.in_ok-lists-in-Both.ensures c.as_slice-in-Both-2.ensures.value c.in-Both.is c.both_list.ensures

pub slow_list-returns-in_ok-lists-in-One : goal.slow_list-returns-in_ok-lists-in-One
slow_list-returns-in_ok-lists-in-One t c =
    one_answer c.args.text.now c.args.expr.now c.in-One.operands c.as_slice-in-One.result.now c.in_ok-lists-in-One.lists.items c.as_slice-in-One-2.result.now c.one_list.result
    c.as_slice-in-One.ensures.value c.in_ok-lists-in-One.ensures c.as_slice-in-One-2.ensures.value c.in-One.is c.one_list.ensures

pub slow_list-returns-in_ok-lists-in-Seq : goal.slow_list-returns-in_ok-lists-in-Seq
slow_list-returns-in_ok-lists-in-Seq t c =
    seq_answer c.args.text.now c.args.expr.now c.in-Seq.operands c.as_slice-in-Seq.result.now c.in_ok-lists-in-Seq.lists.items c.as_slice-in-Seq-2.result.now c.seq_list.result
    c.as_slice-in-Seq.ensures.value c.in_ok-lists-in-Seq.ensures c.as_slice-in-Seq-2.ensures.value c.in-Seq.is c.seq_list.ensures

pub slow_containment-returns : goal.slow_containment-returns
slow_containment-returns t c =
    containment_answer c.args.text.now c.args.containment (form_of c.args.first.now) (form_of c.args.second.now) c.in_ok-first.first c.in_ok-second.second
    c.as_slice.result.now c.as_slice-2.result.now c.kept_list.result
    c.in_ok-first.ensures c.in_ok-second.ensures c.as_slice.ensures c.as_slice-2.ensures c.kept_list.ensures
