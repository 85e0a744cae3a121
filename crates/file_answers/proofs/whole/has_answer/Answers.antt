use Rattle.std.proofs.Common.{arith, ◌∙◌}
use Rattle.gcl_model.specs.FormOf.{form_of}
use Rattle.gcl_model.specs.Meaning.{concordance}
use Rattle.file_answers.proofs.MemberLemmas.{some-first}
use Rattle.file_answers.proofs.whole.has_answer.Goals as goal

pub next_member-answer-requires-clause-stands : goal.next_member-answer-requires-clause-stands
next_member-answer-requires-clause-stands g c = c.in_ok-readers.ensures.stands (g.L.Leaves.text c.args.leaves.now)

pub returns-clause-some : goal.returns-clause-some
returns-clause-some g c =
    c.is_some.ensures ∙ some-first (concordance (g.L.Leaves.text c.args.leaves.now) (form_of c.args.asking.now.expr.now)) c.args.asking.now.most c.next_member-answer.result c.next_member-answer.ensures.answer (omega arith)
