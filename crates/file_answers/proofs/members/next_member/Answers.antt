use Rattle.gcl_model.specs.FormOf.{form_of}
use Rattle.gcl_readers.specs.Standing.{start_at}
use Rattle.file_answers.proofs.MemberLemmas.{answer-of_all, member-below, start-of_some}
use Rattle.file_answers.proofs.members.next_member.Goals as goal

pub returns-clause-answer : goal.returns-clause-answer
returns-clause-answer g c =
    answer-of_all (g.L.Leaves.text c.args.leaves.now) (form_of c.args.expr.now) c.args.readers.now c.args.from c.next.result c.requires.behind c.next.ensures.answer

pub returns-clause-below : goal.returns-clause-below
returns-clause-below g c =
    let text = g.L.Leaves.text c.args.leaves.now in
    let is = answer-of_all text (form_of c.args.expr.now) c.args.readers.now c.args.from c.next.result c.requires.behind c.next.ensures.answer in
    member-below text (form_of c.args.expr.now) c.args.from c.next.result c.span-span.ensures.sound is

pub returns-clause-behind : goal.returns-clause-behind
returns-clause-behind g c = start-of_some (start_at c.next.new.self) c.next.result c.next.ensures.left
