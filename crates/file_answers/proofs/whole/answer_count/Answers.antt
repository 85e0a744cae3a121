use Rattle.std.proofs.Common.{arith, ap, length}
use Rattle.std.proofs.lemmas.List.{length-take}
use Rattle.gcl_model.specs.FormOf.{form_of}
use Rattle.gcl_model.specs.Meaning.{concordance}
use Rattle.file_answers.proofs.MemberLemmas.{all-left}
use Rattle.file_answers.proofs.whole.answer_count.Goals as goal

pub read_count-count-requires-clause-stands : goal.read_count-count-requires-clause-stands
read_count-count-requires-clause-stands g c = c.in_ok-readers.ensures.stands (g.L.Leaves.text c.args.leaves.now)

pub returns-clause-value : goal.returns-clause-value
returns-clause-value g c =
    let text = g.L.Leaves.text c.args.leaves.now in
    let form = form_of c.args.asking.now.expr.now in
    let all = ap length (all-left text form c.in_ok-readers.readers c.in_ok-readers.ensures.left) in
    omega (arith, c.read_count-count.ensures.value, all, length-take c.args.asking.now.most (concordance text form))

pub returns-clause-cost : goal.returns-clause-cost
returns-clause-cost g c =
    omega (arith, c.read_count-count.ensures.cost, c.in_ok-readers.ensures.cost (g.L.Leaves.text c.args.leaves.now) (g.L.Leaves.most c.args.leaves.now))
