use Rattle.std.proofs.Common.{sym, subst}
use Rattle.gcl_model.specs.FormOf.{form_of}
use Rattle.gcl_model.specs.declared.direction.Direction.TheVariants.{Forward}
use Rattle.gcl_eval.specs.KnownAnswers.{KnowsSecond, KnowsOperands}
use Rattle.gcl_eval.proofs.KnownLemmas.{knows_second, second_is_kept}
use Rattle.gcl_eval.proofs.onward.first_of_containment.Goals as goal

pub containment_access-requires-clause-known : goal.containment_access-requires-clause-known
containment_access-requires-clause-known g c =
    let text = g.C.CountedLeaves.text c.args.source.now in
    let form = form_of c.args.expr.now in
    subst (λ o. KnowsSecond Forward text form o) (sym c.known_of-last.ensures) (knows_second text form c.args.known.now c.requires.containment c.requires.known)

pub returns-clause-known : goal.returns-clause-known
returns-clause-known g c =
    let text = g.C.CountedLeaves.text c.args.source.now in
    let form = form_of c.args.expr.now in
    subst (λ known. KnowsOperands text form known) (sym c.keep.ensures)
    (second_is_kept text form c.args.known.now c.requires.containment c.containment_access.new.known c.in_ok-answer.ensures.known)
