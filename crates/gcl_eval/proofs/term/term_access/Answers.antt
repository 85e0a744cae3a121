use Rattle.std.proofs.Common.{Some, None, ap, sym, ◌∙◌}
use Rattle.gcl_eval.proofs.TermAccess.{term_found}
use Rattle.gcl_eval.proofs.term.term_access.Goals as goal

pub returns-in_default-clause-answer : goal.returns-in_default-clause-answer
returns-in_default-clause-answer g c =
    term_found c.args.access (g.C.CountedLeaves.text c.args.source.now) c.args.token.now c.as_slice.result.now c.args.k None c.in_ok-place.ensures.sound c.as_slice.ensures (sym c.in_default.is ∙ c.in_ok-place.ensures.answer)

pub returns-clause-answer : goal.returns-clause-answer
returns-clause-answer g c =
    ap Some c.new.ensures
    ∙ term_found c.args.access (g.C.CountedLeaves.text c.args.source.now) c.args.token.now c.as_slice.result.now c.args.k (Some c.in-Some.place) c.in_ok-place.ensures.sound c.as_slice.ensures (sym c.in-Some.is ∙ c.in_ok-place.ensures.answer)
