use Rattle.std.proofs.Common.{refl, [], sym, subst}
use Rattle.std.specs.List.{AllByRecursion}
use Rattle.slot_terms.specs.Parts.{IsPart}
use Rattle.slot_terms.proofs.Leasts.{least_member, none_later}
use Rattle.slot_terms.proofs.Passing.{next_of, past_tables, none_left}
use Rattle.slot_terms.proofs.terms.SlotTerms.next_lists.Goals as goal

pub returns-in-Some-clause-next : goal.returns-in-Some-clause-next
returns-in-Some-clause-next c =
    next_of c.args.self.now c.in-Some.least.first.term.now [] _ c.requires c.in-Some.ensures.none_earlier (least_member c.args.self.now c.in-Some.least c.in-Some.ensures) refl c.in_ok-take_lists.ensures.lists

pub returns-in-Some-clause-parts : goal.returns-in-Some-clause-parts
returns-in-Some-clause-parts c = subst (AllByRecursion IsPart) (sym c.in_ok-take_lists.ensures.past) (past_tables c.args.self.now c.in-Some.least.first.term.now c.requires)

pub returns-clause-none : goal.returns-clause-none
returns-clause-none c = λ is term. none_left c.args.self.now term (none_later c.args.self.now c.in_default.ensures)
