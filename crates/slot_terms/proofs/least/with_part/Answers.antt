use Rattle.std.proofs.Common.{[], ◌∷◌, ◌++◌, ◌∙◌, sym, subst}
use Rattle.slot_terms.specs.Firsts.{IsFirstOf}
use Rattle.slot_terms.specs.Leasts.{IsLeastOf}
use Rattle.slot_terms.proofs.Leasts.{least_begins, least_ended, least_falls, least_kept, least_tied}
use Rattle.slot_terms.proofs.least.with_part.Goals as goal

pub returns-in_default : goal.returns-in_default
returns-in_default c = λ parts place of.
    let own = subst (IsFirstOf c.args.part.now.left) c.in_default.is c.first.ensures in
    least_ended parts c.args.part.now c.args.least own.term of

pub returns-in_default-least : goal.returns-in_default-least
returns-in_default-least c = λ parts place of.
    let own = subst (IsFirstOf c.args.part.now.left) c.in-Some.is c.first.ensures in
    least_begins parts c.args.part.now c.in-Some.first c.args.place own place (subst (IsLeastOf parts) c.in_default-least.is of)

pub returns-in-Less : goal.returns-in-Less
returns-in-Less c = λ parts place of.
    let own = subst (IsFirstOf c.args.part.now.left) c.in-Some.is c.first.ensures in
    least_falls parts c.args.part.now c.in-Some.first c.in-Some-least.old c.args.place own place (subst (IsLeastOf parts) c.in-Some-least.is of) (sym c.in-Less.is ∙ c.order_to.ensures)

pub returns-in-Equal : goal.returns-in-Equal
returns-in-Equal c = λ parts place of.
    let own = subst (IsFirstOf c.args.part.now.left) c.in-Some.is c.first.ensures in
    least_tied parts c.args.part.now c.in-Some.first c.in-Some-least.old own (subst (IsLeastOf parts) c.in-Some-least.is of) (sym c.in-Equal.is ∙ c.order_to.ensures)

pub returns-in-Greater : goal.returns-in-Greater
returns-in-Greater c = λ parts place of.
    let own = subst (IsFirstOf c.args.part.now.left) c.in-Some.is c.first.ensures in
    subst (IsLeastOf (parts ++ c.args.part.now ∷ [])) (sym c.in-Some-least.is)
    (least_kept parts c.args.part.now c.in-Some.first c.in-Some-least.old own (subst (IsLeastOf parts) c.in-Some-least.is of) (sym c.in-Greater.is ∙ c.order_to.ensures))
