use Rattle.std.proofs.Common.{sym, subst}
use Rattle.gcl_readers.specs.declared.front.Front.TheVariants.{End}
use Rattle.gcl_readers.specs.Fronts.{IsTold}
use Rattle.gcl_readers.proofs.FrontLemmas.{told_at, told_end}
use Rattle.gcl_readers.proofs.front.told.Goals as goal

pub returns-in-On-clause-told : goal.returns-in-On-clause-told
returns-in-On-clause-told c = told_at c.args.front c.in-On.member c.args.k c.in-On.is c.on_from.result c.on_from.ensures.some

pub returns-in-End-clause-told : goal.returns-in-End-clause-told
returns-in-End-clause-told c = λ list r bounded f. subst (λ w. IsTold list w c.args.k End) (sym c.in-End.is) (told_end list r bounded c.args.k)
