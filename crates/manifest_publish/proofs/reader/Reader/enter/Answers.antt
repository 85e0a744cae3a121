use Rattle.std.proofs.Common.{IsErrOf, subst}
use Rattle.manifest_publish.specs.Accounts.{ReaderContent, IsRefused}
use Rattle.manifest_publish.specs.declared.reader.EnterFault.TheVariants.{NoMemory}
use Rattle.manifest_publish.proofs.ReaderLemmas.{may_enter}
use Rattle.manifest_publish.proofs.reader.Reader.enter.Goals as goal

pub reach-requires : goal.reach-requires
reach-requires c =
    let r = c.self.inside in
    may_enter r.seen r.due r.kept r.told r.learnt c.self.invariant.1 c.in-Some.found c.in-Some.ensures.found

pub returns-in-Some-clause-no_memory : goal.returns-in-Some-clause-no_memory
returns-in-Some-clause-no_memory c = subst (λ (self : ReaderContent). IsErrOf c.reach.result NoMemory → IsRefused self c.reach.new.self) c.self.view_is c.reach.ensures.no_memory
