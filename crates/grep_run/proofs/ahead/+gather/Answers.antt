use Rattle.std.proofs.Common.{◌≡◌, ◌∷◌, rules, subst}
use Rattle.std.specs.List.{AllByRecursion}
use Rattle.grep_run.specs.inner.Works.{AreSound}
use Rattle.grep_run.proofs.ahead.+gather.Goals as goal

pub returns-clause-ready : goal.returns-clause-ready
returns-clause-ready g t c = λ told r ready all.
    let is : c.args.hands.now ≡ c.in-Some.hand.now ∷ c.in-Some.others.now = search rules in
    let both = subst (λ hands. AllByRecursion (λ hand. AreSound told r hand.works.items) hands) is all in
    c.gather-others_lack.ensures.ready told r (c.put_all.ensures told r ready both.0) both.1

pub returns-clause-held : goal.returns-clause-held
returns-clause-held g t c = λ told all.
    let is : c.args.hands.now ≡ c.in-Some.hand.now ∷ c.in-Some.others.now = search rules in
    let both = subst (λ hands. AllByRecursion (λ hand. g.D.Files.held hand.files ≡ told) hands) is all in
    (both.0, c.gather-others_lack.ensures.held told both.1)
