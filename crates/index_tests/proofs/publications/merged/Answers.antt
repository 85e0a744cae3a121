use Rattle.std.proofs.Common.{rules, ◌∷◌, [], ◌++◌, sym, ap, subst}
use Rattle.manifest_publish.specs.Histories.{IsLawful}
use Rattle.manifest_publish.specs.Accounts.{EndsWith}
use Rattle.manifest_publish.proofs.Stands.{lawful-same}
use Rattle.index_tests.proofs.publications.merged.Goals as goal

pub returns : goal.returns
returns c =
    let history = c.args.publisher.now.history in
    let last = c.deref-last.result.now in
    let ends : EndsWith history last = search rules in
    let same = c.in_ok-version.ensures.value in
    subst (λ shared. IsLawful (history ++ shared ∷ [])) (sym c.in_ok-shared.ensures)
    (lawful-same history last c.in_ok-version.version ends.0 ends.1 (ap (λ w. w.number) same) (ap (λ w. w.edition) same) c.in_ok-version.ensures.stands)
