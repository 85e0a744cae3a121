use Rattle.std.proofs.Common.{[], ◌∷◌, ◌++◌, sym, ap, ◌∙◌, subst}
use Rattle.live_version.specs.Contents.{VersionContent}
use Rattle.manifest_publish.specs.Accounts.{Account}
use Rattle.manifest_publish.specs.Histories.{IsLawful}
use Rattle.collection.specs.Engines.{EngineContent, IsEngine, engine_content, last_of, with_version}
use Rattle.collection.proofs.EngineLemmas.{last_of-snoc}
use Rattle.collection.proofs.engine.Engine.publish.Goals as goal

pub publish-requires : goal.publish-requires
publish-requires g c =
    let value = c.in_ok-version.version.value in
    subst (λ (e : EngineContent). IsLawful (e.history ++ value ∷ [])) (sym c.self.view_is)
    (subst (λ (v : VersionContent). IsLawful (c.args.self.now.history ++ v ∷ [])) (sym c.in_ok-version.ensures) c.requires.ends.0)

pub invariant_of-self : goal.invariant_of-self
invariant_of-self g c = subst (λ (a : Account). IsEngine (engine_content a.publisher a.history)) (sym c.in_err-receipt.ensures.err) c.self.invariant

pub invariant_of-self-2 : goal.invariant_of-self-2
invariant_of-self-2 g c =
    let value = c.in_ok-version.version.value in
    subst (λ (a : Account). IsEngine (engine_content a.publisher a.history)) (sym c.in_ok-receipt.ensures.history)
    (subst (λ (e : EngineContent). IsEngine (with_version e value)) (sym c.self.view_is)
    (subst (λ (v : VersionContent). IsEngine (with_version c.args.self.now v)) (sym c.in_ok-version.ensures) c.requires))

pub returns-clause-version : goal.returns-clause-version
returns-clause-version g c =
    ap (λ (a : Account). last_of a.history) c.in_ok-receipt.ensures.history ∙ (last_of-snoc c.self.inside.publisher.history c.in_ok-version.version.value ∙ c.in_ok-version.ensures)

pub returns-clause-published : goal.returns-clause-published
returns-clause-published g c =
    let value = c.in_ok-version.version.value in
    let history = c.in_ok-receipt.ensures.history in
    let last = ap (λ (a : Account). last_of a.history) history ∙ last_of-snoc c.self.inside.publisher.history value in
    record {
      publisher = ap (λ (a : Account). a.publisher) history ∙ ap (λ (e : EngineContent). e.publisher) c.self.view_is;
      history = ap (λ (a : Account). a.history) history ∙ ap (λ (e : EngineContent). e.history ++ value ∷ []) c.self.view_is ∙ ap (λ (v : VersionContent). c.args.self.now.history ++ v ∷ []) (sym last);
      receipt = c.in_ok-receipt.ensures.receipt;
    }
