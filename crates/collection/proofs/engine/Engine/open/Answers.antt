use Rattle.std.proofs.Common.{◌≡◌, ◌≤◌, List, [], ◌∷◌, sym, ap, ◌∙◌, subst, arith}
use Rattle.std.specs.List.{AllByRecursion}
use Rattle.gcl_model.specs.Limits.{address_end}
use Rattle.live_version.specs.Changes.{empty_version}
use Rattle.live_version.specs.Contents.{VersionContent}
use Rattle.manifest_publish.specs.Accounts.{ReaderContent, with_pass}
use Rattle.collection.specs.Engines.{IsEngine, engine_content}
use Rattle.collection.proofs.EngineLemmas.{engine-opened}
use Rattle.collection.proofs.engine.Engine.open.Goals as goal

pub invariant_of-result : goal.invariant_of-result
invariant_of-result g c =
    let p = c.in_ok-publisher.publisher in
    let opening : c.in_ok-opening.opening.value ≡ empty_version c.args.first = c.in_ok-opening.ensures ∙ c.empty.ensures in
    let history : p.history ≡ empty_version c.args.first ∷ [] = c.in_ok-publisher.ensures.history ∙ ap (λ v. v ∷ []) opening in
    let le : c.args.first ≤ address_end = omega (arith, c.if-first-gt-ADDRESS_END.false) in
    subst (λ (h : List VersionContent). IsEngine (engine_content p.publisher h)) (sym history) (engine-opened p.publisher c.args.first le)

pub returns-clause-readers : goal.returns-clause-readers
returns-clause-readers g c =
    let p = c.in_ok-publisher.publisher in
    let opening : c.in_ok-opening.opening.value ≡ empty_version c.args.first = c.in_ok-opening.ensures ∙ c.empty.ensures in
    subst (λ (v : VersionContent). AllByRecursion (λ (reader : ReaderContent). reader ≡ with_pass p.publisher (v ∷ [])) c.in_ok-publisher.readers.items) opening c.in_ok-publisher.ensures.readers
