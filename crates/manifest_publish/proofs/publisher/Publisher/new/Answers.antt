use Rattle.std.proofs.Common.{◌≡◌, List, [], ◌∷◌, sym, ap, ◌∙◌, subst}
use Rattle.std.specs.List.{AllByRecursion}
use Rattle.live_version.specs.Contents.{VersionContent}
use Rattle.manifest_publish.specs.Histories.{IsLawful, IsOpening}
use Rattle.manifest_publish.specs.Accounts.{Account, EndsWith, ReaderContent, with_pass}
use Rattle.manifest_publish.specs.Log.{head_of}
use Rattle.manifest_publish.proofs.publisher.Publisher.new.Goals as goal

ends_with_opening : (history : List VersionContent) (opening : VersionContent) → IsOpening opening → history ≡ opening ∷ [] → EndsWith history opening
ends_with_opening history opening first is = (subst IsLawful (sym is) (first, tt), ([], is))

pub of-last-requires : goal.of-last-requires
of-last-requires g c =
    let is = ap (λ (a : Account). a.history) c.again.ensures ∙ (c.in_ok-head.ensures.1 ∙ ap (λ (v : VersionContent). v ∷ []) c.deref.ensures) in
    subst (EndsWith c.again.result.history) (sym c.in_ok-version.ensures) (ends_with_opening c.again.result.history c.args.opening.value c.requires.opening is)

pub new-requires-clause-history : goal.new-requires-clause-history
new-requires-clause-history g c =
    ends_with_opening c.in_ok-head.mark.history c.args.opening.value c.requires.opening (c.in_ok-head.ensures.1 ∙ ap (λ (v : VersionContent). v ∷ []) c.deref.ensures)

pub readers-made-requires-clause-publisher : goal.readers-made-requires-clause-publisher
readers-made-requires-clause-publisher g c = sym c.in_ok-press.ensures

pub readers-made-requires-clause-history : goal.readers-made-requires-clause-history
readers-made-requires-clause-history g c =
    ends_with_opening c.in_ok-head.mark.history c.args.opening.value c.requires.opening (c.in_ok-head.ensures.1 ∙ ap (λ (v : VersionContent). v ∷ []) c.deref.ensures)

pub invariant_of-result : goal.invariant_of-result
invariant_of-result g c =
    let same : c.of-last.result ≡ c.in_ok-head.mark = c.of-last.ensures ∙ c.again.ensures in (
      c.in_ok-head.ensures.0 ∙ ap (λ (a : Account). head_of a.publisher) (sym same),
      c.readers-made.ensures.kept ∙ (c.in_ok-press.ensures ∙ ap (λ (a : Account). a.publisher) (sym same)),
    )

pub returns-clause-history : goal.returns-clause-history
returns-clause-history g c = ap (λ (a : Account). a.history) (c.of-last.ensures ∙ c.again.ensures) ∙ (c.in_ok-head.ensures.1 ∙ ap (λ (v : VersionContent). v ∷ []) c.deref.ensures)

pub returns-clause-readers : goal.returns-clause-readers
returns-clause-readers g c =
    let made = c.readers-made.result.items in
    let last = c.of-last.result in
    let same : last ≡ c.in_ok-head.mark = c.of-last.ensures ∙ c.again.ensures in
    subst (λ (h : List VersionContent). AllByRecursion (λ (reader : ReaderContent). reader ≡ with_pass last.publisher h) made) (returns-clause-history g c)
    (subst (λ (a : Account). AllByRecursion (λ (reader : ReaderContent). reader ≡ with_pass a.publisher a.history) made) (sym same) c.readers-made.ensures.readers)

pub returns-clause-few : goal.returns-clause-few
returns-clause-few g c = c.readers-made.ensures.few
