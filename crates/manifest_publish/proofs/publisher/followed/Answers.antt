use Rattle.std.proofs.Common.{◌≡◌, [], ◌∷◌, ◌++◌, ◌∙◌}
use Rattle.live_version.specs.Contents.{VersionContent}
use Rattle.manifest_publish.specs.Accounts.{account}
use Rattle.manifest_publish.proofs.HistoryLemmas.{grown-either}
use Rattle.manifest_publish.proofs.publisher.followed.Goals as goal

pub returns : goal.returns
returns c =
    let last = c.args.last.now in
    let v : VersionContent = c.args.version.value in
    let kept = c.mark.ensures in
    let covers = c.covers-covers.ensures in
    let all : c.args.mark.history ≡ last.history ++ v ∷ [] =
    grown-either last.history c.args.mark.history v c.covers-covers.result c.requires.lawful c.requires.history
    (λ t. rw (← kept) (covers.covers t)) (λ t. rw (← kept) (covers.begins t)) in
    c.of.ensures ∙ (λ i. account (c.requires.publisher i) (all i))
