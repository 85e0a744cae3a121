use Rattle.std.proofs.Common.{rules, IfSome, ◌≡◌, [], ◌∷◌, ◌++◌, fold, drop, sym, ap, ◌∙◌, subst}
use Rattle.manifest_publish.specs.Log.{head_of}
use Rattle.manifest_publish.specs.Seats.{ShownContent, NextContent}
use Rattle.logbook.specs.Pages.{Book, Named}
use Rattle.live_version.specs.Contents.{VersionContent}
use Rattle.manifest_publish.specs.Accounts.{EndsWith}
use Rattle.manifest_publish.proofs.HistoryLemmas.{fold-last}
use Rattle.manifest_publish.proofs.Steps.{turns}
use Rattle.manifest_publish.proofs.press.Press.publish.Goals as goal

pub publish_as-feed-requires : goal.publish_as-feed-requires
publish_as-feed-requires g c next is =
    let was = c.self.inside.feed in
    let now = c.append.new.self in
    let shown = now.desk.shown.value in
    let pending : drop now.behind now.log.items ≡ drop was.behind was.log.items ++ c.args.next ∷ [] = search rules in
    let state = is ∙ (ap (λ ops. fold (λ _ op. (head_of op.publisher, op.version)) (head_of shown.publisher, shown.version) ops) pending
    ∙ fold-last (λ (op : NextContent). (head_of op.publisher, op.version)) (head_of shown.publisher, shown.version) (drop was.behind was.log.items) c.args.next) in
    let same : next.publisher ≡ c.args.next.publisher = ap (λ s. s.0.book) state in
    let kept : shown.publisher ≡ c.args.self = ap (λ d. d.shown.value.publisher) c.append.ensures.desk ∙ c.self.view_is in
    turns _ _ shown next (same ∙ (c.requires ∙ sym kept))

pub returns-clause-shown : goal.returns-clause-shown
returns-clause-shown g c =
    let was = c.self.inside.feed in
    let now = c.append.new.self in
    let shown = now.desk.shown.value in
    let after : ShownContent = c.publish_as-feed.result.0.desk.shown.value in
    let pending : drop now.behind now.log.items ≡ drop was.behind was.log.items ++ c.args.next ∷ [] = search rules in
    let is : (head_of after.publisher, after.version) ≡ fold (λ _ (op : NextContent). (head_of op.publisher, op.version)) (head_of shown.publisher, shown.version) (drop now.behind now.log.items) = search rules in
    let state = is ∙ (ap (λ ops. fold (λ _ op. (head_of op.publisher, op.version)) (head_of shown.publisher, shown.version) ops) pending
    ∙ fold-last (λ (op : NextContent). (head_of op.publisher, op.version)) (head_of shown.publisher, shown.version) (drop was.behind was.log.items) c.args.next) in
    let is_shown : IfSome c.shown_mark-mark.result (λ mark. (mark.publisher ≡ after.publisher) × EndsWith mark.history after.version)
    = subst (λ (s : ShownContent). IfSome c.shown_mark-mark.result (λ mark. (mark.publisher ≡ s.publisher) × EndsWith mark.history s.version)) c.published.ensures c.shown_mark-mark.ensures in
    subst (λ (b : Book). IfSome c.shown_mark-mark.result (λ mark. (mark.publisher ≡ b) × EndsWith mark.history c.args.next.version)) c.requires
    (subst (λ (s : Named × VersionContent). IfSome c.shown_mark-mark.result (λ mark. (mark.publisher ≡ s.0.book) × EndsWith mark.history s.1)) state is_shown)
