use Rattle.std.proofs.Common.{◌≡◌, fold, ap, ◌∙◌}
use Rattle.manifest_publish.specs.Log.{head_of}
use Rattle.manifest_publish.proofs.Steps.{begins}
use Rattle.manifest_publish.proofs.press.Press.new.Goals as goal

pub publish_as-feed-requires : goal.publish_as-feed-requires
publish_as-feed-requires g c next is =
    let feed = c.in_ok-feed.feed in
    let shown = feed.desk.shown.value in
    let state = is ∙ ap (λ ops. fold (λ _ op. (head_of op.publisher, op.version)) (head_of shown.publisher, shown.version) ops) c.in_ok-feed.ensures.1 in
    let same : next.publisher ≡ shown.publisher = ap (λ s. s.0.book) state in
    begins _ _ shown next same
