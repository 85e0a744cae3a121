use Rattle.std.proofs.Common.{◌≡◌, [], ◌∷◌, ap}
use Rattle.gcl_model.proofs.Lists.{all_weaker}
use Rattle.live_version.specs.Changes.{empty_version}
use Rattle.manifest_publish.specs.Accounts.{ReaderContent, with_pass}
use Rattle.share_run.proofs.sharing.share_counted.Goals as goal

-- each reader has entered the opening version of the engine's publisher
pub share_named-requires-clause-readers : goal.share_named-requires-clause-readers
share_named-requires-clause-readers g c κs within =
    let p = c.in-Ok.opened.book.engine.publisher in
    all_weaker (λ (r : ReaderContent). r ≡ with_pass p (empty_version 0 ∷ [])) (λ (r : ReaderContent). r.publisher ≡ p) (λ r e. ap (λ (x : ReaderContent). x.publisher) e) c.in-Ok.opened.readers.items c.in-Ok.ensures.readers
