use Rattle.std.proofs.Common.{◌≡◌, [], ◌∷◌, sym, ap, subst}
use Rattle.gcl_model.proofs.Lists.{all_weaker}
use Rattle.live_version.specs.Changes.{empty_version}
use Rattle.manifest_publish.specs.Accounts.{ReaderContent, with_pass}
use Rattle.collection.specs.Engines.{EngineContent}
use Rattle.query_lanes.specs.Readers.{AreOf}
use Rattle.query_run.proofs.open.open.Goals as goal

pub returns-in-Ok-clause-readers : goal.returns-in-Ok-clause-readers
returns-in-Ok-clause-readers g c =
    let p = c.in-Ok.opened.engine.publisher in
    subst (λ (e : EngineContent). AreOf e.publisher c.in-Ok.opened.readers.items) (sym c.seed.ensures)
    (all_weaker (λ (r : ReaderContent). r ≡ with_pass p (empty_version c.args.first ∷ [])) (λ (r : ReaderContent). r.publisher ≡ p) (λ r e. ap (λ (x : ReaderContent). x.publisher) e) c.in-Ok.opened.readers.items c.in-Ok.ensures.readers)

pub returns-in-Ok-clause-bad_first : goal.returns-in-Ok-clause-bad_first
returns-in-Ok-clause-bad_first g c = λ n. (λ is. absurd (cc is), λ cause. let bad = (c.in-Ok.ensures.bad_first n).1 cause in absurd (cc bad))
