use Rattle.std.proofs.Common.{true, sym, subst}
use Rattle.manifest_publish.specs.Tracked.{IsTracked}
use Rattle.manifest_publish.proofs.ReaderLemmas.{tracked-learnt}
use Rattle.manifest_publish.proofs.reader.Reader.learn.Goals as goal

pub invariant_of-self : goal.invariant_of-self
invariant_of-self c =
    let r = c.self.inside in
    let longer = c.longer.ensures in (
      c.self.invariant.0,
      subst (λ told. IsTracked r.seen c.longer.result r.kept told true) (sym c.with.ensures)
          (tracked-learnt r.seen r.due r.kept r.told r.learnt c.self.invariant.1 c.into_mark-mark.result c.longer.result longer.publisher longer.one longer.other),
    )
