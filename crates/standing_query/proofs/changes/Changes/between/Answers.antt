use Rattle.std.proofs.Common.{◌∙◌, ap, sym, subst, filter}
use Rattle.gcl_locality.specs.Changed.{touches}
use Rattle.gcl_model.specs.Extents.{IsRising}
use Rattle.gcl_model.specs.FormOf.{form_of}
use Rattle.gcl_model.proofs.Meanings.{concordance_rises}
use Rattle.live_version.specs.Contents.{version_text}
use Rattle.standing_query.specs.Changes.{changes, members}
use Rattle.standing_query.proofs.LocalLemmas.{kept_rises, changes_within}
use Rattle.standing_query.proofs.changes.Changes.between.Goals as goal

pub invariant_of-result : goal.invariant_of-result
invariant_of-result c = (
  subst IsRising (sym c.new.ensures.left) (kept_rises (touches c.args.low c.args.high) _ (concordance_rises (version_text c.args.old.now) (form_of c.args.old_expr.now))),
  subst IsRising (sym c.new-2.ensures.left) (kept_rises (touches c.args.low c.args.high) _ (concordance_rises (version_text c.args.new.now) (form_of c.args.new_expr.now))),
)

pub returns-clause-to_come : goal.returns-clause-to_come
returns-clause-to_come c =
    ap (λ l. changes l c.new-2.result.left) c.new.ensures.left
    ∙ ap (λ l. changes (filter (touches c.args.low c.args.high) (members c.args.old.now (form_of c.args.old_expr.now))) l) c.new-2.ensures.left
    ∙ changes_within (members c.args.old.now (form_of c.args.old_expr.now)) (members c.args.new.now (form_of c.args.new_expr.now)) c.args.low c.args.high c.requires.local
