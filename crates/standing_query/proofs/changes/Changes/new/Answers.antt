use Rattle.std.proofs.Common.{◌+◌, ◌∙◌, ap, sym, subst, length}
use Rattle.gcl_model.specs.Extents.{IsRising}
use Rattle.gcl_model.specs.FormOf.{form_of}
use Rattle.gcl_model.proofs.Meanings.{concordance_rises}
use Rattle.live_version.specs.Contents.{version_text}
use Rattle.standing_query.specs.Changes.{changes, list_cost, members}
use Rattle.standing_query.proofs.LocalLemmas.{all_touch}
use Rattle.standing_query.proofs.changes.Changes.new.Goals as goal

pub invariant_of-result : goal.invariant_of-result
invariant_of-result c = (
  subst IsRising (sym (c.new.ensures.left ∙ all_touch (version_text c.args.old.now) (form_of c.args.old_expr.now) c.new.ensures.sound)) (concordance_rises (version_text c.args.old.now) (form_of c.args.old_expr.now)),
  subst IsRising (sym (c.new-2.ensures.left ∙ all_touch (version_text c.args.new.now) (form_of c.args.new_expr.now) c.new-2.ensures.sound)) (concordance_rises (version_text c.args.new.now) (form_of c.args.new_expr.now)),
)

pub returns-clause-to_come : goal.returns-clause-to_come
returns-clause-to_come c =
    ap (λ l. changes l c.new-2.result.left) (c.new.ensures.left ∙ all_touch (version_text c.args.old.now) (form_of c.args.old_expr.now) c.new.ensures.sound)
    ∙ ap (λ l. changes (members c.args.old.now (form_of c.args.old_expr.now)) l) (c.new-2.ensures.left ∙ all_touch (version_text c.args.new.now) (form_of c.args.new_expr.now) c.new-2.ensures.sound)

pub returns-clause-look_ups : goal.returns-clause-look_ups
returns-clause-look_ups c =
    let old = c.new.ensures.look_ups ∙ ap (λ l. list_cost c.args.old.now (form_of c.args.old_expr.now) (length l)) (c.new.ensures.left ∙ all_touch (version_text c.args.old.now) (form_of c.args.old_expr.now) c.new.ensures.sound) in
    let new = c.new-2.ensures.look_ups ∙ ap (λ l. list_cost c.args.new.now (form_of c.args.new_expr.now) (length l)) (c.new-2.ensures.left ∙ all_touch (version_text c.args.new.now) (form_of c.args.new_expr.now) c.new-2.ensures.sound) in
    ap (λ n. n + c.new-2.result.look_ups) old ∙ ap (λ n. list_cost c.args.old.now (form_of c.args.old_expr.now) (length (members c.args.old.now (form_of c.args.old_expr.now))) + n) new
