use Rattle.std.proofs.Common.{◌≡◌, ◌∙◌, ℕ, ◌+◌, ◌<◌, ◌≤◌, List, IfOk, length, take, sym, ap, subst}
use Rattle.gcl_model.specs.Extents.{Extent}
use Rattle.gcl_model.specs.FormOf.{form_of}
use Rattle.gcl_model.specs.Meaning.{concordance}
use Rattle.gcl_model.specs.Texts.{Text}
use Rattle.gcl_model.specs.Wide.{wide}
use Rattle.gcl_eval.specs.Members.{members_from}
use Rattle.gcl_cursor.specs.Cursors.{IsAt, allowed, left_of}
use Rattle.live_version.specs.Contents.{version_text}
use Rattle.prefix_leaves.specs.Renaming.{renamed}
use Rattle.prefix_leaves.specs.Prefixes.{tokens_of, wide_most}
use Rattle.prefix_leaves.proofs.AskingLemmas.{holds_over, text_over}
use Rattle.prefix_leaves.proofs.Renamed.{apart_decides}
use Rattle.prefix_leaves.proofs.asking.page_of.Goals as goal

pub page-requires-clause-at : goal.page-requires-clause-at
page-requires-clause-at g c =
    let asked : Text = renamed (tokens_of c.new-leaves.result.prefixes.now) (version_text c.new-leaves.result.inner.now) in
    let text : Text = renamed (tokens_of c.args.prefixes.now) (version_text c.args.version.now) in
    let same : asked ≡ text = text_over c.new-leaves.result.prefixes.now c.args.prefixes.now c.new-leaves.result.inner.now c.args.version.now c.new-leaves.ensures.prefixes (c.new-leaves.ensures.inner ∙ c.of-fingers.ensures) in
    subst (λ (t : Text). IsAt t (form_of c.args.expr.now) c.args.page.from c.args.cursor.now) (sym same) c.requires.at

pub returns-clause-ok : goal.returns-clause-ok
returns-clause-ok g c =
    let asked : Text = renamed (tokens_of c.new-leaves.result.prefixes.now) (version_text c.new-leaves.result.inner.now) in
    let text : Text = renamed (tokens_of c.args.prefixes.now) (version_text c.args.version.now) in
    let same : asked ≡ text = text_over c.new-leaves.result.prefixes.now c.args.prefixes.now c.new-leaves.result.inner.now c.args.version.now c.new-leaves.ensures.prefixes (c.new-leaves.ensures.inner ∙ c.of-fingers.ensures) in
    let list : concordance asked (form_of c.args.expr.now) ≡ wide (version_text c.args.version.now) (form_of c.args.expr.now) =
    ap (λ (t : Text). concordance t (form_of c.args.expr.now)) same ∙ apart_decides (tokens_of c.args.prefixes.now) (version_text c.args.version.now) (form_of c.args.expr.now) c.requires.apart in
    subst (λ (l : List Extent). IfOk c.page.result (λ members. members ≡ take c.args.page.most (members_from l c.args.page.from))) list c.page.ensures.ok

pub returns-clause-short : goal.returns-clause-short
returns-clause-short g c =
    holds_over (λ text most. IfOk c.page.result (λ members. length members < c.args.page.most → (k : ℕ) → IsAt text (form_of c.args.expr.now) k c.page.new.self))
    c.new-leaves.result.prefixes.now c.args.prefixes.now c.new-leaves.result.inner.now c.args.version.now c.new-leaves.ensures.prefixes (c.new-leaves.ensures.inner ∙ c.of-fingers.ensures) c.page.ensures.short

pub returns-clause-cost : goal.returns-clause-cost
returns-clause-cost g c =
    subst (λ (l : List Extent). c.page.new.steps + left_of (renamed (tokens_of c.args.prefixes.now) (version_text c.args.version.now)) (wide_most c.args.version.now) (form_of c.args.expr.now) c.page.new.self
    ≤ c.args.steps.now + allowed (renamed (tokens_of c.args.prefixes.now) (version_text c.args.version.now)) (wide_most c.args.version.now) (form_of c.args.expr.now) c.args.cursor.now (length (take c.args.page.most (members_from l c.args.page.from))))
    (apart_decides (tokens_of c.args.prefixes.now) (version_text c.args.version.now) (form_of c.args.expr.now) c.requires.apart)
    (holds_over (λ text most. c.page.new.steps + left_of text most (form_of c.args.expr.now) c.page.new.self
    ≤ c.args.steps.now + allowed text most (form_of c.args.expr.now) c.args.cursor.now (length (take c.args.page.most (members_from (concordance text (form_of c.args.expr.now)) c.args.page.from))))
    c.new-leaves.result.prefixes.now c.args.prefixes.now c.new-leaves.result.inner.now c.args.version.now c.new-leaves.ensures.prefixes (c.new-leaves.ensures.inner ∙ c.of-fingers.ensures) c.page.ensures.cost)
