use Rattle.std.proofs.Common.{◌≡◌, ◌∙◌, ◌+◌, ◌≤◌, List, length, sym, ap, subst}
use Rattle.gcl_model.specs.Extents.{Extent}
use Rattle.gcl_model.specs.FormOf.{form_of}
use Rattle.gcl_model.specs.Meaning.{concordance}
use Rattle.gcl_model.specs.Texts.{Text}
use Rattle.gcl_model.specs.Wide.{wide}
use Rattle.gcl_eval.specs.Members.{members_from}
use Rattle.gcl_cursor.specs.Cursors.{IsAt, allowed, left_of}
use Rattle.live_version.specs.Contents.{version_text}
use Rattle.prefix_leaves.specs.Renaming.{renamed}
use Rattle.prefix_leaves.specs.Prefixes.{tokens_of, wide_most}
use Rattle.prefix_leaves.proofs.AskingLemmas.{holds_over, text_over}
use Rattle.prefix_leaves.proofs.Renamed.{apart_decides}
use Rattle.prefix_leaves.proofs.asking.number_of.Goals as goal

pub count-requires-clause-at : goal.count-requires-clause-at
count-requires-clause-at g c =
    let asked : Text = renamed (tokens_of c.new-leaves.result.prefixes.now) (version_text c.new-leaves.result.inner.now) in
    let text : Text = renamed (tokens_of c.args.prefixes.now) (version_text c.args.version.now) in
    let same : asked ≡ text = text_over c.new-leaves.result.prefixes.now c.args.prefixes.now c.new-leaves.result.inner.now c.args.version.now c.new-leaves.ensures.prefixes (c.new-leaves.ensures.inner ∙ c.of-fingers.ensures) in
    subst (λ (t : Text). IsAt t (form_of c.args.expr.now) c.args.from c.args.cursor.now) (sym same) c.requires.at

pub count-requires-clause-given : goal.count-requires-clause-given
count-requires-clause-given g c =
    let asked : Text = renamed (tokens_of c.new-leaves.result.prefixes.now) (version_text c.new-leaves.result.inner.now) in
    let text : Text = renamed (tokens_of c.args.prefixes.now) (version_text c.args.version.now) in
    let same : asked ≡ text = text_over c.new-leaves.result.prefixes.now c.args.prefixes.now c.new-leaves.result.inner.now c.args.version.now c.new-leaves.ensures.prefixes (c.new-leaves.ensures.inner ∙ c.of-fingers.ensures) in
    let list : concordance asked (form_of c.args.expr.now) ≡ wide (version_text c.args.version.now) (form_of c.args.expr.now) =
    ap (λ (t : Text). concordance t (form_of c.args.expr.now)) same ∙ apart_decides (tokens_of c.args.prefixes.now) (version_text c.args.version.now) (form_of c.args.expr.now) c.requires.apart in
    subst (λ (l : List Extent). c.args.given + length (members_from l c.args.from) ≡ length l) (sym list) c.requires.given

pub returns-clause-value : goal.returns-clause-value
returns-clause-value g c =
    let asked : Text = renamed (tokens_of c.new-leaves.result.prefixes.now) (version_text c.new-leaves.result.inner.now) in
    let text : Text = renamed (tokens_of c.args.prefixes.now) (version_text c.args.version.now) in
    let same : asked ≡ text = text_over c.new-leaves.result.prefixes.now c.args.prefixes.now c.new-leaves.result.inner.now c.args.version.now c.new-leaves.ensures.prefixes (c.new-leaves.ensures.inner ∙ c.of-fingers.ensures) in
    let list : concordance asked (form_of c.args.expr.now) ≡ wide (version_text c.args.version.now) (form_of c.args.expr.now) =
    ap (λ (t : Text). concordance t (form_of c.args.expr.now)) same ∙ apart_decides (tokens_of c.args.prefixes.now) (version_text c.args.version.now) (form_of c.args.expr.now) c.requires.apart in
    c.count.ensures.value ∙ ap (λ (l : List Extent). length (members_from l c.args.from)) list

pub returns-clause-at : goal.returns-clause-at
returns-clause-at g c k =
    holds_over (λ text most. IsAt text (form_of c.args.expr.now) k c.count.new.self) c.new-leaves.result.prefixes.now c.args.prefixes.now c.new-leaves.result.inner.now c.args.version.now c.new-leaves.ensures.prefixes (c.new-leaves.ensures.inner ∙ c.of-fingers.ensures) (c.count.ensures.at k)

pub returns-clause-cost : goal.returns-clause-cost
returns-clause-cost g c =
    subst (λ (l : List Extent). c.count.new.steps + left_of (renamed (tokens_of c.args.prefixes.now) (version_text c.args.version.now)) (wide_most c.args.version.now) (form_of c.args.expr.now) c.count.new.self
    ≤ c.args.steps.now + allowed (renamed (tokens_of c.args.prefixes.now) (version_text c.args.version.now)) (wide_most c.args.version.now) (form_of c.args.expr.now) c.args.cursor.now (length l))
    (apart_decides (tokens_of c.args.prefixes.now) (version_text c.args.version.now) (form_of c.args.expr.now) c.requires.apart)
    (holds_over (λ text most. c.count.new.steps + left_of text most (form_of c.args.expr.now) c.count.new.self
    ≤ c.args.steps.now + allowed text most (form_of c.args.expr.now) c.args.cursor.now (length (concordance text (form_of c.args.expr.now))))
    c.new-leaves.result.prefixes.now c.args.prefixes.now c.new-leaves.result.inner.now c.args.version.now c.new-leaves.ensures.prefixes (c.new-leaves.ensures.inner ∙ c.of-fingers.ensures) c.count.ensures.cost)
