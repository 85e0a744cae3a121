use Rattle.std.proofs.Common.{◌≡◌, ◌≤◌, ◌<◌, ◌+◌, ℕ, filter, take_while, refl, sym, ap, ◌∙◌, subst, arith}
use Rattle.gcl_eval.specs.Members.{members_from}
use Rattle.gcl_locality.specs.Changed.{touches}
use Rattle.gcl_locality.specs.Windows.{IsPart, WindowsTell, window_from, window_upto}
use Rattle.gcl_model.specs.Cost.{cost}
use Rattle.gcl_model.specs.FormOf.{form_of}
use Rattle.gcl_model.specs.Forms.{Form}
use Rattle.gcl_model.specs.Meaning.{concordance}
use Rattle.gcl_model.specs.Texts.{Text, IsText}
use Rattle.gcl_model.specs.declared.expr.Expr.{Expr}
use Rattle.gcl_model.proofs.Meanings.{concordance_rises}
use Rattle.gcl_readers.specs.MergeCost.{merge_cost}
use Rattle.live_version.specs.Contents.{VersionContent, version_text}
use Rattle.collection.specs.Engines.{last_of}
use Rattle.near_search.specs.Contents.{IsNearWay, NearContent, start_of, starts_by}
use Rattle.near_search.specs.Costs.{near_listing_cost, near_opening_cost, window, window_cost}
use Rattle.near_search.specs.inner.Windows.{text_of_part}
use Rattle.near_search.proofs.NearLemmas.{none_touch, touching_start}
use Rattle.near_search.proofs.near_pages.NearPages.of.Goals as goal
use Rattle.query_search.specs.Pages.{Way}
use Rattle.reader_pass.specs.Members.{access_most}
use Rattle.text_window.specs.Laws.{WindowsAreParts}

-- the members over the window are those over the text
told : (v : VersionContent) (form : Form) (low high : ℕ) → low ≤ high + 1 → WindowsTell → WindowsAreParts → IsText (version_text v) →
    filter (touches low high) (concordance (window v low high form) form) ≡ filter (touches low high) (concordance (version_text v) form)
told v form low high ordered tell parts sound =
    let lies : IsPart (window v low high form) (version_text v) (window_from (version_text v) low high form) (window_upto (version_text v) low high form) =
    parts (version_text v) (window_from (version_text v) low high form) (window_upto (version_text v) low high form) sound in
    tell (version_text v) (window v low high form) form low high ordered lies

-- a fact of the part that was found is one of the window of the expression
over_window : (P : Text → Expr → VersionContent → Type 0) (text text' : Text) (expr expr' : Expr) (v w : VersionContent) → text ≡ text' → expr ≡ expr' → v ≡ w → P text expr v → P text' expr' w
over_window P text text' expr expr' v w is same last p =
    subst (λ (u : VersionContent). P text' expr' u) last (subst (λ (e : Expr). P text' e v) same (subst (λ (t : Text). P t expr v) is p))

pub returns-then-near-from-clause-members : goal.returns-then-near-from-clause-members
returns-then-near-from-clause-members g c =
    let v : VersionContent = last_of c.args.pass.history in
    let form : Form = form_of c.args.expr.value in
    let low : ℕ = c.args.near.low in
    let high : ℕ = c.args.near.high in
    let past : high < c.start_of-from.result = omega (arith, c.if-near-from.true) in
    let from : c.start_of-from.result ≡ start_of (window v low high form) form low =
    over_window (λ t e u. c.start_of-from.result ≡ start_of t (form_of e) low) (text_of_part c.of-part.result) (window v low high form) c.of-part.result.expr.value c.args.expr.value v v
    c.of-part.ensures.text c.of-part.ensures.expr refl c.start_of-from.ensures.value in
    sym (none_touch low high (window v low high form).next (concordance (window v low high form) form) (concordance_rises (window v low high form) form) (subst (λ (n : ℕ). high < n) from past))
    ∙ told v form low high c.requires.ordered c.windows_tell.ensures c.windows_are_parts.ensures c.of-part.ensures.sound

pub returns-clause-members : goal.returns-clause-members
returns-clause-members g c =
    let v : VersionContent = last_of c.args.pass.history in
    let form : Form = form_of c.args.expr.value in
    let low : ℕ = c.args.near.low in
    let high : ℕ = c.args.near.high in
    let from : c.start_of-from.result ≡ start_of (window v low high form) form low =
    over_window (λ t e u. c.start_of-from.result ≡ start_of t (form_of e) low) (text_of_part c.of-part.result) (window v low high form) c.of-part.result.expr.value c.args.expr.value v v
    c.of-part.ensures.text c.of-part.ensures.expr refl c.start_of-from.ensures.value in
    let pages : take_while (starts_by high) c.of.result.to_come ≡ take_while (starts_by high) (members_from (concordance (window v low high form) form) c.start_of-from.result) =
    over_window (λ t e u. take_while (starts_by high) c.of.result.to_come ≡ take_while (starts_by high) (members_from (concordance t (form_of e)) c.start_of-from.result))
    (text_of_part c.of-part.result) (window v low high form) c.of-part.result.expr.value c.args.expr.value v v c.of-part.ensures.text c.of-part.ensures.expr refl
    (ap (λ (n : NearContent). take_while (starts_by high) n.to_come) c.of.ensures) in
    pages ∙ ap (λ (n : ℕ). take_while (starts_by high) (members_from (concordance (window v low high form) form) n)) from
    ∙ touching_start (window v low high form) form low high
    ∙ told v form low high c.requires.ordered c.windows_tell.ensures c.windows_are_parts.ensures c.of-part.ensures.sound

pub returns-clause-way : goal.returns-clause-way
returns-clause-way g c =
    let v : VersionContent = last_of c.args.pass.history in
    let form : Form = form_of c.args.expr.value in
    let low : ℕ = c.args.near.low in
    let high : ℕ = c.args.near.high in
    let cost_is : merge_cost (text_of_part c.of-part.result) (access_most (last_of c.of-part.result.pass.history)) (form_of c.of-part.result.expr.value) ≡ near_listing_cost v low high form =
    over_window (λ t e u. merge_cost (text_of_part c.of-part.result) (access_most (last_of c.of-part.result.pass.history)) (form_of c.of-part.result.expr.value) ≡ merge_cost t (access_most u) (form_of e))
    (text_of_part c.of-part.result) (window v low high form) c.of-part.result.expr.value c.args.expr.value (last_of c.of-part.result.pass.history) v
    c.of-part.ensures.text c.of-part.ensures.expr (ap last_of c.of-part.ensures.pass) refl in
    subst (λ (way : Way). IsNearWay v low high form way) (sym (ap (λ (n : NearContent). n.way) c.of.ensures)) cost_is

-- the window, and then an access over it
paid : (v : VersionContent) (low high : ℕ) (form : Form) (text : Text) (expr : Expr) (w : VersionContent) (steps found all : ℕ) → text ≡ window v low high form → form_of expr ≡ form → w ≡ v
    → found ≤ steps + window_cost v form → all ≤ found + cost text (access_most w) (form_of expr) → all ≤ steps + near_opening_cost v low high form
paid v low high form text expr w steps found all is same last first then =
    let access : cost text (access_most w) (form_of expr) ≡ cost (window v low high form) (access_most v) form =
    ap (λ (t : Text). cost t (access_most w) (form_of expr)) is ∙ ap (λ (f : Form). cost (window v low high form) (access_most w) f) same ∙ ap (λ (u : VersionContent). cost (window v low high form) (access_most u) form) last in
    omega (arith, first, then, access)

pub returns-then-near-from-clause-cost : goal.returns-then-near-from-clause-cost
returns-then-near-from-clause-cost g c =
    paid (last_of c.args.pass.history) c.args.near.low c.args.near.high (form_of c.args.expr.value) (text_of_part c.of-part.result) c.of-part.result.expr.value (last_of c.of-part.result.pass.history)
    c.args.steps.now c.of-part.new.steps c.start_of-from.new.steps c.of-part.ensures.text (ap form_of c.of-part.ensures.expr) (ap last_of c.of-part.ensures.pass) c.of-part.ensures.cost c.start_of-from.ensures.cost

pub returns-clause-cost : goal.returns-clause-cost
returns-clause-cost g c =
    paid (last_of c.args.pass.history) c.args.near.low c.args.near.high (form_of c.args.expr.value) (text_of_part c.of-part.result) c.of-part.result.expr.value (last_of c.of-part.result.pass.history)
    c.args.steps.now c.of-part.new.steps c.start_of-from.new.steps c.of-part.ensures.text (ap form_of c.of-part.ensures.expr) (ap last_of c.of-part.ensures.pass) c.of-part.ensures.cost c.start_of-from.ensures.cost
