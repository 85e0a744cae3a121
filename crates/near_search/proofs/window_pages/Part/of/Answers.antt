use Rattle.std.proofs.Common.{◌≡◌, ◌≤◌, ◌+◌, ℕ, rules, sym, ap, ◌∙◌, subst}
use Rattle.gcl_locality.specs.Windows.{window_from, window_upto}
use Rattle.gcl_model.specs.FormOf.{form_of}
use Rattle.gcl_model.specs.Texts.{IsText}
use Rattle.gcl_model.specs.declared.expr.Expr.{Expr}
use Rattle.live_version.specs.Contents.{VersionContent, version_text}
use Rattle.collection.specs.Engines.{last_of}
use Rattle.collection.proofs.EngineLemmas.{last_is}
use Rattle.near_search.specs.Costs.{window, window_cost}
use Rattle.near_search.proofs.window_pages.Part.of.Goals as goal
use Rattle.text_window.specs.Within.{within}

-- the window that was found is that of the expression over the last version
found : (last v : VersionContent) (expr other : Expr) (low high lo hi : ℕ) → last ≡ v → other ≡ expr → lo ≡ window_from (version_text v) low high (form_of other) →
    hi ≡ window_upto (version_text v) low high (form_of other) → within (version_text last) lo hi ≡ window last low high (form_of expr)
found last v expr other low high lo hi is same lows highs =
    ap (λ (n : ℕ). within (version_text last) n hi) (lows ∙ ap (λ (w : VersionContent). window_from (version_text w) low high (form_of other)) (sym is)
    ∙ ap (λ (e : Expr). window_from (version_text last) low high (form_of e)) same)
    ∙ ap (λ (n : ℕ). within (version_text last) (window_from (version_text last) low high (form_of expr)) n) (highs
    ∙ ap (λ (w : VersionContent). window_upto (version_text w) low high (form_of other)) (sym is)
    ∙ ap (λ (e : Expr). window_upto (version_text last) low high (form_of e)) same)

pub returns-clause-text : goal.returns-clause-text
returns-clause-text g c =
    let last : VersionContent = last_of c.args.pass.history in
    let is : last ≡ c.version-version.result.now = last_is c.args.pass.history c.version-version.result.now c.version-version.ensures.1 in
    let same : c.deref.result.now ≡ c.args.expr.value = search rules in
    found last c.version-version.result.now c.args.expr.value c.deref.result.now c.args.near.low c.args.near.high c.window_of-window.result.low c.window_of-window.result.high is same
    c.window_of-window.ensures.low c.window_of-window.ensures.high

pub returns-clause-sound : goal.returns-clause-sound
returns-clause-sound g c =
    let is : last_of c.args.pass.history ≡ c.version-version.result.now = last_is c.args.pass.history c.version-version.result.now c.version-version.ensures.1 in
    subst (λ (w : VersionContent). IsText (version_text w)) (sym is) c.span-span.ensures.sound

pub returns-clause-cost : goal.returns-clause-cost
returns-clause-cost g c =
    let is : last_of c.args.pass.history ≡ c.version-version.result.now = last_is c.args.pass.history c.version-version.result.now c.version-version.ensures.1 in
    let same : c.deref.result.now ≡ c.args.expr.value = search rules in
    subst (λ (w : VersionContent). c.window_of-window.new.steps ≤ c.args.steps.now + window_cost w (form_of c.args.expr.value)) (sym is)
    (subst (λ (e : Expr). c.window_of-window.new.steps ≤ c.args.steps.now + window_cost c.version-version.result.now (form_of e)) same c.window_of-window.ensures.cost)
