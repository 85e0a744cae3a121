use Rattle.std.proofs.Common.{◌≡◌, ◌≤◌, ◌+◌, ℕ, List, Some, None, rules, sym, ap, ◌∙◌, subst}
use Rattle.gcl_locality.specs.Windows.{start_or}
use Rattle.gcl_model.specs.Access.{first_end}
use Rattle.gcl_model.specs.Cost.{cost}
use Rattle.gcl_model.specs.Extents.{Extent}
use Rattle.gcl_model.specs.FormOf.{form_of}
use Rattle.gcl_model.specs.Limits.{address_end}
use Rattle.gcl_model.specs.Meaning.{concordance}
use Rattle.gcl_model.specs.Texts.{Text}
use Rattle.live_version.specs.Contents.{VersionContent, version_text}
use Rattle.collection.specs.Engines.{last_of}
use Rattle.collection.proofs.EngineLemmas.{last_is}
use Rattle.reader_pass.specs.Members.{access_most}
use Rattle.near_search.specs.Contents.{start_of}
use Rattle.near_search.proofs.AroundLemmas.{start_within}
use Rattle.near_search.proofs.WindowLemmas.{over_part, within_range}
use Rattle.near_search.proofs.window_pages.Part.start_of.Goals as goal
use Rattle.text_window.specs.Within.{within}

pub returns-in-Some-clause-value : goal.returns-in-Some-clause-value
returns-in-Some-clause-value g c =
    let history : List VersionContent = c.args.self.now.pass.history in
    let v : VersionContent = c.new-text.result.leaves.now in
    let is : v ≡ last_of history = c.new-text.ensures.leaves ∙ sym (last_is history c.version-version.result.now c.version-version.ensures.1) in
    let same : c.deref.result.now ≡ c.args.self.now.expr.value = search rules in
    let text : Text = within (version_text v) c.new-text.result.low c.new-text.result.high in
    let found : first_end (concordance text (form_of c.deref.result.now)) c.args.low ≡ Some c.in-Some.first = sym c.first_end.ensures.answer ∙ c.in-Some.is in
    let start : c.first.inside.start ≡ c.in-Some.first.start = ap (λ (a : Extent). a.start) c.first.view_is in
    over_part (λ v low high e. c.first.inside.start ≡ start_of (within (version_text v) low high) (form_of e) c.args.low)
    v (last_of history) c.new-text.result.low c.args.self.now.window.low c.new-text.result.high c.args.self.now.window.high c.deref.result.now c.args.self.now.expr.value
    is c.new-text.ensures.low c.new-text.ensures.high same (start ∙ ap (start_or text.next) (sym found))

pub returns-in-Some-clause-in_range : goal.returns-in-Some-clause-in_range
returns-in-Some-clause-in_range g c =
    let v : VersionContent = c.new-text.result.leaves.now in
    let text : Text = within (version_text v) c.new-text.result.low c.new-text.result.high in
    let sound : v.next ≤ address_end = subst (λ (w : VersionContent). w.next ≤ address_end) (sym c.new-text.ensures.leaves) c.next-end.ensures.version.in_range in
    let found : first_end (concordance text (form_of c.deref.result.now)) c.args.low ≡ Some c.in-Some.first = sym c.first_end.ensures.answer ∙ c.in-Some.is in
    let start : c.first.inside.start ≡ c.in-Some.first.start = ap (λ (a : Extent). a.start) c.first.view_is in
    subst (λ (n : ℕ). n ≤ address_end) (sym (start ∙ ap (start_or text.next) (sym found)))
    (start_within text (form_of c.deref.result.now) c.args.low (within_range (version_text v) c.new-text.result.low c.new-text.result.high sound))

pub returns-in-Some-clause-cost : goal.returns-in-Some-clause-cost
returns-in-Some-clause-cost g c =
    let history : List VersionContent = c.args.self.now.pass.history in
    let v : VersionContent = c.new-text.result.leaves.now in
    let is : v ≡ last_of history = c.new-text.ensures.leaves ∙ sym (last_is history c.version-version.result.now c.version-version.ensures.1) in
    let same : c.deref.result.now ≡ c.args.self.now.expr.value = search rules in
    over_part (λ v low high e. c.first_end.new.steps ≤ c.args.steps.now + cost (within (version_text v) low high) (access_most v) (form_of e))
    v (last_of history) c.new-text.result.low c.args.self.now.window.low c.new-text.result.high c.args.self.now.window.high c.deref.result.now c.args.self.now.expr.value
    is c.new-text.ensures.low c.new-text.ensures.high same c.first_end.ensures.cost

pub returns-in-None-clause-value : goal.returns-in-None-clause-value
returns-in-None-clause-value g c =
    let history : List VersionContent = c.args.self.now.pass.history in
    let v : VersionContent = c.new-text.result.leaves.now in
    let is : v ≡ last_of history = c.new-text.ensures.leaves ∙ sym (last_is history c.version-version.result.now c.version-version.ensures.1) in
    let same : c.deref.result.now ≡ c.args.self.now.expr.value = search rules in
    let text : Text = within (version_text v) c.new-text.result.low c.new-text.result.high in
    let found : first_end (concordance text (form_of c.deref.result.now)) c.args.low ≡ None = sym c.first_end.ensures.answer ∙ c.in-None.is in
    over_part (λ v low high e. c.span-end.result.next ≡ start_of (within (version_text v) low high) (form_of e) c.args.low)
    v (last_of history) c.new-text.result.low c.args.self.now.window.low c.new-text.result.high c.args.self.now.window.high c.deref.result.now c.args.self.now.expr.value
    is c.new-text.ensures.low c.new-text.ensures.high same (c.span-end.ensures.next ∙ ap (start_or text.next) (sym found))

pub returns-in-None-clause-in_range : goal.returns-in-None-clause-in_range
returns-in-None-clause-in_range g c =
    let v : VersionContent = c.new-text.result.leaves.now in
    let sound : v.next ≤ address_end = subst (λ (w : VersionContent). w.next ≤ address_end) (sym c.new-text.ensures.leaves) c.next-end.ensures.version.in_range in
    subst (λ (n : ℕ). n ≤ address_end) (sym c.span-end.ensures.next) (within_range (version_text v) c.new-text.result.low c.new-text.result.high sound)

pub returns-in-None-clause-cost : goal.returns-in-None-clause-cost
returns-in-None-clause-cost g c =
    let history : List VersionContent = c.args.self.now.pass.history in
    let v : VersionContent = c.new-text.result.leaves.now in
    let is : v ≡ last_of history = c.new-text.ensures.leaves ∙ sym (last_is history c.version-version.result.now c.version-version.ensures.1) in
    let same : c.deref.result.now ≡ c.args.self.now.expr.value = search rules in
    over_part (λ v low high e. c.first_end.new.steps ≤ c.args.steps.now + cost (within (version_text v) low high) (access_most v) (form_of e))
    v (last_of history) c.new-text.result.low c.args.self.now.window.low c.new-text.result.high c.args.self.now.window.high c.deref.result.now c.args.self.now.expr.value
    is c.new-text.ensures.low c.new-text.ensures.high same c.first_end.ensures.cost
