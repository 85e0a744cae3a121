use Rattle.std.proofs.Common.{◌≡◌, ◌+◌, ◌≤◌, rules, arith, ap, ◌∙◌, sym, subst}
use Rattle.gcl_locality.specs.Agreement.{AgreeOutside}
use Rattle.gcl_locality.specs.Changed.{changed_from, changed_upto}
use Rattle.gcl_model.specs.FormOf.{form_of}
use Rattle.gcl_model.specs.Forms.{Form}
use Rattle.gcl_locality.proofs.Locality.{low_le, high_ge}
use Rattle.live_version.specs.Contents.{VersionContent, version_text}
use Rattle.collection.specs.Engines.{last_of}
use Rattle.collection.proofs.EngineLemmas.{last_is}
use Rattle.standing_query.specs.Edits.{finding_cost}
use Rattle.wide_terms.specs.Expansion.{expansion}
use Rattle.change_search.proofs.opening.addresses_over.Goals as goal

pub changed_addresses-requires-clause-old_is : goal.changed_addresses-requires-clause-old_is
changed_addresses-requires-clause-old_is g c =
    subst (λ (v : VersionContent). form_of c.args.old_expr.now ≡ expansion (version_text v) (form_of c.args.expr.now))
    (last_is c.args.before.now.history c.version-old.result.now c.version-old.ensures.1) c.requires.old_is

pub changed_addresses-requires-clause-new_is : goal.changed_addresses-requires-clause-new_is
changed_addresses-requires-clause-new_is g c =
    subst (λ (v : VersionContent). form_of c.args.new_expr.now ≡ expansion (version_text v) (form_of c.args.expr.now))
    (last_is c.args.after.now.history c.version-new.result.now c.version-new.ensures.1) c.requires.new_is

pub returns-clause-low : goal.returns-clause-low
returns-clause-low g c =
    let old : last_of c.args.before.now.history ≡ c.version-old.result.now = last_is c.args.before.now.history c.version-old.result.now c.version-old.ensures.1 in
    let new : last_of c.args.after.now.history ≡ c.version-new.result.now = last_is c.args.after.now.history c.version-new.result.now c.version-new.ensures.1 in
    c.changed_addresses.ensures.low
    ∙ sym (ap (λ (v : VersionContent). changed_from (version_text v) (version_text c.version-new.result.now) c.args.edited.first (form_of c.args.expr.now)) old)
    ∙ sym (ap (λ (v : VersionContent). changed_from (version_text (last_of c.args.before.now.history)) (version_text v) c.args.edited.first (form_of c.args.expr.now)) new)

pub returns-clause-high : goal.returns-clause-high
returns-clause-high g c =
    let old : last_of c.args.before.now.history ≡ c.version-old.result.now = last_is c.args.before.now.history c.version-old.result.now c.version-old.ensures.1 in
    let new : last_of c.args.after.now.history ≡ c.version-new.result.now = last_is c.args.after.now.history c.version-new.result.now c.version-new.ensures.1 in
    c.changed_addresses.ensures.high
    ∙ sym (ap (λ (v : VersionContent). changed_upto (version_text v) (version_text c.version-new.result.now) c.args.edited.last (form_of c.args.expr.now)) old)
    ∙ sym (ap (λ (v : VersionContent). changed_upto (version_text (last_of c.args.before.now.history)) (version_text v) c.args.edited.last (form_of c.args.expr.now)) new)

pub returns-clause-ordered : goal.returns-clause-ordered
returns-clause-ordered g c =
    let v : VersionContent = c.version-old.result.now in
    let w : VersionContent = c.version-new.result.now in
    let form : Form = form_of c.args.expr.now in
    let old : last_of c.args.before.now.history ≡ v = last_is c.args.before.now.history v c.version-old.ensures.1 in
    let new : last_of c.args.after.now.history ≡ w = last_is c.args.after.now.history w c.version-new.ensures.1 in
    let agree : AgreeOutside (version_text v) (version_text w) c.args.edited.first c.args.edited.last =
    subst (λ (x : VersionContent). AgreeOutside (version_text v) (version_text x) c.args.edited.first c.args.edited.last) new
    (subst (λ (x : VersionContent). AgreeOutside (version_text x) (version_text (last_of c.args.after.now.history)) c.args.edited.first c.args.edited.last) old c.requires.agree) in
    let low : changed_from (version_text v) (version_text w) c.args.edited.first form ≤ c.args.edited.first = low_le (version_text v) (version_text w) c.args.edited.first c.args.edited.last agree form in
    let high : c.args.edited.last ≤ changed_upto (version_text v) (version_text w) c.args.edited.last form = high_ge (version_text v) (version_text w) c.args.edited.first c.args.edited.last agree form in
    let is_low : c.changed_addresses.result.low ≡ changed_from (version_text v) (version_text w) c.args.edited.first form = c.changed_addresses.ensures.low in
    let is_high : c.changed_addresses.result.high ≡ changed_upto (version_text v) (version_text w) c.args.edited.last form = c.changed_addresses.ensures.high in
    let ordered : c.args.edited.first ≤ c.args.edited.last = search rules in
    omega (arith, low, high, is_low, is_high, ordered)

pub returns-clause-cost : goal.returns-clause-cost
returns-clause-cost g c =
    let old : last_of c.args.before.now.history ≡ c.version-old.result.now = last_is c.args.before.now.history c.version-old.result.now c.version-old.ensures.1 in
    let new : last_of c.args.after.now.history ≡ c.version-new.result.now = last_is c.args.after.now.history c.version-new.result.now c.version-new.ensures.1 in
    subst (λ (v : VersionContent). c.changed_addresses.new.steps ≤ c.args.steps.now + finding_cost v (last_of c.args.after.now.history) (form_of c.args.expr.now)) (sym old)
    (subst (λ (v : VersionContent). c.changed_addresses.new.steps ≤ c.args.steps.now + finding_cost c.version-old.result.now v (form_of c.args.expr.now)) (sym new) c.changed_addresses.ensures.cost)
