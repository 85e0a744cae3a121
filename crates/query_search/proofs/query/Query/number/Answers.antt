use Rattle.std.proofs.Common.{◌≡◌, ◌∙◌, ◌+◌, ◌≤◌, List, length, rules, sym, ap, subst}
use Rattle.gcl_model.specs.Extents.{Extent}
use Rattle.gcl_model.specs.FormOf.{form_of}
use Rattle.gcl_model.specs.Forms.{Form}
use Rattle.gcl_model.specs.Meaning.{concordance}
use Rattle.gcl_model.specs.Texts.{Text}
use Rattle.gcl_eval.specs.Members.{members_from}
use Rattle.gcl_cursor.specs.Cursors.{IsAt, allowed, left_of}
use Rattle.live_version.specs.Contents.{VersionContent, version_text}
use Rattle.collection.specs.Engines.{last_of}
use Rattle.collection.proofs.EngineLemmas.{last_is}
use Rattle.reader_pass.specs.Members.{access_most}
use Rattle.prefix_leaves.specs.Prefixes.{tokens_of, wide_most}
use Rattle.prefix_leaves.specs.Renaming.{renamed}
use Rattle.query_search.specs.inner.Queries.{list_of}
use Rattle.query_search.proofs.QueryLemmas.{alike, asked_form, places_list, places_most, places_text, words_list, words_most, words_text}
use Rattle.query_search.proofs.query.Query.number.Goals as goal

pub wide_number-requires-clause-at : goal.wide_number-requires-clause-at
wide_number-requires-clause-at g c =
    let same : c.deref-in-Some.result.now ≡ c.self.inside.expr.value = search rules in
    let text : renamed (tokens_of c.as_slice-prefixes.result.now) (version_text c.version-version.result.now) ≡ c.args.self.now.text = places_text c.args.self.now c.self.inside.pass.history c.self.inside.expr.value c.self.inside.table c.self.invariant c.self.view_is c.deref-in-Some.result.now same c.in-Some.table c.in-Some.is c.version-version.result.now c.version-version.ensures.1 c.as_slice-prefixes.result.now c.as_slice-prefixes.ensures in
    let form : form_of c.deref-in-Some.result.now ≡ form_of c.args.self.now.expr = asked_form c.args.self.now c.self.inside.pass.history c.self.inside.expr.value c.self.inside.table c.self.invariant c.self.view_is c.deref-in-Some.result.now same in
    subst (λ (t : Text). IsAt t (form_of c.deref-in-Some.result.now) c.args.from c.args.cursor.now) (sym text)
    (subst (λ (f : Form). IsAt c.args.self.now.text f c.args.from c.args.cursor.now) (sym form) c.requires.at)

pub wide_number-requires-clause-given : goal.wide_number-requires-clause-given
wide_number-requires-clause-given g c =
    let same : c.deref-in-Some.result.now ≡ c.self.inside.expr.value = search rules in
    subst (λ (l : List Extent). c.args.given + length (members_from l c.args.from) ≡ length l) (sym (places_list c.args.self.now c.self.inside.pass.history c.self.inside.expr.value c.self.inside.table c.self.invariant c.self.view_is c.deref-in-Some.result.now same c.in-Some.table c.in-Some.is c.version-version.result.now c.version-version.ensures.1 c.as_slice-prefixes.result.now c.as_slice-prefixes.ensures)) c.requires.given

pub pass_number-requires-clause-at : goal.pass_number-requires-clause-at
pass_number-requires-clause-at g c = λ v latest.
    let same : c.deref.result.now ≡ c.self.inside.expr.value = search rules in
    let text : version_text (last_of c.self.inside.pass.history) ≡ c.args.self.now.text = words_text c.args.self.now c.self.inside.pass.history c.self.inside.expr.value c.self.inside.table c.self.invariant c.self.view_is c.deref.result.now same c.in-None.is in
    let form : form_of c.deref.result.now ≡ form_of c.args.self.now.expr = asked_form c.args.self.now c.self.inside.pass.history c.self.inside.expr.value c.self.inside.table c.self.invariant c.self.view_is c.deref.result.now same in
    subst (λ (w : VersionContent). IsAt (version_text w) (form_of c.deref.result.now) c.args.from c.args.cursor.now) (last_is c.self.inside.pass.history v latest)
    (subst (λ (t : Text). IsAt t (form_of c.deref.result.now) c.args.from c.args.cursor.now) (sym text)
    (subst (λ (f : Form). IsAt c.args.self.now.text f c.args.from c.args.cursor.now) (sym form) c.requires.at))

pub pass_number-requires-clause-given : goal.pass_number-requires-clause-given
pass_number-requires-clause-given g c = λ v latest.
    let same : c.deref.result.now ≡ c.self.inside.expr.value = search rules in
    subst (λ (w : VersionContent). c.args.given + length (members_from (concordance (version_text w) (form_of c.deref.result.now)) c.args.from) ≡ length (concordance (version_text w) (form_of c.deref.result.now)))
    (last_is c.self.inside.pass.history v latest)
    (subst (λ (l : List Extent). c.args.given + length (members_from l c.args.from) ≡ length l) (sym (words_list c.args.self.now c.self.inside.pass.history c.self.inside.expr.value c.self.inside.table c.self.invariant c.self.view_is c.deref.result.now same c.in-None.is)) c.requires.given)

pub returns-in-None-clause-value : goal.returns-in-None-clause-value
returns-in-None-clause-value g c =
    let same : c.deref.result.now ≡ c.self.inside.expr.value = search rules in
    c.pass_number.ensures.version (last_of c.self.inside.pass.history) c.self.invariant.last.1
    ∙ ap (λ (l : List Extent). length (members_from l c.args.from)) (words_list c.args.self.now c.self.inside.pass.history c.self.inside.expr.value c.self.inside.table c.self.invariant c.self.view_is c.deref.result.now same c.in-None.is)

pub returns-in-None-clause-cost : goal.returns-in-None-clause-cost
returns-in-None-clause-cost g c =
    let same : c.deref.result.now ≡ c.self.inside.expr.value = search rules in
    let text : version_text (last_of c.self.inside.pass.history) ≡ c.args.self.now.text = words_text c.args.self.now c.self.inside.pass.history c.self.inside.expr.value c.self.inside.table c.self.invariant c.self.view_is c.deref.result.now same c.in-None.is in
    let form : form_of c.deref.result.now ≡ form_of c.args.self.now.expr = asked_form c.args.self.now c.self.inside.pass.history c.self.inside.expr.value c.self.inside.table c.self.invariant c.self.view_is c.deref.result.now same in
    let most : access_most (last_of c.self.inside.pass.history) ≡ c.args.self.now.most = words_most c.args.self.now c.self.inside.pass.history c.self.inside.expr.value c.self.inside.table c.self.invariant c.self.view_is c.deref.result.now same c.in-None.is in
    alike (λ t n f. c.pass_number.new.steps + left_of t n f c.pass_number.new.cursor ≤ c.args.steps.now + allowed t n f c.args.cursor.now (length (concordance t f)))
    (version_text (last_of c.self.inside.pass.history)) c.args.self.now.text (access_most (last_of c.self.inside.pass.history)) c.args.self.now.most (form_of c.deref.result.now) (form_of c.args.self.now.expr) text most form
    (c.pass_number.ensures.cost (last_of c.self.inside.pass.history) c.self.invariant.last.1)

pub returns-in-None-clause-at : goal.returns-in-None-clause-at
returns-in-None-clause-at g c k =
    let same : c.deref.result.now ≡ c.self.inside.expr.value = search rules in
    let text : version_text (last_of c.self.inside.pass.history) ≡ c.args.self.now.text = words_text c.args.self.now c.self.inside.pass.history c.self.inside.expr.value c.self.inside.table c.self.invariant c.self.view_is c.deref.result.now same c.in-None.is in
    let form : form_of c.deref.result.now ≡ form_of c.args.self.now.expr = asked_form c.args.self.now c.self.inside.pass.history c.self.inside.expr.value c.self.inside.table c.self.invariant c.self.view_is c.deref.result.now same in
    subst (λ (f : Form). IsAt c.args.self.now.text f k c.pass_number.new.cursor) form
    (subst (λ (t : Text). IsAt t (form_of c.deref.result.now) k c.pass_number.new.cursor) text (c.pass_number.ensures.at (last_of c.self.inside.pass.history) c.self.invariant.last.1 k))

pub returns-in-Some-clause-value : goal.returns-in-Some-clause-value
returns-in-Some-clause-value g c =
    let same : c.deref-in-Some.result.now ≡ c.self.inside.expr.value = search rules in
    c.wide_number.ensures.value ∙ ap (λ (l : List Extent). length (members_from l c.args.from)) (places_list c.args.self.now c.self.inside.pass.history c.self.inside.expr.value c.self.inside.table c.self.invariant c.self.view_is c.deref-in-Some.result.now same c.in-Some.table c.in-Some.is c.version-version.result.now c.version-version.ensures.1 c.as_slice-prefixes.result.now c.as_slice-prefixes.ensures)

pub returns-in-Some-clause-at : goal.returns-in-Some-clause-at
returns-in-Some-clause-at g c k =
    let same : c.deref-in-Some.result.now ≡ c.self.inside.expr.value = search rules in
    let text : renamed (tokens_of c.as_slice-prefixes.result.now) (version_text c.version-version.result.now) ≡ c.args.self.now.text = places_text c.args.self.now c.self.inside.pass.history c.self.inside.expr.value c.self.inside.table c.self.invariant c.self.view_is c.deref-in-Some.result.now same c.in-Some.table c.in-Some.is c.version-version.result.now c.version-version.ensures.1 c.as_slice-prefixes.result.now c.as_slice-prefixes.ensures in
    let form : form_of c.deref-in-Some.result.now ≡ form_of c.args.self.now.expr = asked_form c.args.self.now c.self.inside.pass.history c.self.inside.expr.value c.self.inside.table c.self.invariant c.self.view_is c.deref-in-Some.result.now same in
    subst (λ (f : Form). IsAt c.args.self.now.text f k c.wide_number.new.cursor) form
    (subst (λ (t : Text). IsAt t (form_of c.deref-in-Some.result.now) k c.wide_number.new.cursor) text (c.wide_number.ensures.at k))

pub returns-in-Some-clause-cost : goal.returns-in-Some-clause-cost
returns-in-Some-clause-cost g c =
    let same : c.deref-in-Some.result.now ≡ c.self.inside.expr.value = search rules in
    let text : renamed (tokens_of c.as_slice-prefixes.result.now) (version_text c.version-version.result.now) ≡ c.args.self.now.text = places_text c.args.self.now c.self.inside.pass.history c.self.inside.expr.value c.self.inside.table c.self.invariant c.self.view_is c.deref-in-Some.result.now same c.in-Some.table c.in-Some.is c.version-version.result.now c.version-version.ensures.1 c.as_slice-prefixes.result.now c.as_slice-prefixes.ensures in
    let form : form_of c.deref-in-Some.result.now ≡ form_of c.args.self.now.expr = asked_form c.args.self.now c.self.inside.pass.history c.self.inside.expr.value c.self.inside.table c.self.invariant c.self.view_is c.deref-in-Some.result.now same in
    let most : wide_most c.version-version.result.now ≡ c.args.self.now.most = places_most c.args.self.now c.self.inside.pass.history c.self.inside.expr.value c.self.inside.table c.self.invariant c.self.view_is c.deref-in-Some.result.now same c.in-Some.table c.in-Some.is c.version-version.result.now c.version-version.ensures.1 c.as_slice-prefixes.result.now c.as_slice-prefixes.ensures in
    let list = places_list c.args.self.now c.self.inside.pass.history c.self.inside.expr.value c.self.inside.table c.self.invariant c.self.view_is c.deref-in-Some.result.now same c.in-Some.table c.in-Some.is c.version-version.result.now c.version-version.ensures.1 c.as_slice-prefixes.result.now c.as_slice-prefixes.ensures in
    alike (λ t n f. c.wide_number.new.steps + left_of t n f c.wide_number.new.cursor ≤ c.args.steps.now + allowed t n f c.args.cursor.now (length (list_of c.args.self.now)))
    (renamed (tokens_of c.as_slice-prefixes.result.now) (version_text c.version-version.result.now)) c.args.self.now.text (wide_most c.version-version.result.now) c.args.self.now.most (form_of c.deref-in-Some.result.now) (form_of c.args.self.now.expr) text most form
    (subst (λ (l : List Extent). c.wide_number.new.steps + left_of (renamed (tokens_of c.as_slice-prefixes.result.now) (version_text c.version-version.result.now)) (wide_most c.version-version.result.now) (form_of c.deref-in-Some.result.now) c.wide_number.new.cursor
    ≤ c.args.steps.now + allowed (renamed (tokens_of c.as_slice-prefixes.result.now) (version_text c.version-version.result.now)) (wide_most c.version-version.result.now) (form_of c.deref-in-Some.result.now) c.args.cursor.now (length l)) list c.wide_number.ensures.cost)
