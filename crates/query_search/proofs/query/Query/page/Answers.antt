use Rattle.std.proofs.Common.{◌≡◌, ◌+◌, ◌≤◌, List, length, take, rules, sym, subst}
use Rattle.std.proofs.lemmas.Result.{IfOk-weaker}
use Rattle.std.specs.Prelude.{IfOk}
use Rattle.gcl_model.specs.Extents.{Extent}
use Rattle.gcl_model.specs.FormOf.{form_of}
use Rattle.gcl_model.specs.Forms.{Form}
use Rattle.gcl_model.specs.Meaning.{concordance}
use Rattle.gcl_model.specs.Texts.{Text}
use Rattle.gcl_eval.specs.Members.{members_from}
use Rattle.gcl_readers.specs.Reading.{behind_page}
use Rattle.gcl_cursor.specs.Cursors.{IsAt, allowed, left_of}
use Rattle.live_version.specs.Contents.{VersionContent, version_text}
use Rattle.collection.specs.Engines.{last_of}
use Rattle.collection.proofs.EngineLemmas.{last_is}
use Rattle.reader_pass.specs.Members.{access_most}
use Rattle.prefix_leaves.specs.Prefixes.{tokens_of, wide_most}
use Rattle.prefix_leaves.specs.Renaming.{renamed}
use Rattle.query_search.specs.inner.Queries.{list_of}
use Rattle.query_search.proofs.QueryLemmas.{alike, asked_form, places_list, places_most, places_text, words_list, words_most, words_text}
use Rattle.query_search.proofs.query.Query.page.Goals as goal

pub wide_page-requires-clause-at : goal.wide_page-requires-clause-at
wide_page-requires-clause-at g c =
    let same : c.deref-in-Some.result.now ≡ c.self.inside.expr.value = search rules in
    let text : renamed (tokens_of c.as_slice.result.now) (version_text c.version-version.result.now) ≡ c.args.self.now.text = places_text c.args.self.now c.self.inside.pass.history c.self.inside.expr.value c.self.inside.table c.self.invariant c.self.view_is c.deref-in-Some.result.now same c.in-Some.table c.in-Some.is c.version-version.result.now c.version-version.ensures.1 c.as_slice.result.now c.as_slice.ensures in
    let form : form_of c.deref-in-Some.result.now ≡ form_of c.args.self.now.expr = asked_form c.args.self.now c.self.inside.pass.history c.self.inside.expr.value c.self.inside.table c.self.invariant c.self.view_is c.deref-in-Some.result.now same in
    subst (λ (t : Text). IsAt t (form_of c.deref-in-Some.result.now) c.args.page.from c.args.cursor.now) (sym text)
    (subst (λ (f : Form). IsAt c.args.self.now.text f c.args.page.from c.args.cursor.now) (sym form) c.requires.at)

pub pass_page-requires-clause-at : goal.pass_page-requires-clause-at
pass_page-requires-clause-at g c = λ v latest.
    let same : c.deref.result.now ≡ c.self.inside.expr.value = search rules in
    let text : version_text (last_of c.self.inside.pass.history) ≡ c.args.self.now.text = words_text c.args.self.now c.self.inside.pass.history c.self.inside.expr.value c.self.inside.table c.self.invariant c.self.view_is c.deref.result.now same c.in-None.is in
    let form : form_of c.deref.result.now ≡ form_of c.args.self.now.expr = asked_form c.args.self.now c.self.inside.pass.history c.self.inside.expr.value c.self.inside.table c.self.invariant c.self.view_is c.deref.result.now same in
    subst (λ (w : VersionContent). IsAt (version_text w) (form_of c.deref.result.now) c.args.page.from c.args.cursor.now) (last_is c.self.inside.pass.history v latest)
    (subst (λ (t : Text). IsAt t (form_of c.deref.result.now) c.args.page.from c.args.cursor.now) (sym text)
    (subst (λ (f : Form). IsAt c.args.self.now.text f c.args.page.from c.args.cursor.now) (sym form) c.requires.at))

pub returns-in-None-clause-ok : goal.returns-in-None-clause-ok
returns-in-None-clause-ok g c =
    let same : c.deref.result.now ≡ c.self.inside.expr.value = search rules in
    subst (λ (l : List Extent). IfOk c.pass_page.result (λ members. members ≡ take c.args.page.most (members_from l c.args.page.from)))
    (words_list c.args.self.now c.self.inside.pass.history c.self.inside.expr.value c.self.inside.table c.self.invariant c.self.view_is c.deref.result.now same c.in-None.is) (c.pass_page.ensures.version (last_of c.self.inside.pass.history) c.self.invariant.last.1)

pub returns-in-None-clause-full : goal.returns-in-None-clause-full
returns-in-None-clause-full g c =
    let same : c.deref.result.now ≡ c.self.inside.expr.value = search rules in
    let text : version_text (last_of c.self.inside.pass.history) ≡ c.args.self.now.text = words_text c.args.self.now c.self.inside.pass.history c.self.inside.expr.value c.self.inside.table c.self.invariant c.self.view_is c.deref.result.now same c.in-None.is in
    let form : form_of c.deref.result.now ≡ form_of c.args.self.now.expr = asked_form c.args.self.now c.self.inside.pass.history c.self.inside.expr.value c.self.inside.table c.self.invariant c.self.view_is c.deref.result.now same in
    IfOk-weaker c.pass_page.result _ _ (λ members at. λ full. subst (λ (f : Form). IsAt c.args.self.now.text f (behind_page c.args.page.from members) c.pass_page.new.cursor) form
    (subst (λ (t : Text). IsAt t (form_of c.deref.result.now) (behind_page c.args.page.from members) c.pass_page.new.cursor) text (at full)))
    (c.pass_page.ensures.full (last_of c.self.inside.pass.history) c.self.invariant.last.1)

pub returns-in-None-clause-cost : goal.returns-in-None-clause-cost
returns-in-None-clause-cost g c =
    let same : c.deref.result.now ≡ c.self.inside.expr.value = search rules in
    let text : version_text (last_of c.self.inside.pass.history) ≡ c.args.self.now.text = words_text c.args.self.now c.self.inside.pass.history c.self.inside.expr.value c.self.inside.table c.self.invariant c.self.view_is c.deref.result.now same c.in-None.is in
    let form : form_of c.deref.result.now ≡ form_of c.args.self.now.expr = asked_form c.args.self.now c.self.inside.pass.history c.self.inside.expr.value c.self.inside.table c.self.invariant c.self.view_is c.deref.result.now same in
    let most : access_most (last_of c.self.inside.pass.history) ≡ c.args.self.now.most = words_most c.args.self.now c.self.inside.pass.history c.self.inside.expr.value c.self.inside.table c.self.invariant c.self.view_is c.deref.result.now same c.in-None.is in
    alike (λ t n f. c.pass_page.new.steps + left_of t n f c.pass_page.new.cursor ≤ c.args.steps.now + allowed t n f c.args.cursor.now (length (take c.args.page.most (members_from (concordance t f) c.args.page.from))))
    (version_text (last_of c.self.inside.pass.history)) c.args.self.now.text (access_most (last_of c.self.inside.pass.history)) c.args.self.now.most (form_of c.deref.result.now) (form_of c.args.self.now.expr) text most form
    (c.pass_page.ensures.cost (last_of c.self.inside.pass.history) c.self.invariant.last.1)

pub returns-in-None-clause-short : goal.returns-in-None-clause-short
returns-in-None-clause-short g c =
    let same : c.deref.result.now ≡ c.self.inside.expr.value = search rules in
    let text : version_text (last_of c.self.inside.pass.history) ≡ c.args.self.now.text = words_text c.args.self.now c.self.inside.pass.history c.self.inside.expr.value c.self.inside.table c.self.invariant c.self.view_is c.deref.result.now same c.in-None.is in
    let form : form_of c.deref.result.now ≡ form_of c.args.self.now.expr = asked_form c.args.self.now c.self.inside.pass.history c.self.inside.expr.value c.self.inside.table c.self.invariant c.self.view_is c.deref.result.now same in
    IfOk-weaker c.pass_page.result _ _ (λ members at. λ less k. subst (λ (f : Form). IsAt c.args.self.now.text f k c.pass_page.new.cursor) form
    (subst (λ (t : Text). IsAt t (form_of c.deref.result.now) k c.pass_page.new.cursor) text (at less k)))
    (c.pass_page.ensures.short (last_of c.self.inside.pass.history) c.self.invariant.last.1)

pub returns-in-Some-clause-ok : goal.returns-in-Some-clause-ok
returns-in-Some-clause-ok g c =
    let same : c.deref-in-Some.result.now ≡ c.self.inside.expr.value = search rules in
    subst (λ (l : List Extent). IfOk c.wide_page.result (λ members. members ≡ take c.args.page.most (members_from l c.args.page.from)))
    (places_list c.args.self.now c.self.inside.pass.history c.self.inside.expr.value c.self.inside.table c.self.invariant c.self.view_is c.deref-in-Some.result.now same c.in-Some.table c.in-Some.is c.version-version.result.now c.version-version.ensures.1 c.as_slice.result.now c.as_slice.ensures) c.wide_page.ensures.ok

pub returns-in-Some-clause-full : goal.returns-in-Some-clause-full
returns-in-Some-clause-full g c =
    let same : c.deref-in-Some.result.now ≡ c.self.inside.expr.value = search rules in
    let text : renamed (tokens_of c.as_slice.result.now) (version_text c.version-version.result.now) ≡ c.args.self.now.text = places_text c.args.self.now c.self.inside.pass.history c.self.inside.expr.value c.self.inside.table c.self.invariant c.self.view_is c.deref-in-Some.result.now same c.in-Some.table c.in-Some.is c.version-version.result.now c.version-version.ensures.1 c.as_slice.result.now c.as_slice.ensures in
    let form : form_of c.deref-in-Some.result.now ≡ form_of c.args.self.now.expr = asked_form c.args.self.now c.self.inside.pass.history c.self.inside.expr.value c.self.inside.table c.self.invariant c.self.view_is c.deref-in-Some.result.now same in
    IfOk-weaker c.wide_page.result _ _ (λ members at. λ full. subst (λ (f : Form). IsAt c.args.self.now.text f (behind_page c.args.page.from members) c.wide_page.new.cursor) form
    (subst (λ (t : Text). IsAt t (form_of c.deref-in-Some.result.now) (behind_page c.args.page.from members) c.wide_page.new.cursor) text (at full)))
    c.wide_page.ensures.full

pub returns-in-Some-clause-short : goal.returns-in-Some-clause-short
returns-in-Some-clause-short g c =
    let same : c.deref-in-Some.result.now ≡ c.self.inside.expr.value = search rules in
    let text : renamed (tokens_of c.as_slice.result.now) (version_text c.version-version.result.now) ≡ c.args.self.now.text = places_text c.args.self.now c.self.inside.pass.history c.self.inside.expr.value c.self.inside.table c.self.invariant c.self.view_is c.deref-in-Some.result.now same c.in-Some.table c.in-Some.is c.version-version.result.now c.version-version.ensures.1 c.as_slice.result.now c.as_slice.ensures in
    let form : form_of c.deref-in-Some.result.now ≡ form_of c.args.self.now.expr = asked_form c.args.self.now c.self.inside.pass.history c.self.inside.expr.value c.self.inside.table c.self.invariant c.self.view_is c.deref-in-Some.result.now same in
    IfOk-weaker c.wide_page.result _ _ (λ members at. λ less k. subst (λ (f : Form). IsAt c.args.self.now.text f k c.wide_page.new.cursor) form
    (subst (λ (t : Text). IsAt t (form_of c.deref-in-Some.result.now) k c.wide_page.new.cursor) text (at less k)))
    c.wide_page.ensures.short

pub returns-in-Some-clause-cost : goal.returns-in-Some-clause-cost
returns-in-Some-clause-cost g c =
    let same : c.deref-in-Some.result.now ≡ c.self.inside.expr.value = search rules in
    let text : renamed (tokens_of c.as_slice.result.now) (version_text c.version-version.result.now) ≡ c.args.self.now.text = places_text c.args.self.now c.self.inside.pass.history c.self.inside.expr.value c.self.inside.table c.self.invariant c.self.view_is c.deref-in-Some.result.now same c.in-Some.table c.in-Some.is c.version-version.result.now c.version-version.ensures.1 c.as_slice.result.now c.as_slice.ensures in
    let form : form_of c.deref-in-Some.result.now ≡ form_of c.args.self.now.expr = asked_form c.args.self.now c.self.inside.pass.history c.self.inside.expr.value c.self.inside.table c.self.invariant c.self.view_is c.deref-in-Some.result.now same in
    let most : wide_most c.version-version.result.now ≡ c.args.self.now.most = places_most c.args.self.now c.self.inside.pass.history c.self.inside.expr.value c.self.inside.table c.self.invariant c.self.view_is c.deref-in-Some.result.now same c.in-Some.table c.in-Some.is c.version-version.result.now c.version-version.ensures.1 c.as_slice.result.now c.as_slice.ensures in
    let list = places_list c.args.self.now c.self.inside.pass.history c.self.inside.expr.value c.self.inside.table c.self.invariant c.self.view_is c.deref-in-Some.result.now same c.in-Some.table c.in-Some.is c.version-version.result.now c.version-version.ensures.1 c.as_slice.result.now c.as_slice.ensures in
    alike (λ t n f. c.wide_page.new.steps + left_of t n f c.wide_page.new.cursor ≤ c.args.steps.now + allowed t n f c.args.cursor.now (length (take c.args.page.most (members_from (list_of c.args.self.now) c.args.page.from))))
    (renamed (tokens_of c.as_slice.result.now) (version_text c.version-version.result.now)) c.args.self.now.text (wide_most c.version-version.result.now) c.args.self.now.most (form_of c.deref-in-Some.result.now) (form_of c.args.self.now.expr) text most form
    (subst (λ (l : List Extent). c.wide_page.new.steps + left_of (renamed (tokens_of c.as_slice.result.now) (version_text c.version-version.result.now)) (wide_most c.version-version.result.now) (form_of c.deref-in-Some.result.now) c.wide_page.new.cursor
    ≤ c.args.steps.now + allowed (renamed (tokens_of c.as_slice.result.now) (version_text c.version-version.result.now)) (wide_most c.version-version.result.now) (form_of c.deref-in-Some.result.now) c.args.cursor.now (length (take c.args.page.most (members_from l c.args.page.from)))) list c.wide_page.ensures.cost)
