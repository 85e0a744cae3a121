use Rattle.std.proofs.Common.{◌≡◌, ◌∙◌, ℕ, ◌+◌, ◌-◌, ◌*◌, ◌≤◌, List, rules, sym, ap, subst, arith}
use Rattle.std.proofs.lemmas.Result.{IfOk-weaker}
use Rattle.gcl_model.specs.FormOf.{form_of}
use Rattle.gcl_model.specs.Forms.{Form}
use Rattle.gcl_model.specs.Texts.{Text}
use Rattle.gcl_readers.specs.MergeCost.{merge_cost}
use Rattle.gcl_cursor.specs.Cursors.{IsAt, left_of}
use Rattle.live_version.specs.Contents.{VersionContent}
use Rattle.collection.proofs.EngineLemmas.{last_is}
use Rattle.query_search.specs.inner.Queries.{QueryContent}
use Rattle.query_search.proofs.QueryLemmas.{begins, ends}
use Rattle.query_search.proofs.query.Query.cursor.Goals as goal

pub returns-clause-at : goal.returns-clause-at
returns-clause-at c =
    let same : c.deref-2.result.now ≡ c.self.inside.expr.value = search rules in
    let form : form_of c.deref-2.result.now ≡ form_of c.args.self.now.expr = ap form_of same ∙ ap (λ (q : QueryContent). form_of q.expr) c.self.view_is in
    IfOk-weaker c.new.result _ _ (λ cursor at k. subst (λ (f : Form). IsAt c.args.self.now.text f k cursor) form (at c.args.self.now.text k)) c.new.ensures.at

pub returns-clause-left : goal.returns-clause-left
returns-clause-left c =
    let same : c.deref-2.result.now ≡ c.self.inside.expr.value = search rules in
    let form : form_of c.deref-2.result.now ≡ form_of c.args.self.now.expr = ap form_of same ∙ ap (λ (q : QueryContent). form_of q.expr) c.self.view_is in
    let history : List VersionContent = c.self.inside.pass.history in
    let next : c.version.result.now.next ≡ c.args.self.now.text.next =
    ap (λ (v : VersionContent). v.next) (sym (last_is history c.version.result.now c.version.ensures.1)) ∙ ends history c.self.inside.table ∙ ap (λ (q : QueryContent). q.text.next) c.self.view_is in
    let first : c.version.result.now.first ≡ c.args.self.now.text.first =
    ap (λ (v : VersionContent). v.first) (sym (last_is history c.version.result.now c.version.ensures.1)) ∙ begins history c.self.inside.table ∙ ap (λ (q : QueryContent). q.text.first) c.self.view_is in
    let few : c.leaps_of-leaps.result ≤ 4 * (c.version.result.now.next - c.version.result.now.first) = c.leaps_of-leaps.ensures in
    let text : Text = c.args.self.now.text in
    let most : ℕ = c.args.self.now.most in
    IfOk-weaker c.new.result _ _ (λ cursor left.
    let within : left_of text most (form_of c.args.self.now.expr) cursor ≤ c.leaps_of-leaps.result + 3 * most + merge_cost text most (form_of c.args.self.now.expr) =
    subst (λ (f : Form). left_of text most f cursor ≤ c.leaps_of-leaps.result + 3 * most + merge_cost text most f) form (left text most) in
    omega (arith, within, few, next, first)) c.new.ensures.left
