use Rattle.std.proofs.Common.{◌≡◌, ◌+◌, ◌<◌, ◌≤◌, List, IfOk, take, rules, sym, ◌∙◌, subst}
use Rattle.std.proofs.lemmas.Result.{IfOk-weaker}
use Rattle.std.specs.List.{AllByRecursion}
use Rattle.gcl_eval.specs.Members.{members_from}
use Rattle.gcl_model.specs.Extents.{Extent}
use Rattle.gcl_model.specs.FormOf.{form_of}
use Rattle.gcl_model.specs.Limits.{address_end}
use Rattle.gcl_readers.specs.MergeCost.{cost_left}
use Rattle.gcl_readers.specs.Standing.{Stands, left_to, start_at}
use Rattle.live_version.specs.Contents.{VersionContent, version_text}
use Rattle.collection.specs.Engines.{last_of}
use Rattle.collection.proofs.EngineLemmas.{last_is}
use Rattle.reader_pass.specs.Members.{access_most}
use Rattle.gcl_cursor.proofs.LeftLemmas.{from_later}
use Rattle.text_window.specs.Within.{within}
use Rattle.near_search.specs.inner.Windows.{list_of_part}
use Rattle.near_search.proofs.WindowLemmas.{over_part, page_below}
use Rattle.near_search.proofs.window_pages.Part.read_by.Goals as goal

pub read_list_from-requires-clause-stands : goal.read_list_from-requires-clause-stands
read_list_from-requires-clause-stands g c =
    let history : List VersionContent = c.args.self.now.pass.history in
    let is : last_of history ≡ c.new-text.result.leaves.now = last_is history c.version-version.result.now c.version-version.ensures.1 ∙ sym c.new-text.ensures.leaves in
    let same : c.args.self.now.expr.value ≡ c.deref.result.now = search rules in
    over_part (λ v low high e. Stands (within (version_text v) low high) (form_of e) c.args.readers.now) (last_of history) c.new-text.result.leaves.now
    c.args.self.now.window.low c.new-text.result.low c.args.self.now.window.high c.new-text.result.high c.args.self.now.expr.value c.deref.result.now
    is (sym c.new-text.ensures.low) (sym c.new-text.ensures.high) same c.requires.is.standing.0

pub returns-clause-ok : goal.returns-clause-ok
returns-clause-ok g c =
    let history : List VersionContent = c.args.self.now.pass.history in
    let is : c.new-text.result.leaves.now ≡ last_of history = c.new-text.ensures.leaves ∙ sym (last_is history c.version-version.result.now c.version-version.ensures.1) in
    let same : c.deref.result.now ≡ c.args.self.now.expr.value = search rules in
    subst (λ (list : List Extent). IfOk c.read_list_from.result (λ page. page ≡ take c.args.most list))
    (from_later (start_at c.args.readers.now) c.args.from (list_of_part c.args.self.now) c.requires.is.standing.1)
    (over_part (λ v low high e. IfOk c.read_list_from.result (λ page. page ≡ take c.args.most (members_from (left_to (within (version_text v) low high) (form_of e) c.args.readers.now) c.args.from)))
    c.new-text.result.leaves.now (last_of history) c.new-text.result.low c.args.self.now.window.low c.new-text.result.high c.args.self.now.window.high
    c.deref.result.now c.args.self.now.expr.value is c.new-text.ensures.low c.new-text.ensures.high same c.read_list_from.ensures.ok)

pub returns-clause-below : goal.returns-clause-below
returns-clause-below g c =
    let history : List VersionContent = c.args.self.now.pass.history in
    let is : c.version-version.result.now ≡ last_of history = sym (last_is history c.version-version.result.now c.version-version.ensures.1) in
    let in_range : (last_of history).next ≤ address_end = subst (λ (v : VersionContent). v.next ≤ address_end) is c.next-end.ensures.version.in_range in
    IfOk-weaker c.read_list_from.result (λ page. page ≡ take c.args.most (members_from (list_of_part c.args.self.now) c.args.from)) (AllByRecursion (λ (a : Extent). a.start < address_end))
    (λ page ok. page_below (version_text (last_of history)) c.args.self.now.window.low c.args.self.now.window.high (form_of c.args.self.now.expr.value) c.args.from c.args.most page in_range ok)
    (returns-clause-ok g c)

pub returns-clause-stands : goal.returns-clause-stands
returns-clause-stands g c =
    let history : List VersionContent = c.args.self.now.pass.history in
    let is : c.new-text.result.leaves.now ≡ last_of history = c.new-text.ensures.leaves ∙ sym (last_is history c.version-version.result.now c.version-version.ensures.1) in
    let same : c.deref.result.now ≡ c.args.self.now.expr.value = search rules in
    over_part (λ v low high e. Stands (within (version_text v) low high) (form_of e) c.read_list_from.new.readers)
    c.new-text.result.leaves.now (last_of history) c.new-text.result.low c.args.self.now.window.low c.new-text.result.high c.args.self.now.window.high
    c.deref.result.now c.args.self.now.expr.value is c.new-text.ensures.low c.new-text.ensures.high same c.read_list_from.ensures.stands

pub returns-clause-cost : goal.returns-clause-cost
returns-clause-cost g c =
    let history : List VersionContent = c.args.self.now.pass.history in
    let is : c.new-text.result.leaves.now ≡ last_of history = c.new-text.ensures.leaves ∙ sym (last_is history c.version-version.result.now c.version-version.ensures.1) in
    let same : c.deref.result.now ≡ c.args.self.now.expr.value = search rules in
    over_part (λ v low high e. c.read_list_from.new.steps + cost_left (within (version_text v) low high) (access_most v) (form_of e) c.read_list_from.new.readers
    ≤ c.args.steps.now + cost_left (within (version_text v) low high) (access_most v) (form_of e) c.args.readers.now)
    c.new-text.result.leaves.now (last_of history) c.new-text.result.low c.args.self.now.window.low c.new-text.result.high c.args.self.now.window.high
    c.deref.result.now c.args.self.now.expr.value is c.new-text.ensures.low c.new-text.ensures.high same c.read_list_from.ensures.cost
