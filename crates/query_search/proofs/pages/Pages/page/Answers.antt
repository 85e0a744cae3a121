use Rattle.std.proofs.Common.{◌≡◌, ◌<◌, ◌≤◌, ℕ, List, [], Option, None, min, length, take, drop, inl, inr, rules, sym, ap, ◌∙◌, subst, arith}
use Rattle.std.proofs.lemmas.Bool.{cases_lt}
use Rattle.std.proofs.lemmas.List.{take_all, drop_all, length-take}
use Rattle.gcl_model.specs.Extents.{Extent}
use Rattle.gcl_model.specs.Forms.{Form}
use Rattle.gcl_model.specs.FormOf.{form_of}
use Rattle.gcl_model.specs.Texts.{Text}
use Rattle.gcl_model.specs.declared.expr.Expr.{Expr}
use Rattle.gcl_eval.specs.Members.{members_from}
use Rattle.gcl_readers.specs.Reading.{behind_page}
use Rattle.gcl_readers.specs.declared.front.Place.{Place}
use Rattle.live_version.specs.Contents.{VersionContent, version_text}
use Rattle.reader_pass.specs.Members.{first_members_from}
use Rattle.collection.specs.Engines.{last_of}
use Rattle.query_search.specs.Pages.{PagesContent}
use Rattle.query_search.specs.inner.Searches.{GoesOnAt, ReadFrom, members_over}
use Rattle.query_search.proofs.SearchLemmas.{IsStartAfter, after_page, none_at_end, page_before, start_behind}
use Rattle.query_search.proofs.pages.Pages.page.Goals as goal

-- at the end nothing is left
empty : (history : List VersionContent) (form : Form) (from end : ℕ) → GoesOnAt history form from end → from ≡ end → members_from (members_over history form) from ≡ []
empty history form from end is at = none_at_end (version_text (last_of history)) form from (at ∙ is.text_end)

-- what is true of the members after the page
goes_on : (history : List VersionContent) (form : Form) (from end next : ℕ) → GoesOnAt history form from end → next ≤ end → GoesOnAt history form next end
goes_on history form from end next is within = record {
  last = is.last;
  well_formed = is.well_formed;
  text_end = is.text_end;
  in_range = is.in_range;
  within = within;
}

-- a page is no longer than was asked for
is_page : (most : ℕ) (list page : List Extent) → page ≡ take most list → length page ≤ most
is_page most list page is = let same : length page ≡ min most (length list) = ap length is ∙ length-take most list in omega arith

-- and of its readers
reads_on : (history : List VersionContent) (form : Form) (from most end next : ℕ) (page : List Extent) (readers : Option (List Place)) → length page ≤ most → 0 < most → IsStartAfter page most end next
    → (length page ≡ most → ReadFrom history form (behind_page from page) readers) → (length page < most → readers ≡ None) → ReadFrom history form next readers
reads_on history form from most end next page readers le some after full short =
    elim (cases_lt (length page) most) [
      | inl less ↦ subst (ReadFrom history form next) (sym (short less)) tt
      | inr enough ↦ subst (λ (n : ℕ). ReadFrom history form n readers) (sym (start_behind page from most end next after some enough)) (full (omega arith))
    ]

pub returns-then-self-clause-ok : goal.returns-then-self-clause-ok
returns-then-self-clause-ok g c =
    let none : c.args.self.now.to_come ≡ [] = ap (λ (p : PagesContent). p.to_come) (sym c.self.view_is) ∙ empty c.self.inside.pass.history (form_of c.self.inside.expr.value) c.self.inside.from c.self.inside.end c.self.invariant.0 c.if-self.true in
    let taken : take c.args.most c.args.self.now.to_come ≡ [] = ap (λ (l : List Extent). take c.args.most l) none ∙ take_all c.args.most [] (omega arith) in
    cc

pub returns-then-self-clause-rest : goal.returns-then-self-clause-rest
returns-then-self-clause-rest g c =
    let none : c.args.self.now.to_come ≡ [] = ap (λ (p : PagesContent). p.to_come) (sym c.self.view_is) ∙ empty c.self.inside.pass.history (form_of c.self.inside.expr.value) c.self.inside.from c.self.inside.end c.self.invariant.0 c.if-self.true in
    let left : drop c.args.most c.args.self.now.to_come ≡ [] = ap (λ (l : List Extent). drop c.args.most l) none ∙ drop_all c.args.most [] (omega arith) in
    cc

pub start_after-self-inside-requires-clause-below : goal.start_after-self-inside-requires-clause-below
start_after-self-inside-requires-clause-below g c =
    let same : c.deref.result.now ≡ c.self.inside.expr.value = search rules in
    let text : Text = version_text (last_of c.self.inside.pass.history) in
    page_before text (form_of c.self.inside.expr.value) c.self.inside.from c.args.most c.self.inside.end c.in_ok-page.page c.self.invariant.0.text_end
    (c.in_ok-page.ensures.ok ∙ ap (λ (e : Expr). first_members_from text (form_of e) c.self.inside.from c.args.most) same)

pub invariant_of-self-2 : goal.invariant_of-self-2
invariant_of-self-2 g c =
    let same : c.deref.result.now ≡ c.self.inside.expr.value = search rules in
    let text : Text = version_text (last_of c.self.inside.pass.history) in
    let form : Form = form_of c.self.inside.expr.value in
    let is : c.in_ok-page.page ≡ take c.args.most (members_from (members_over c.self.inside.pass.history form) c.self.inside.from) =
    c.in_ok-page.ensures.ok ∙ ap (λ (e : Expr). first_members_from text (form_of e) c.self.inside.from c.args.most) same in
    let some : 0 < c.args.most = omega arith in
    let after : IsStartAfter c.in_ok-page.page c.args.most c.self.inside.end c.start_after-self-inside.result =
    record { full = c.start_after-self-inside.ensures.full; short = c.start_after-self-inside.ensures.short } in (
      goes_on c.self.inside.pass.history form c.self.inside.from c.self.inside.end c.start_after-self-inside.result c.self.invariant.0 c.start_after-self-inside.ensures.within,
      reads_on c.self.inside.pass.history form c.self.inside.from c.args.most c.self.inside.end c.start_after-self-inside.result c.in_ok-page.page c.page_from.new.readers
          (is_page c.args.most (members_from (members_over c.self.inside.pass.history form) c.self.inside.from) c.in_ok-page.page is) some after
          (λ full. subst (λ (e : Expr). ReadFrom c.self.inside.pass.history (form_of e) (behind_page c.self.inside.from c.in_ok-page.page) c.page_from.new.readers) same (c.in_ok-page.ensures.full full))
          c.in_ok-page.ensures.short,
    )

pub returns-clause-rest : goal.returns-clause-rest
returns-clause-rest g c =
    let same : c.deref.result.now ≡ c.self.inside.expr.value = search rules in
    let text : Text = version_text (last_of c.self.inside.pass.history) in
    let form : Form = form_of c.self.inside.expr.value in
    let is : c.in_ok-page.page ≡ take c.args.most (members_from (members_over c.self.inside.pass.history form) c.self.inside.from) =
    c.in_ok-page.ensures.ok ∙ ap (λ (e : Expr). first_members_from text (form_of e) c.self.inside.from c.args.most) same in
    after_page text form c.self.inside.from c.args.most c.self.inside.end c.start_after-self-inside.result c.in_ok-page.page c.self.invariant.0.text_end (omega arith) is
    (record { full = c.start_after-self-inside.ensures.full; short = c.start_after-self-inside.ensures.short })
    ∙ ap (λ (p : PagesContent). drop c.args.most p.to_come) c.self.view_is
