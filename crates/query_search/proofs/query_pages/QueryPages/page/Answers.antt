use Rattle.std.proofs.Common.{◌≡◌, ◌<◌, ◌≤◌, ℕ, List, [], min, length, take, drop, inl, inr, sym, ap, ◌∙◌, subst, arith}
use Rattle.std.proofs.lemmas.Bool.{cases_lt}
use Rattle.std.proofs.lemmas.List.{take_all, drop_all, length-take}
use Rattle.gcl_model.specs.Extents.{Extent}
use Rattle.gcl_model.specs.FormOf.{form_of}
use Rattle.gcl_eval.specs.Members.{members_from}
use Rattle.gcl_readers.specs.Reading.{behind_page}
use Rattle.gcl_cursor.specs.Cursors.{IsAt}
use Rattle.gcl_cursor.specs.declared.cursor.Cursor.{Cursor}
use Rattle.query_search.specs.inner.Queries.{GoesOnOver, QueryContent, QueryLeft, list_of}
use Rattle.query_search.proofs.SearchLemmas.{IsStartAfter, after_page, none_at_end, page_before, start_behind}
use Rattle.query_search.proofs.query_pages.QueryPages.page.Goals as goal

-- at the end nothing is left
empty : (query : QueryContent) (from end : ℕ) (cursor : Cursor) → GoesOnOver query from end cursor → from ≡ end → members_from (list_of query) from ≡ []
empty query from end cursor is at = none_at_end query.text (form_of query.expr) from (at ∙ is.text_end)

-- a page is no longer than was asked for
is_page : (most : ℕ) (list page : List Extent) → page ≡ take most list → length page ≤ most
is_page most list page is = let same : length page ≡ min most (length list) = ap length is ∙ length-take most list in omega arith

-- the cursor has passed no member that comes after the page
goes_on : (query : QueryContent) (from most end next : ℕ) (page : List Extent) (cursor : Cursor) → length page ≤ most → 0 < most → IsStartAfter page most end next
    → (length page ≡ most → IsAt query.text (form_of query.expr) (behind_page from page) cursor) → (length page < most → (k : ℕ) → IsAt query.text (form_of query.expr) k cursor)
    → IsAt query.text (form_of query.expr) next cursor
goes_on query from most end next page cursor le some after full short =
    elim (cases_lt (length page) most) [
      | inl less ↦ short less next
      | inr enough ↦ subst (λ (n : ℕ). IsAt query.text (form_of query.expr) n cursor) (sym (start_behind page from most end next after some enough)) (full (omega arith))
    ]

pub returns-then-self-clause-ok : goal.returns-then-self-clause-ok
returns-then-self-clause-ok g c =
    let none : c.args.self.now.to_come ≡ [] = ap (λ (p : QueryLeft). p.to_come) (sym c.self.view_is) ∙ empty c.self.inside.query c.self.inside.from c.self.inside.end c.self.inside.cursor c.self.invariant c.if-self.true in
    let taken : take c.args.most c.args.self.now.to_come ≡ [] = ap (λ (l : List Extent). take c.args.most l) none ∙ take_all c.args.most [] (omega arith) in
    cc

pub returns-then-self-clause-rest : goal.returns-then-self-clause-rest
returns-then-self-clause-rest g c =
    let none : c.args.self.now.to_come ≡ [] = ap (λ (p : QueryLeft). p.to_come) (sym c.self.view_is) ∙ empty c.self.inside.query c.self.inside.from c.self.inside.end c.self.inside.cursor c.self.invariant c.if-self.true in
    let left : drop c.args.most c.args.self.now.to_come ≡ [] = ap (λ (l : List Extent). drop c.args.most l) none ∙ drop_all c.args.most [] (omega arith) in
    cc

pub start_after-self-inside-requires-clause-below : goal.start_after-self-inside-requires-clause-below
start_after-self-inside-requires-clause-below g c =
    page_before c.self.inside.query.text (form_of c.self.inside.query.expr) c.self.inside.from c.args.most c.self.inside.end c.in_ok-members.members c.self.invariant.text_end c.in_ok-members.ensures.ok

pub invariant_of-self-2 : goal.invariant_of-self-2
invariant_of-self-2 g c =
    let some : 0 < c.args.most = omega arith in
    let after : IsStartAfter c.in_ok-members.members c.args.most c.self.inside.end c.start_after-self-inside.result =
    record { full = c.start_after-self-inside.ensures.full; short = c.start_after-self-inside.ensures.short } in
    record {
      text_end = c.self.invariant.text_end;
      in_range = c.self.invariant.in_range;
      within = c.start_after-self-inside.ensures.within;
      at = goes_on c.self.inside.query c.self.inside.from c.args.most c.self.inside.end c.start_after-self-inside.result c.in_ok-members.members c.page.new.cursor
          (is_page c.args.most (members_from (list_of c.self.inside.query) c.self.inside.from) c.in_ok-members.members c.in_ok-members.ensures.ok) some after
          c.in_ok-members.ensures.full c.in_ok-members.ensures.short;
    }

pub returns-clause-rest : goal.returns-clause-rest
returns-clause-rest g c =
    after_page c.self.inside.query.text (form_of c.self.inside.query.expr) c.self.inside.from c.args.most c.self.inside.end c.start_after-self-inside.result c.in_ok-members.members c.self.invariant.text_end (omega arith) c.in_ok-members.ensures.ok
    (record { full = c.start_after-self-inside.ensures.full; short = c.start_after-self-inside.ensures.short })
    ∙ ap (λ (p : QueryLeft). drop c.args.most p.to_come) c.self.view_is
