use Rattle.std.proofs.Common.{◌≡◌, ◌∙◌, ℕ, ◌+◌, List, Option, Some, None, length, zero-add, sym, ap, subst}
use Rattle.std.specs.Prelude.{IfSome}
use Rattle.gcl_model.specs.Extents.{Extent}
use Rattle.query_search.specs.inner.Queries.{QueryLeft}
use Rattle.query_search.proofs.search.Search.go_over.Goals as goal

pub invariant_of-self-in-Ok : goal.invariant_of-self-in-Ok
invariant_of-self-in-Ok c =
    let list : List Extent = c.in-Some.merging in
    let left : QueryLeft = c.in-Ok.pages in
    let come : left.to_come ≡ list = c.in-Ok.ensures.to_come in
    let all : left.all ≡ list = c.in-Ok.ensures.all in
    let value = c.in-Some.ensures.value in
    let there : c.self.inside.merging ≡ Some list = cc in
    let known : (list ≡ c.self.inside.pages.to_come) × (c.self.inside.given ≡ 0) =
    subst (λ (o : Option (List Extent)). IfSome o (λ l. (l ≡ c.self.inside.pages.to_come) × (c.self.inside.given ≡ 0))) there c.self.invariant.same in
    let after = c.take.ensures.after in
    let none : None ≡ c.take.new.self = cc in
    record {
      counted = ap (λ (n : ℕ). n + length left.to_come) known.1 ∙ zero-add _ ∙ ap length (come ∙ sym all);
      few = c.in-Ok.ensures.few;
      same = subst (λ (o : Option (List Extent)). IfSome o (λ l. (l ≡ left.to_come) × (c.self.inside.given ≡ 0))) none tt;
    }

pub returns-in-Ok : goal.returns-in-Ok
returns-in-Ok c =
    let list : List Extent = c.in-Some.merging in
    let value = c.in-Some.ensures.value in
    let there : c.self.inside.merging ≡ Some list = cc in
    let known : (list ≡ c.self.inside.pages.to_come) × (c.self.inside.given ≡ 0) =
    subst (λ (o : Option (List Extent)). IfSome o (λ l. (l ≡ c.self.inside.pages.to_come) × (c.self.inside.given ≡ 0))) there c.self.invariant.same in
    c.in-Ok.ensures.to_come ∙ known.0 ∙ c.self.view_is
