use Rattle.std.proofs.Common.{◌≡◌, ℕ, ◌+◌, ◌≤◌, min, List, ◌++◌, length, take, take_while, inl, inr, sym, ap, ◌∙◌, subst, arith}
use Rattle.std.proofs.lemmas.List.{drop_all, length-take, take-append-drop}
use Rattle.gcl_model.specs.Extents.{Extent}
use Rattle.gcl_model.proofs.Cases.{on_err}
use Rattle.near_search.specs.Contents.{starts_by}
use Rattle.change_search.specs.inner.Sides.{accesses_left, found_and_left, to_come}
use Rattle.change_search.proofs.CostLemmas.{next_accesses, nothing_paid, page_paid, refusal_paid}
use Rattle.change_search.proofs.side.Side.fill.Goals as goal

-- a page is no longer than was asked for
few_taken : (most : ℕ) (list : List Extent) → length (take most list) ≤ most
few_taken most list = let same : length (take most list) ≡ min most (length list) = length-take most list in omega (arith, same)

pub returns-in_err-self-clause-err : goal.returns-in_err-self-clause-err
returns-in_err-self-clause-err g c =
    let list : List Extent = c.args.self.now.rest.to_come in
    let next : ℕ = c.next_size-size.result in
    let count : ℕ = length (to_come c.args.self.now) in
    on_err _ c.from_residual.result (elim c.requires.full [
      | inl end ↦ let same = (c.page.ensures.ended end).1 in omega (arith, same)
      | inr full ↦
          let over : c.args.self.now.size ≤ c.args.self.now.at = omega (arith, full, c.if-self-len.false, c.len.ensures) in
          refusal_paid c.args.self.now.rest.way c.args.steps.now c.page.new.steps (length (take next list)) next (accesses_left count 0 next) (accesses_left count c.args.self.now.at c.args.self.now.size)
          c.in_err-self.ensures.stopped (few_taken next list) (next_accesses count c.args.self.now.at c.args.self.now.size next c.requires.size c.next_size-size.ensures.first c.next_size-size.ensures.later over c.next_size-size.ensures.some)
    ])

pub returns-clause-cost : goal.returns-clause-cost
returns-clause-cost g c =
    let list : List Extent = c.args.self.now.rest.to_come in
    let next : ℕ = c.next_size-size.result in
    let left : List Extent = c.in_ok-self.field-0 ++ c.page.new.self.to_come in
    let used : length c.args.self.now.page ≤ c.args.self.now.at = omega (arith, c.if-self-len.false, c.len.ensures) in
    let same : left ≡ found_and_left c.args.self.now =
    ap (λ (p : List Extent). p ++ c.page.new.self.to_come) c.in_ok-self.ensures.ok
    ∙ ap (λ (r : List Extent). take next list ++ r) c.in_ok-self.ensures.rest
    ∙ take-append-drop next list
    ∙ sym (ap (λ (p : List Extent). p ++ list) (drop_all c.args.self.now.at c.args.self.now.page used)) in
    let count : ℕ = length (take_while (starts_by c.args.self.now.high) left) in
    let as_many : length (to_come c.args.self.now) ≡ count = sym (ap (λ (l : List Extent). length (take_while (starts_by c.args.self.now.high) l)) same) in
    elim c.requires.full [
      | inl end ↦
          let ends = c.page.ensures.ended end in
          let none = nothing_paid c.page.new.self.way c.args.steps.now c.page.new.steps (accesses_left count 0 next) ends.0 ends.1 in
          omega (arith, none)
      | inr full ↦
          let over : c.args.self.now.size ≤ c.args.self.now.at = omega (arith, full, used) in
          let enough : next + 1 + accesses_left count 0 next ≤ accesses_left (length (to_come c.args.self.now)) c.args.self.now.at c.args.self.now.size =
          subst (λ (n : ℕ). next + 1 + accesses_left n 0 next ≤ accesses_left (length (to_come c.args.self.now)) c.args.self.now.at c.args.self.now.size) as_many
          (next_accesses (length (to_come c.args.self.now)) c.args.self.now.at c.args.self.now.size next c.requires.size c.next_size-size.ensures.first c.next_size-size.ensures.later over c.next_size-size.ensures.some) in
          page_paid c.args.self.now.rest.way c.page.new.self.way c.args.steps.now c.page.new.steps (length (take next list)) next (accesses_left count 0 next)
          (accesses_left (length (to_come c.args.self.now)) c.args.self.now.at c.args.self.now.size) c.in_ok-self.ensures.way c.in_ok-self.ensures.cost (few_taken next list) enough
    ]
