use Rattle.std.proofs.Common.{◌≡◌, ◌+◌, ◌<◌, List, ◌∷◌, length, drop, Option, Some, IfSome, sym, ap, ◌∙◌, subst}
use Rattle.gcl_model.specs.Extents.{Extent}
use Rattle.standing_query.specs.Changes.{changes}
use Rattle.standing_query.specs.declared.change.Change.TheVariants.{Went, Came}
use Rattle.change_search.specs.inner.Sides.{to_come}
use Rattle.change_search.proofs.StepLemmas.{tells_went, tells_came, skips_both, fewer_left}
use Rattle.change_search.proofs.step.advance.Goals as goal

-- what begins with the member that was found
at_first : (found : Option Extent) (a : Extent) (list : List Extent) → found ≡ Some a → IfSome found (λ m. list ≡ m ∷ drop 1 list) → list ≡ a ∷ drop 1 list
at_first found a list is begins = subst (λ (o : Option Extent). IfSome o (λ m. list ≡ m ∷ drop 1 list)) is begins

pub returns-then-comes_before-clause-ok : goal.returns-then-comes_before-clause-ok
returns-then-comes_before-clause-ok g c =
    let old = to_come c.args.before.now in
    let new = to_come c.args.after.now in
    let a = c.in-Some-Some.a in
    let is : old ≡ a ∷ drop 1 old = at_first c.in_ok-old.old a old c.in-Some-Some.is-0 c.in_ok-old.ensures.some in
    let has : new ≡ c.in-Some-Some.b ∷ drop 1 new = at_first c.in_ok-new.new c.in-Some-Some.b new c.in-Some-Some.is-1 c.in_ok-new.ensures.some in
    tells_went a c.in-Some-Some.b old new c.requires.old.rising c.requires.new.rising is has (sym c.comes_before.ensures ∙ c.if-comes_before.true)
    ∙ sym (ap (λ (l : List Extent). Went a ∷ changes l new) (c.pass-then-comes_before.ensures.members ∙ ap (drop 1) c.in_ok-old.ensures.same))
    ∙ sym (ap (λ (l : List Extent). Went a ∷ changes (to_come c.pass-then-comes_before.new.self) l) c.in_ok-new.ensures.same)

pub returns-then-comes_before-2-clause-ok : goal.returns-then-comes_before-2-clause-ok
returns-then-comes_before-2-clause-ok g c =
    let old = to_come c.args.before.now in
    let new = to_come c.args.after.now in
    let b = c.in-Some-Some.b in
    let is : old ≡ c.in-Some-Some.a ∷ drop 1 old = at_first c.in_ok-old.old c.in-Some-Some.a old c.in-Some-Some.is-0 c.in_ok-old.ensures.some in
    let has : new ≡ b ∷ drop 1 new = at_first c.in_ok-new.new b new c.in-Some-Some.is-1 c.in_ok-new.ensures.some in
    tells_came c.in-Some-Some.a b old new c.requires.old.rising c.requires.new.rising is has (sym c.comes_before-in-Some-Some.ensures ∙ c.if-comes_before-2.true)
    ∙ sym (ap (λ (l : List Extent). Came b ∷ changes l (drop 1 new)) c.in_ok-old.ensures.same)
    ∙ sym (ap (λ (l : List Extent). Came b ∷ changes (to_come c.first.new.self) l) (c.pass-then-comes_before-2.ensures.members ∙ ap (drop 1) c.in_ok-new.ensures.same))

pub returns-else-comes_before-2-clause-ok : goal.returns-else-comes_before-2-clause-ok
returns-else-comes_before-2-clause-ok g c =
    let old = to_come c.args.before.now in
    let new = to_come c.args.after.now in
    let a = c.in-Some-Some.a in
    let b = c.in-Some-Some.b in
    let is : old ≡ a ∷ drop 1 old = at_first c.in_ok-old.old a old c.in-Some-Some.is-0 c.in_ok-old.ensures.some in
    let has : new ≡ b ∷ drop 1 new = at_first c.in_ok-new.new b new c.in-Some-Some.is-1 c.in_ok-new.ensures.some in
    let left : to_come c.pass-in-Some-Some.new.self ≡ drop 1 old = c.pass-in-Some-Some.ensures.members ∙ ap (drop 1) c.in_ok-old.ensures.same in
    let right : to_come c.pass-in-Some-Some-2.new.self ≡ drop 1 new = c.pass-in-Some-Some-2.ensures.members ∙ ap (drop 1) c.in_ok-new.ensures.same in (
      skips_both a b old new c.requires.old.rising c.requires.new.rising is has (sym c.comes_before.ensures ∙ c.if-comes_before.false) (sym c.comes_before-in-Some-Some.ensures ∙ c.if-comes_before-2.false)
          ∙ sym (ap (λ (l : List Extent). changes l (drop 1 new)) left) ∙ sym (ap (λ (l : List Extent). changes (to_come c.pass-in-Some-Some.new.self) l) right),
      subst (λ (l : List Extent). length (to_come c.pass-in-Some-Some.new.self) + length l < length old + length new) (sym right)
          (subst (λ (l : List Extent). length l + length (drop 1 new) < length old + length new) (sym left) (fewer_left a b old new is has)),
    )
