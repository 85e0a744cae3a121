use Rattle.std.proofs.Common.{List, ℕ, ◌-◌, leb, sym, subst, ap, ◌∙◌, arith}
use Rattle.gcl_model.specs.Access.{find_last}
use Rattle.posting_code.specs.Postings.{ArePostings}
use Rattle.prefix_places.specs.Places.{PrefixContent}
use Rattle.prefix_places.proofs.Borders.{IsBorderAbove, greatest_before_border, none_at_border}
use Rattle.prefix_places.proofs.prefix_places.PrefixPlaces.prev.Goals as goal

pub returns-then-at-eq0 : goal.returns-then-at-eq0
returns-then-at-eq0 c =
    let xs = c.as_slice-places.result.now in
    let is = c.as_slice-places.ensures.value in
    let at = c.border_near-at.ensures in
    let border : IsBorderAbove xs c.args.k c.saturating_add.result c.border_near-at.result =
    record { rising = subst ArePostings (sym is) c.self.invariant; above_is = c.saturating_add.ensures; within = at.within; before = at.before; after = at.after } in
    none_at_border xs c.args.k c.saturating_add.result c.border_near-at.result border c.if-at-eq0.true
    ∙ ap (λ (l : List ℕ). find_last (λ p. leb p c.args.k) l) (is ∙ ap (λ (v : PrefixContent). v.places) c.self.view_is)

pub returns : goal.returns
returns c =
    let xs = c.as_slice-places.result.now in
    let is = c.as_slice-places.ensures.value in
    let at = c.border_near-at.ensures in
    let border : IsBorderAbove xs c.args.k c.saturating_add.result c.border_near-at.result =
    record { rising = subst ArePostings (sym is) c.self.invariant; above_is = c.saturating_add.ensures; within = at.within; before = at.before; after = at.after } in
    c.member_at.ensures
    ∙ greatest_before_border xs c.args.k c.saturating_add.result c.border_near-at.result (c.border_near-at.result - 1) border (omega (arith, c.if-at-eq0.false))
    ∙ ap (λ (l : List ℕ). find_last (λ p. leb p c.args.k) l) (is ∙ ap (λ (v : PrefixContent). v.places) c.self.view_is)
