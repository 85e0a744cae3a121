use Rattle.std.proofs.Common.{List, ℕ, leb, find, sym, subst, ap, ◌∙◌}
use Rattle.posting_code.specs.Postings.{ArePostings}
use Rattle.prefix_places.specs.Places.{PrefixContent}
use Rattle.prefix_places.proofs.Borders.{least_at_border}
use Rattle.prefix_places.proofs.prefix_places.PrefixPlaces.next.Goals as goal

pub returns : goal.returns
returns c =
    let xs = c.as_slice-places.result.now in
    let is = c.as_slice-places.ensures.value in
    let at = c.border_near-at.ensures in
    c.member_at.ensures
    ∙ least_at_border c.args.k xs c.border_near-at.result (subst ArePostings (sym is) c.self.invariant) at.within at.before at.after
    ∙ ap (λ (l : List ℕ). find (λ p. leb c.args.k p) l) (is ∙ ap (λ (v : PrefixContent). v.places) c.self.view_is)
