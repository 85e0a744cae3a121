use Rattle.std.proofs.Common.{true, Bool, List, set, sym, subst, ◌∙◌}
use Rattle.image_read.specs.Reading.{IsRankOf, SeenContent, Sees}
use Rattle.image_read.proofs.PlaceLemmas.{sees_marked}
use Rattle.image_read.proofs.places.Places.see.Goals as goal

pub returns-clause-sees : goal.returns-clause-sees
returns-clause-sees c seen =
    let files = c.self.inside.files.now in
    let marks = c.self.inside.seen in
    let old = c.self.view_is ∙ c.in-Some.ensures.same in
    let is : IsRankOf files marks c.args.address c.args.role c.in-Some.at =
    subst (λ (s : SeenContent). IsRankOf s.files s.seen c.args.address c.args.role c.in-Some.at) (sym old) c.in-Some.ensures.some in
    subst (λ (l : List Bool). Sees c.args.self.now (record { files = files; seen = l }) c.args.address) (sym c.mark.ensures)
    (subst (λ (s : SeenContent). Sees s (record { files = files; seen = set marks c.in-Some.at true }) c.args.address) old (sees_marked files marks c.args.address c.in-Some.at c.args.role is))
