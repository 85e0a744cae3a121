use Rattle.std.proofs.Common.{◌≡◌, ℕ, true, sym, subst}
use Rattle.live_version.specs.Contents.{is_of_files}
use Rattle.image_read.specs.Reading.{SeenContent, is_seen}
use Rattle.image_read.proofs.PlaceLemmas.{full_at, full_from}
use Rattle.image_read.proofs.places.Places.is_full.Goals as goal

pub returns : goal.returns
returns c =
    let files = c.self.inside.files.now in
    let seen = c.self.inside.seen in
    let marks = c.self.invariant.marks in (
      (λ yes. subst (λ (s : SeenContent). (p : ℕ) → is_of_files s.files p ≡ true → is_seen s p ≡ true) c.self.view_is (full_at files seen marks (c.all_marked.ensures.0 yes))),
      (λ full.
          let here = subst (λ (s : SeenContent). (p : ℕ) → is_of_files s.files p ≡ true → is_seen s p ≡ true) (sym c.self.view_is) full in
          c.all_marked.ensures.1 (full_from files seen c.self.invariant.run marks here)),
    )
