use Rattle.std.proofs.Common.{◌≡◌, ℕ, zero, suc, ◌==◌, List, [], ◌∷◌, Option, Some, None, get_or, ◌∙◌, ap, arith, IsTrue}
use Rattle.std.specs.List.{slice_get}
use Rattle.std.proofs.lemmas.Bool.Decides.{nat_tests}
use Rattle.term_fingers.proofs.term.Term.has_place.Goals as goal

-- what is found is within the list, since the default is None
found_at : (xs : List (Option ℕ)) (i found : ℕ) → get_or xs i None ≡ Some found → slice_get xs i ≡ Some (Some found)
found_at [] i found e = absurd (cc e)
found_at (x ∷ xs) zero found e = ap Some e
found_at (x ∷ xs) (suc i) found e = found_at xs i found e

same_place : (found place : ℕ) → IsTrue (found == place) → found ≡ place
same_place found place same = grind (arith, nat_tests)

pub returns-in-Some : goal.returns-in-Some
returns-in-Some g c = λ same.
    found_at c.args.self.now.places c.args.number c.in-Some.found c.in-Some.is ∙ ap (λ n. Some (Some n)) (same_place c.in-Some.found c.args.place same)
