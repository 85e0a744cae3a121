use Rattle.std.proofs.Common.{◌≡◌, ℕ, ◌<◌, true, ltb, List, length, get_or, Option, Some, refl, sym, ◌∙◌, ap, arith}
use Rattle.std.specs.List.{slice_get}
use Rattle.std.proofs.lemmas.Bool.Decides.{nat_tests}
use Rattle.std.proofs.lemmas.Option.{IfSome_then, slice_get_read}
use Rattle.term_fingers.proofs.term.Term.list.Goals as goal

read_there : (xs : List (Option ℕ)) (i : ℕ) (x : Option ℕ) → true ≡ ltb i (length xs) → x ≡ get_or xs i x → slice_get xs i ≡ Some x
read_there xs i x within is =
    let less : i < length xs = grind (arith, nat_tests) in
    slice_get_read xs (length xs) i x refl less is

pub returns-clause-slot : goal.returns-clause-slot
returns-clause-slot g c = c.list.ensures.slot

pub returns-clause-place : goal.returns-clause-place
returns-clause-place g c =
    let found = c.in_ok-get.ensures.lookup in
    let there = read_there c.args.self.now.places c.args.slot c.in_ok-get.field-0.now found.0 found.1 in
    IfSome_then c.list.result c.list.ensures.place (λ list is. there ∙ ap Some (c.in_ok-place.was ∙ ap Some (sym is)))
