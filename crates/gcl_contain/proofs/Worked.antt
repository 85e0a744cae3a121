-- Worked turns, computed.
use Rattle.std.proofs.Common.{◌≡◌, Bool, true, false, Some, None, refl, List, [], ◌∷◌, map}
use Rattle.gcl_model.specs.Extents.{Extent, extent}
use Rattle.gcl_contain.specs.Moves.{accept, go_to, finish, containing_move, contained_in_move, not_containing_move, not_contained_in_move, containing_move_back, contained_in_move_back, not_containing_move_back, not_contained_in_move_back}
use Rattle.gcl_contain.specs.Kinds.{Kind, containing, contained_in, not_containing, not_contained_in, containing_back, contained_in_back, not_containing_back, not_contained_in_back, first_from, last_upto}

-- the places of "to" and "be" in `<file!> to be or not to be </file!>`
abbrev be : List Extent
be = extent 2 2 ∷ extent 6 6 ∷ []

-- (0, 1) holds no "be": the next one ends at 2
goes_on_to_the_end : containing.move (extent 0 1) (containing.ask be (extent 0 1)) ≡ go_to 2
goes_on_to_the_end = refl

accepts_a_member_that_contains_one : containing.move (extent 1 2) (containing.ask be (extent 1 2)) ≡ accept
accepts_a_member_that_contains_one = refl

finishes_after_the_last : containing.move (extent 7 7) (containing.ask be (extent 7 7)) ≡ finish
finishes_after_the_last = refl

-- (1, 1) lies in no (2, 5): the loop goes on at its start
goes_on_to_the_start : contained_in.move (extent 1 1) (contained_in.ask (extent 2 5 ∷ []) (extent 1 1)) ≡ go_to 2
goes_on_to_the_start = refl

-- nothing lies before address 0
finishes_at_the_first_address : not_containing_back.move (extent 0 0) (not_containing_back.ask (extent 0 0 ∷ []) (extent 0 0)) ≡ finish
finishes_at_the_first_address = refl

-- each move goes on, and accepts
containing-moves : map (λ a. containing_move a (Some (extent 2 4))) (extent 1 2 ∷ extent 1 5 ∷ []) ≡ go_to 4 ∷ accept ∷ []
containing-moves = refl

contained_in-moves : map (λ a. contained_in_move a (Some (extent 3 5))) (extent 1 2 ∷ extent 3 4 ∷ []) ≡ go_to 3 ∷ accept ∷ []
contained_in-moves = refl

not_containing-moves : map (λ a. not_containing_move a (Some (extent 2 3))) (extent 1 4 ∷ extent 1 2 ∷ []) ≡ go_to 3 ∷ accept ∷ []
not_containing-moves = refl

not_contained_in-moves : map (λ a. not_contained_in_move a (Some (extent 1 4))) (extent 2 3 ∷ extent 0 3 ∷ []) ≡ go_to 5 ∷ accept ∷ []
not_contained_in-moves = refl

containing_back-moves : map (λ a. containing_move_back a (Some (extent 2 4))) (extent 4 5 ∷ extent 1 5 ∷ []) ≡ go_to 2 ∷ accept ∷ []
containing_back-moves = refl

contained_in_back-moves : map (λ a. contained_in_move_back a (Some (extent 1 3))) (extent 4 5 ∷ extent 2 3 ∷ []) ≡ go_to 3 ∷ accept ∷ []
contained_in_back-moves = refl

not_containing_back-moves : map (λ a. not_containing_move_back a (Some (extent 2 3))) (extent 1 4 ∷ extent 3 4 ∷ []) ≡ go_to 2 ∷ accept ∷ []
not_containing_back-moves = refl

not_contained_in_back-moves : map (λ a. not_contained_in_move_back a (Some (extent 1 4))) (extent 2 3 ∷ extent 2 5 ∷ []) ≡ go_to 0 ∷ accept ∷ []
not_contained_in_back-moves = refl

-- if there is no answer, the two that keep what has none accept
without_an_answer : map (λ (kind : Kind). kind.move (extent 2 3) None) (containing ∷ contained_in ∷ not_containing ∷ not_contained_in ∷ []) ≡ finish ∷ finish ∷ accept ∷ accept ∷ []
without_an_answer = refl

without_an_answer_back : map (λ (kind : Kind). kind.move (extent 2 3) None) (containing_back ∷ contained_in_back ∷ not_containing_back ∷ not_contained_in_back ∷ []) ≡ finish ∷ finish ∷ accept ∷ accept ∷ []
without_an_answer_back = refl

finishes_before_the_outer_one : not_contained_in_move_back (extent 2 3) (Some (extent 0 4)) ≡ finish
finishes_before_the_outer_one = refl

-- which of (1, 2), (2, 5) and (5, 8) a loop keeps
abbrev kept : Kind → List Extent → List Bool
kept kind others = map (kind.keeps others) (extent 1 2 ∷ extent 2 5 ∷ extent 5 8 ∷ [])

containing-keeps : kept containing (extent 4 4 ∷ []) ≡ false ∷ true ∷ false ∷ []
containing-keeps = refl

contained_in-keeps : kept contained_in (extent 1 6 ∷ []) ≡ true ∷ true ∷ false ∷ []
contained_in-keeps = refl

not_containing-keeps : kept not_containing (extent 4 4 ∷ []) ≡ true ∷ false ∷ true ∷ []
not_containing-keeps = refl

not_contained_in-keeps : kept not_contained_in (extent 1 6 ∷ []) ≡ false ∷ false ∷ true ∷ []
not_contained_in-keeps = refl

-- of the same three, "containing" goes by the ends forward, and by the starts backward
containing-first_from_4 : first_from containing (extent 1 2 ∷ extent 2 5 ∷ extent 5 8 ∷ []) 4 ≡ Some (extent 2 5)
containing-first_from_4 = refl

containing-last_upto_4 : last_upto containing_back (extent 1 2 ∷ extent 2 5 ∷ extent 5 8 ∷ []) 4 ≡ Some (extent 2 5)
containing-last_upto_4 = refl
