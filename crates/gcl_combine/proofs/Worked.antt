-- What "both of" and "one of" take of their operands' answers, computed.
use Rattle.std.specs.Prelude.{◌≡◌, List, [], ◌∷◌, Some, None}
use Rattle.std.proofs.Common.{refl}
use Rattle.gcl_model.specs.Extents.{Extent, extent}
use Rattle.gcl_model.specs.Rules.{first_by, last_by}
use Rattle.gcl_combine.specs.Better.{nearer, nearer_back, best_forward, best_backward}
use Rattle.gcl_combine.specs.Farthest.{greatest_end, least_start, end_so_far, start_so_far}

-- forward the least end, and on a tie the greater start
nearer-least_end : nearer (Some (extent 1 4)) (Some (extent 2 3)) ≡ Some (extent 2 3)
nearer-least_end = refl

nearer-tie : nearer (Some (extent 1 4)) (Some (extent 2 4)) ≡ Some (extent 2 4)
nearer-tie = refl

-- backward the greatest start, and on a tie the lesser end
nearer_back-greatest_start : nearer_back (Some (extent 1 4)) (Some (extent 2 6)) ≡ Some (extent 2 6)
nearer_back-greatest_start = refl

nearer_back-tie : nearer_back (Some (extent 1 6)) (Some (extent 1 4)) ≡ Some (extent 1 4)
nearer_back-tie = refl

-- of three lists, one of which has no member at or after 2
best_forward-three : best_forward ((extent 0 0 ∷ []) ∷ (extent 2 5 ∷ []) ∷ (extent 1 1 ∷ extent 3 4 ∷ []) ∷ []) 2 None ≡ Some (extent 3 4)
best_forward-three = refl

best_backward-three : best_backward ((extent 9 9 ∷ []) ∷ (extent 2 5 ∷ []) ∷ (extent 1 1 ∷ extent 3 4 ∷ []) ∷ []) 5 None ≡ Some (extent 3 4)
best_backward-three = refl

-- two lists whose first members at or after 2 are (2, 5) and (3, 4), and whose last up to 5 are the same
abbrev two : List (List Extent)
two = (extent 2 5 ∷ []) ∷ (extent 1 1 ∷ extent 3 4 ∷ []) ∷ []

greatest_end-two : greatest_end two 2 ≡ Some 5
greatest_end-two = refl

-- the first list has no member at or after 3
greatest_end-none : greatest_end two 3 ≡ None
greatest_end-none = refl

least_start-two : least_start two 5 ≡ Some 2
least_start-two = refl

-- and none up to 4
least_start-none : least_start two 4 ≡ None
least_start-none = refl

end_so_far-two : end_so_far two 2 7 ≡ Some 7
end_so_far-two = refl

start_so_far-two : start_so_far two 5 1 ≡ Some 1
start_so_far-two = refl

-- the places of "to" and "be" in `to be or not to be` at 1 to 6: both of them at or after 2, and up to 5
abbrev to_and_be : List (List Extent)
to_and_be = (extent 1 1 ∷ extent 5 5 ∷ []) ∷ (extent 2 2 ∷ extent 6 6 ∷ []) ∷ []

both-from_2 : first_by (greatest_end to_and_be) (least_start to_and_be) 2 ≡ Some (extent 2 5)
both-from_2 = refl

both-up_to_5 : last_by (greatest_end to_and_be) (least_start to_and_be) 5 ≡ Some (extent 2 5)
both-up_to_5 = refl
