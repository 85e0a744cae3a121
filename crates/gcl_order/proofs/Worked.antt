-- Walks over the places of "to" and of "be" in `to be or not to be` at 1 to 6.
use Rattle.std.specs.Prelude.{◌≡◌, List, [], ◌∷◌, Some, None}
use Rattle.std.proofs.Common.{refl}
use Rattle.gcl_model.specs.Extents.{Extent, extent}
use Rattle.gcl_order.specs.Walks.{joined, address_before, last_before, walk_forward, walk_backward, forward_and_back, back_and_forward, from_last, from_first}

abbrev to : List Extent
to = extent 1 1 ∷ extent 5 5 ∷ []

abbrev be : List Extent
be = extent 2 2 ∷ extent 6 6 ∷ []

joined-two : joined (extent 1 2) (extent 6 7) ≡ extent 1 7
joined-two = refl

before_five : address_before 5 ≡ Some 4
before_five = refl

before_first : address_before 0 ≡ None
before_first = refl

last_be-before_the_second_to : last_before be (extent 5 5) ≡ Some (extent 2 2)
last_be-before_the_second_to = refl

-- forward from the first "be", and back from the last
be_to_be-walk : walk_forward (to ∷ be ∷ []) (extent 2 2) ≡ Some (extent 6 6)
be_to_be-walk = refl

to_be_be-walk_back : walk_backward (to ∷ be ∷ []) (extent 6 6) ≡ Some (extent 1 1)
to_be_be-walk_back = refl

-- "to" followed by "be": (1, 2) at 0, (5, 6) at 2
to_be-from_0 : forward_and_back to (be ∷ []) (to ∷ []) 0 ≡ Some (extent 1 2)
to_be-from_0 = refl

to_be-from_2 : forward_and_back to (be ∷ []) (to ∷ []) 2 ≡ Some (extent 5 6)
to_be-from_2 = refl

-- "be" followed by "to" followed by "be"
be_to_be : forward_and_back be (to ∷ be ∷ []) (be ∷ to ∷ []) 0 ≡ Some (extent 2 6)
be_to_be = refl

-- "be" followed by "be" is no single place of it
be_be : forward_and_back be (be ∷ []) (be ∷ []) 3 ≡ None
be_be = refl

-- the last "be" .. "to" up to 6 is (2, 5), and up to 4 there is none
be_to-up_to_6 : back_and_forward to (to ∷ []) (be ∷ []) 6 ≡ Some (extent 2 5)
be_to-up_to_6 = refl

be_to-up_to_4 : back_and_forward to (to ∷ []) (be ∷ []) 4 ≡ None
be_to-up_to_4 = refl

-- from the last "be": the way back and forward again ends where it began
abbrev to_be : List Extent
to_be = extent 1 2 ∷ extent 5 6 ∷ []

to_be-ends_at_3 : from_last to_be be (be ∷ []) (to ∷ []) 0 3 ≡ Some (extent 5 6)
to_be-ends_at_3 = refl

to_be-ends_at_7 : from_last to_be be (be ∷ []) (to ∷ []) 0 7 ≡ None
to_be-ends_at_7 = refl

-- of "to" at 1 and "be" at 2 and 6 the way from 6 ends at 2, which is before 3: there is no further member
one_to_be-ends_at_3 : from_last (extent 1 2 ∷ []) be (be ∷ []) ((extent 1 1 ∷ []) ∷ []) 0 3 ≡ None
one_to_be-ends_at_3 = refl

-- of "to" at 5 and "be" at 2 and 6 no way leads back from 2: it is the first member of all
late_to_be-ends_at_1 : from_last (extent 5 6 ∷ []) be (be ∷ []) ((extent 5 5 ∷ []) ∷ []) 0 1 ≡ Some (extent 5 6)
late_to_be-ends_at_1 = refl

-- from the first "to", the other way round
to_be-starts_at_4 : from_first to_be to (be ∷ []) (to ∷ []) 8 4 ≡ Some (extent 1 2)
to_be-starts_at_4 = refl

to_be-starts_at_0 : from_first to_be to (be ∷ []) (to ∷ []) 8 0 ≡ None
to_be-starts_at_0 = refl

-- of "to" at 1 and 5 and "be" at 6 the way from 1 leads back to 5, which is past 4: there is no member before
to_one_be-starts_at_4 : from_first (extent 5 6 ∷ []) to ((extent 6 6 ∷ []) ∷ []) (to ∷ []) 8 4 ≡ None
to_one_be-starts_at_4 = refl

-- of "to" at 1 and 5 and "be" at 2 no way leads on from 5: it is the last member of all
to_early_be-starts_at_7 : from_first (extent 1 2 ∷ []) to ((extent 2 2 ∷ []) ∷ []) (to ∷ []) 8 7 ≡ Some (extent 1 2)
to_early_be-starts_at_7 = refl
