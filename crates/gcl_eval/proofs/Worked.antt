-- The accesses by the far sides by those by the near ones, what a chain does in a direction, and what accesses may cost.
use Rattle.std.specs.Prelude.{◌≡◌, ℕ, List, [], ◌∷◌, Some, None, true, false, codes}
use Rattle.std.proofs.Common.{refl}
use Rattle.gcl_model.specs.Extents.{Extent, extent}
use Rattle.gcl_model.specs.Texts.{Text}
use Rattle.gcl_model.specs.Forms.{Form, term, both, seq, contained_in, no_forms, more_forms}
use Rattle.gcl_model.specs.Cost.{cost}
use Rattle.gcl_eval.specs.Costs.{cost_in, near_cost}
use Rattle.gcl_eval.specs.Members.{members_from}
use Rattle.gcl_model.specs.Directions.{between}
use Rattle.gcl_combine.specs.Directions.{farthest, best}
use Rattle.gcl_eval.specs.Directions.{access_of, beside, walk, join, reaches, outside, passed, resume, next_past, on_again}
use Rattle.gcl_eval.specs.declared.direction.Access.TheVariants.{FirstEnd, LastStart}
use Rattle.gcl_model.specs.declared.direction.Direction.TheVariants.{Forward, Backward}

-- ("to" ^ "not") + "be" in `to be or not to be` at 1 to 6 of the addresses 0 to 7
abbrev members : List Extent
members = extent 2 2 ∷ extent 4 5 ∷ extent 6 6 ∷ []

-- the first that ends at 3 or later: (2, 2) is passed, and the search goes on at 3
first_end-at_3 : access_of FirstEnd members 3 ≡ Some (extent 4 5)
first_end-at_3 = refl

passed-at_3 : passed Forward members 8 3 ≡ Some (extent 2 2)
passed-at_3 = refl

resume-at_3 : resume Forward 0 8 (passed Forward members 8 3) ≡ Some 3
resume-at_3 = refl

-- none is passed over at 0
resume-at_0 : resume Forward 0 8 (passed Forward members 8 0) ≡ Some 0
resume-at_0 = refl

-- the last that starts at 5 or before: (6, 6) is passed over, and the search goes back from 5
last_start-at_5 : access_of LastStart members 5 ≡ Some (extent 4 5)
last_start-at_5 = refl

resume_back-at_5 : resume Backward 0 8 (passed Backward members 8 5) ≡ Some 5
resume_back-at_5 = refl

-- at or after the last address nothing is looked for, and the search goes back from the edge
resume_back-at_edge : resume Backward 0 8 (passed Backward members 8 9) ≡ Some 7
resume_back-at_edge = refl

resume_back-empty : resume Backward 0 0 (passed Backward [] 0 9) ≡ None
resume_back-empty = refl

-- a page begins with the first member that starts at its address or later
members_from-at_3 : members_from members 3 ≡ extent 4 5 ∷ extent 6 6 ∷ []
members_from-at_3 = refl

members_from-at_a_member : members_from members 4 ≡ extent 4 5 ∷ extent 6 6 ∷ []
members_from-at_a_member = refl

-- chains, in either direction
beside-backward : beside {X = ℕ} Backward 3 (1 ∷ 2 ∷ []) ≡ 1 ∷ 2 ∷ 3 ∷ []
beside-backward = refl

farthest-forward : farthest Forward ((extent 1 6 ∷ []) ∷ (extent 2 3 ∷ []) ∷ []) 0 4 ≡ Some 6
farthest-forward = refl

farthest-backward : farthest Backward ((extent 1 6 ∷ []) ∷ (extent 2 3 ∷ []) ∷ []) 9 4 ≡ Some 1
farthest-backward = refl

between-backward : between Backward 6 4 ≡ extent 4 6
between-backward = refl

best-forward : best Forward ((extent 2 5 ∷ []) ∷ (extent 3 4 ∷ []) ∷ []) 0 None ≡ Some (extent 3 4)
best-forward = refl

walk-forward : walk Forward ((extent 2 3 ∷ extent 4 4 ∷ []) ∷ []) (extent 1 2) ≡ Some (extent 4 4)
walk-forward = refl

join-backward : join Backward (extent 4 4) (extent 1 2) ≡ extent 1 4
join-backward = refl

-- (4, 4) reaches back to 4 and not to 3
reaches-backward : reaches Backward 4 (extent 4 4) ≡ true
reaches-backward = refl

reaches-short : reaches Backward 3 (extent 4 4) ≡ false
reaches-short = refl

-- of (1, 2) and (5, 6): the next member past (1, 1), and from the edge
next_past-one : next_past Forward (extent 1 2 ∷ extent 5 6 ∷ []) 0 8 (Some (extent 1 1)) ≡ Some (extent 5 6)
next_past-one = refl

next_past-edge : next_past Backward (extent 1 2 ∷ extent 5 6 ∷ []) 0 8 None ≡ Some (extent 5 6)
next_past-edge = refl

-- on from (5, 5) to (6, 6), which reaches 3; and from (1, 1) to (2, 2), which does not
on_again-reached : on_again Forward (extent 1 2 ∷ extent 5 6 ∷ []) ((extent 2 2 ∷ extent 6 6 ∷ []) ∷ []) 0 8 3 (Some (extent 5 5)) ≡ Some (extent 5 6)
on_again-reached = refl

on_again-short : on_again Forward (extent 1 2 ∷ []) ((extent 2 2 ∷ extent 6 6 ∷ []) ∷ []) 0 8 3 (Some (extent 1 1)) ≡ None
on_again-short = refl

outside-at_3 : outside Forward 8 3 ≡ Some 2
outside-at_3 = refl

-- if a look-up is one step: a term takes one, and each of a pair of terms at most four
abbrev to : Form
to = term (codes "to")

abbrev be : Form
be = term (codes "be")

abbrev no_words : Text
no_words = record { first = 0; next = 8; words = [] }

cost-term : cost no_words 1 to ≡ 1
cost-term = refl

cost-pair : cost no_words 1 (both (more_forms to (more_forms be no_forms))) ≡ 8
cost-pair = refl

-- two rounds of the operands in place of four
near_cost-pair : near_cost no_words 1 (both (more_forms to (more_forms be no_forms))) ≡ 4
near_cost-pair = refl

near_cost-term : near_cost no_words 1 to ≡ 1
near_cost-term = refl

cost_in-4 : cost_in 4 no_words 1 (both (more_forms to (more_forms be no_forms))) ≡ 8
cost_in-4 = refl

cost-nested : cost no_words 1 (seq (more_forms (both (more_forms to (more_forms be no_forms))) (more_forms to no_forms))) ≡ 36
cost-nested = refl

-- two members on either side: four times an access of each operand at most
abbrev two_words : Text
two_words = record { first = 0; next = 8; words = record { address = 1; token = codes "to" } ∷ record { address = 5; token = codes "to" } ∷ [] }

cost-contained_in : cost two_words 1 (contained_in to to) ≡ 8
cost-contained_in = refl

cost-contained_in-none : cost no_words 1 (contained_in to be) ≡ 4
cost-contained_in-none = refl
