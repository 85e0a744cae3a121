-- The accesses, and what a chain does, by the direction in which its operands are visited.
-- Going forward, the near side of a member is its start and the far side its end; going backward it is the other way round.
use Rattle.std.specs.Prelude.{◌≤◌, ℕ, ◌+◌, List, [], ◌∷◌, ◌++◌, Option, Some, None, nat_le, nat_lt, Bool, if◌then◌else◌}
use Rattle.std.specs.Option.{option_and_then}
use Rattle.gcl_model.specs.Extents.{Extent}
use Rattle.gcl_model.specs.Texts.{Word, next_place, previous_place}
use Rattle.gcl_model.specs.Directions.{near_access, opposite}
use Rattle.gcl_model.specs.Access.{first_start, first_end, last_end, last_start}
use Rattle.gcl_order.specs.Walks.{address_before, joined, walk_forward, walk_backward}
use Rattle.gcl_model.specs.declared.direction.Direction.{Direction}
use Rattle.gcl_model.specs.declared.direction.Direction.TheVariants.{Forward, Backward}
use Rattle.gcl_eval.specs.declared.direction.Access.{Access}
use Rattle.gcl_eval.specs.declared.direction.Access.TheVariants.{FirstStart, FirstEnd, LastEnd, LastStart}

-- the member that an access gives: of (1, 2) and (5, 6) at 2, `FirstEnd` gives (1, 2) and `FirstStart` (5, 6)
abbrev pub access_of : Access → List Extent → ℕ → Option Extent
access_of FirstStart = first_start
access_of FirstEnd = first_end
access_of LastEnd = last_end
access_of LastStart = last_start

-- the place of a term that the access finds, each of whose members starts where it ends: of 1 and 5 at 2, `FirstEnd` finds 5
abbrev pub place_of : Access → List Word → List ℕ → ℕ → Option ℕ
place_of FirstStart = next_place
place_of FirstEnd = next_place
place_of LastEnd = previous_place
place_of LastStart = previous_place

-- forward for the first member at or after a position, backward for the last up to it
abbrev pub direction_of : Access → Direction
direction_of FirstStart = Forward
direction_of FirstEnd = Forward
direction_of LastEnd = Backward
direction_of LastStart = Backward

-- a list in which x comes before the others in this direction: backward, 3 beside 1, 2 gives 1, 2, 3
abbrev pub beside : {X : Type 0} → Direction → X → List X → List X
beside Forward x others = x ∷ others
beside Backward x others = others ++ x ∷ []

-- followed by: where the operand after this answer is asked, if anywhere; forward, after (1, 2) it is 3
abbrev pub beyond : Direction → Extent → Option ℕ
beyond Forward a = Some (a.end + 1)
beyond Backward a = address_before a.start

-- on from a member through these lists to the last one's; forward, from (1, 2) through a list of (2, 3) and (4, 4) it is (4, 4)
abbrev pub walk : Direction → List (List Extent) → Extent → Option Extent
walk Forward = walk_forward
walk Backward = walk_backward

-- from the near side of the near answer to the far side of the far answer; backward, of (4, 4) and (1, 2) it is (1, 4)
abbrev pub join : Direction → Extent → Extent → Extent
join Forward near far = joined near far
join Backward near far = joined far near

-- the near answer starts before the far one ends in this direction: forward, (1, 2) and (4, 4) can be joined
abbrev pub CanJoin : Direction → Extent → Extent → Type 0
CanJoin Forward near far = near.start ≤ far.end
CanJoin Backward near far = far.start ≤ near.end

-- the far side of an answer lies at k or beyond: forward, (1, 2) reaches 2, and backward it reaches 1
abbrev pub reaches : Direction → ℕ → Extent → Bool
reaches Forward k a = nat_le k a.end
reaches Backward k a = nat_le a.start k

-- where the nearest member that the access by the far sides at k passes over is looked for, if anywhere: forward at 3 up to 2
abbrev pub outside : Direction → (next k : ℕ) → Option ℕ
outside Forward next k = address_before k
outside Backward next k = if nat_lt k next then Some (k + 1) else None

-- the nearest member that the access by the far sides at k passes over: forward, of (2, 2) and (4, 5) at 3 it is (2, 2)
abbrev pub passed : Direction → List Extent → (next k : ℕ) → Option Extent
passed direction list next k = option_and_then (near_access (opposite direction) list) (outside direction next k)

-- where that access goes on by the near sides, past this member or from the edge of the text: forward past (2, 2) it is 3
abbrev pub resume : Direction → (first next : ℕ) → Option Extent → Option ℕ
resume Forward first next None = Some first
resume Forward first next (Some a) = Some (a.start + 1)
resume Backward first next None = address_before next
resume Backward first next (Some a) = address_before a.end

-- followed by: the node's next member past the near side of this one, or from the edge of the text if there is none:
-- forward, of (1, 2) and (5, 6) past (1, 1) it is (5, 6)
abbrev pub next_past : Direction → (node : List Extent) → (first next : ℕ) → Option Extent → Option Extent
next_past direction node first next near = option_and_then (near_access direction node) (resume direction first next near)

-- followed by: on again from where a way back ended, joined with where that leads if it reaches k, and else the node's next
-- member past it; forward, from (5, 5) through a list of (6, 6) it is (5, 6) at 3
abbrev pub on_again : Direction → (node : List Extent) → (after : List (List Extent)) → (first next k : ℕ) → Option Extent → Option Extent
on_again direction node after first next k None = next_past direction node first next None
on_again direction node after first next k (Some near) =
    option_and_then (λ far. if reaches direction k far then Some (join direction near far) else next_past direction node first next (Some near)) (walk direction after near)
