-- The eight loops of the containments: which members they keep, by which end they go through the first operand,
-- what they ask of the second, and the move that follows.
use Rattle.std.specs.Prelude.{ℕ, Bool, not, nat_le, List, find, Option}
use Rattle.gcl_model.specs.Extents.{Extent, covers, is_inside}
use Rattle.gcl_model.specs.Access.{find_last, first_start, first_end, last_end, last_start}
use Rattle.gcl_contain.specs.Moves.{Move, containing_move, contained_in_move, not_containing_move, not_contained_in_move, containing_move_back, contained_in_move_back, not_containing_move_back, not_contained_in_move_back}

-- one loop over the members of the first operand: that of "containing" forward goes by their ends
pub record Kind : Type 0 where
  -- whether the node keeps a member, by the list of the second operand
  pub keeps : List Extent → Extent → Bool
  -- the end of a member by which the loop goes on
  pub place : Extent → ℕ
  -- what is asked of the second operand at a member
  pub ask : List Extent → Extent → Option Extent
  -- what the loop does at a member when it has this answer
  pub move : Extent → Option Extent → Move

-- forward over the members in which one of the other list is nested: with (4, 4) it keeps (2, 5), and not (1, 2)
abbrev pub containing : Kind
containing = record { keeps = covers; place = λ a. a.end; ask = λ others a. first_start others a.start; move = containing_move }

-- forward over the members that are nested in one of the other list: with (1, 6) it keeps (2, 5), and not (5, 8)
abbrev pub contained_in : Kind
contained_in = record { keeps = is_inside; place = λ a. a.start; ask = λ others a. first_end others a.end; move = contained_in_move }

-- forward over the members in which none of the other list is nested: with (4, 4) it keeps (1, 2), and not (2, 5)
abbrev pub not_containing : Kind
not_containing = record { keeps = λ others c. not (covers others c); place = λ a. a.start; ask = λ others a. first_start others a.start; move = not_containing_move }

-- forward over the members that are nested in none of the other list: with (1, 6) it keeps (5, 8), and not (2, 5)
abbrev pub not_contained_in : Kind
not_contained_in = record { keeps = λ others c. not (is_inside others c); place = λ a. a.end; ask = λ others a. first_end others a.end; move = not_contained_in_move }

-- backward over the members in which one of the other list is nested: with (4, 4) it keeps (2, 5), and not (5, 8)
abbrev pub containing_back : Kind
containing_back = record { keeps = covers; place = λ a. a.start; ask = λ others a. last_end others a.end; move = containing_move_back }

-- backward over the members that are nested in one of the other list: with (1, 6) it keeps (2, 5), and not (0, 3)
abbrev pub contained_in_back : Kind
contained_in_back = record { keeps = is_inside; place = λ a. a.end; ask = λ others a. last_start others a.start; move = contained_in_move_back }

-- backward over the members in which none of the other list is nested: with (4, 4) it keeps (5, 8), and not (2, 5)
abbrev pub not_containing_back : Kind
not_containing_back = record { keeps = λ others c. not (covers others c); place = λ a. a.end; ask = λ others a. last_end others a.end; move = not_containing_move_back }

-- backward over the members that are nested in none of the other list: with (1, 6) it keeps (0, 3), and not (2, 5)
abbrev pub not_contained_in_back : Kind
not_contained_in_back = record { keeps = λ others c. not (is_inside others c); place = λ a. a.start; ask = λ others a. last_start others a.start; move = not_contained_in_move_back }

-- the first operand's first member at or after k, by the end that the loop goes by: of (1, 2) and (2, 5) `containing` takes (2, 5) at 4
abbrev pub first_from : Kind → List Extent → ℕ → Option Extent
first_from kind members k = find (λ a. nat_le k (kind.place a)) members

-- the first operand's last member up to k, by that end: of (2, 5) and (5, 8) `containing_back` takes (2, 5) at 4
abbrev pub last_upto : Kind → List Extent → ℕ → Option Extent
last_upto kind members k = find_last (λ a. nat_le (kind.place a) k) members
