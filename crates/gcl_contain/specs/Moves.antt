-- What the loop of a containment does at a member `a` of its first operand, with `b` the answer of the other operand.
use Rattle.std.specs.Prelude.{ℕ, zero, suc, ◌+◌, nat_le, Option, Some, None, if◌then◌else◌}
use Rattle.gcl_contain.specs.declared.turn.Turn.{Turn}
use Rattle.gcl_contain.specs.declared.turn.Turn.TheVariants.{Accept, GoTo, Finish}
use Rattle.gcl_model.specs.Extents.{Extent}

-- the loop answers `a`, goes on at an address, or ends without an answer: from (1, 2) it may go on at 4
pub data Move : Type 0 where
  accept : Move
  go_to : ℕ → Move
  finish : Move

-- the move that a turn of the program stands for: `GoTo(4)` goes on at 4
abbrev pub move_of : Turn → Move
move_of Accept = accept
move_of (GoTo k) = go_to k
move_of Finish = finish

-- `b` is the first member that starts at or after the start of `a`: with (2, 4), (1, 2) goes on at 4, and (1, 5) is accepted
abbrev pub containing_move : Extent → Option Extent → Move
containing_move a None = finish
containing_move a (Some b) = if nat_le b.end a.end then accept else go_to b.end

-- `b` is the first member that ends at or after the end of `a`: with (3, 5), (1, 2) goes on at 3, and (3, 4) is accepted
abbrev pub contained_in_move : Extent → Option Extent → Move
contained_in_move a None = finish
contained_in_move a (Some b) = if nat_le b.start a.start then accept else go_to b.start

-- `b` is the first member that starts at or after the start of `a`: with (2, 3), (1, 4) goes on at 3, and (1, 2) is accepted
abbrev pub not_containing_move : Extent → Option Extent → Move
not_containing_move a None = accept
not_containing_move a (Some b) = if nat_le b.end a.end then go_to (b.start + 1) else accept

-- `b` is the first member that ends at or after the end of `a`: with (1, 4), (2, 3) goes on at 5, and (0, 3) is accepted
abbrev pub not_contained_in_move : Extent → Option Extent → Move
not_contained_in_move a None = accept
not_contained_in_move a (Some b) = if nat_le b.start a.start then go_to (b.end + 1) else accept

-- backward `b` is the last member that ends at or before the end of `a`: with (2, 4), (4, 5) goes on at 2, and (1, 5) is accepted
abbrev pub containing_move_back : Extent → Option Extent → Move
containing_move_back a None = finish
containing_move_back a (Some b) = if nat_le a.start b.start then accept else go_to b.start

-- backward `b` is the last member that starts at or before the start of `a`: with (1, 3), (4, 5) goes on at 3, and (2, 3) is accepted
abbrev pub contained_in_move_back : Extent → Option Extent → Move
contained_in_move_back a None = finish
contained_in_move_back a (Some b) = if nat_le a.end b.end then accept else go_to b.end

-- on to the address before this one: from 3 it goes on at 2, and from 0 there is nothing to go on to
abbrev pub before_move : ℕ → Move
before_move zero = finish
before_move (suc k) = go_to k

-- backward `b` is the last member that ends at or before the end of `a`: with (2, 3), (1, 4) goes on at 2, and (3, 4) is accepted
abbrev pub not_containing_move_back : Extent → Option Extent → Move
not_containing_move_back a None = accept
not_containing_move_back a (Some b) = if nat_le a.start b.start then before_move b.end else accept

-- backward `b` is the last member that starts at or before the start of `a`: with (1, 4), (2, 3) goes on at 0, and (2, 5) is accepted
abbrev pub not_contained_in_move_back : Extent → Option Extent → Move
not_contained_in_move_back a None = accept
not_contained_in_move_back a (Some b) = if nat_le a.end b.end then before_move b.start else accept
