-- Walks from operand to operand of "followed by".
-- The examples are of "to" at (1, 1) and (5, 5) and "be" at (2, 2) and (6, 6), as in `to be or not to be` at 1 to 6.
use Rattle.std.specs.Prelude.{ℕ, zero, suc, ◌+◌, nat_le, List, [], ◌∷◌, Option, Some, None, if◌then◌else◌}
use Rattle.std.specs.Option.{option_map, option_and_then}
use Rattle.gcl_model.specs.Extents.{Extent, extent}
use Rattle.gcl_model.specs.Access.{first_start, first_end, last_end, last_start}

-- from the start of the first to the end of the second: (1, 2) and (6, 7) joined are (1, 7)
abbrev pub joined : Extent → Extent → Extent
joined head tail = extent head.start tail.end

-- the address before this one: before 5 it is 4, and before 0 there is none
abbrev pub address_before : ℕ → Option ℕ
address_before zero = None
address_before (suc n) = Some n

-- the last member that ends before b starts: of "be" before (5, 5) it is (2, 2)
abbrev pub last_before : List Extent → Extent → Option Extent
last_before list b = option_and_then (last_end list) (address_before b.start)

-- forward from `a`, in each list the first member that starts after the end of the one before: the member of the last list;
-- forward from (2, 2) through "to" and "be" it is (6, 6)
abbrev pub walk_forward : List (List Extent) → Extent → Option Extent
walk_forward [] a = Some a
walk_forward (list ∷ lists) a = option_and_then (walk_forward lists) (first_start list (a.end + 1))

-- back from `a`, in each list from the last to the first the last member that ends before the one after starts: the
-- member of the first list; back from (6, 6) through "to" and "be" it is (1, 1)
abbrev pub walk_backward : List (List Extent) → Extent → Option Extent
walk_backward [] a = Some a
walk_backward (list ∷ lists) a = option_and_then (last_before list) (walk_backward lists a)

-- forward from k through all lists to a member of the last, and back from that member through all lists except the last:
-- "to" followed by "be" is (1, 2) at 0, and (5, 6) at 2
abbrev pub forward_and_back : (first : List Extent) (rest front : List (List Extent)) → ℕ → Option Extent
forward_and_back first rest front k =
    option_and_then (λ tail. option_map (λ head. joined head tail) (walk_backward front tail)) (option_and_then (walk_forward rest) (first_start first k))

-- back from k through all lists to a member of the first, and forward from that member through all lists except the first:
-- "be" followed by "to" is (2, 5) at 6, and there is none at 4
abbrev pub back_and_forward : (last : List Extent) (rest front : List (List Extent)) → ℕ → Option Extent
back_and_forward last rest front k =
    option_and_then (λ head. option_map (λ tail. joined head tail) (walk_forward rest head)) (option_and_then (walk_backward front) (last_end last k))

-- the first member of the node's list that starts after the start of a head, or at or after the first address if there is no head:
-- of (1, 2) and (5, 6) past (1, 1) it is (5, 6)
abbrev pub first_past : (node : List Extent) (first : ℕ) → Option Extent → Option Extent
first_past node first None = first_start node first
first_past node first (Some head) = first_start node (head.start + 1)

-- the last member of the node's list that ends before a tail does, or before the next address if there is no tail:
-- of (1, 2) and (5, 6) before (6, 6) it is (1, 2)
abbrev pub last_short_of : (node : List Extent) (next : ℕ) → Option Extent → Option Extent
last_short_of node next None = option_and_then (last_end node) (address_before next)
last_short_of node next (Some tail) = option_and_then (last_end node) (address_before tail.end)

-- forward again from the head that a way back led to: joined with the tail reached if that ends at k or later, and else
-- the node's first member past the head; forward from (5, 5) to (6, 6) it is (5, 6) at 3
abbrev pub forward_again : (node : List Extent) (rest : List (List Extent)) (first k : ℕ) → Option Extent → Option Extent
forward_again node rest first k None = first_past node first None
forward_again node rest first k (Some head) =
    option_and_then (λ tail. if nat_le k tail.end then Some (joined head tail) else first_past node first (Some head)) (walk_forward rest head)

-- back again from the tail that a way forward led to: joined with the head reached if that starts at k or before, and
-- else the node's last member short of the tail; back from (2, 2) to (1, 1) it is (1, 2) at 4
abbrev pub back_again : (node : List Extent) (front : List (List Extent)) (next k : ℕ) → Option Extent → Option Extent
back_again node front next k None = last_short_of node next None
back_again node front next k (Some tail) =
    option_and_then (λ head. if nat_le head.start k then Some (joined head tail) else last_short_of node next (Some tail)) (walk_backward front tail)

-- from the last list's first member that ends at k or later back through all others, and forward again: "to" followed by
-- "be" is (5, 6) at 3, since from (6, 6) the way leads back to (5, 5) and forward to (6, 6) again
abbrev pub from_last : (node last : List Extent) (rest front : List (List Extent)) (first k : ℕ) → Option Extent
from_last node last rest front first k = option_and_then (λ tail. forward_again node rest first k (walk_backward front tail)) (first_end last k)

-- from the first list's last member that starts at k or before forward through all others, and back again: "to" followed
-- by "be" is (1, 2) at 4, since from (1, 1) the way leads forward to (2, 2) and back to (1, 1) again
abbrev pub from_first : (node first : List Extent) (rest front : List (List Extent)) (next k : ℕ) → Option Extent
from_first node first rest front next k = option_and_then (λ head. back_again node front next k (walk_forward rest head)) (last_start first k)
