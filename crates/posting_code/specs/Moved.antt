-- Lists of addresses that are moved up by a number.
use Rattle.std.specs.Prelude.{ℕ, ◌+◌, ◌-◌, ◌^◌, Bool, ◌&&◌, List, [], length, map, min, nat_lt, if◌then◌else◌}
use Rattle.posting_code.specs.Packed.{last_of}
use Rattle.posting_code.specs.declared.head.Head.{Head}
use Rattle.posting_code.specs.declared.rows.RowList.{RowList}
use Rattle.posting_code.specs.declared.rows.RowList.TheVariants.{Own, Shared}
use Rattle.posting_code.specs.declared.rows.RowPart.{RowPart}

-- each address moved up by a number: 1 and 5 moved by 10 are 11 and 15
abbrev pub moved : ℕ → List ℕ → List ℕ
moved by addresses = map (λ p. p + by) addresses

-- whether there are members, and the last one moved up by a number stays below 2^56
abbrev pub can_move : ℕ → ℕ → ℕ → Bool
can_move count last by = nat_lt 0 count && (nat_lt by (2 ^ 56) && nat_lt last (2 ^ 56 - by))

-- the same list moved up, if all of it stays below 2^56: otherwise nothing is left
abbrev pub moved_below_end : ℕ → List ℕ → List ℕ
moved_below_end by addresses = if can_move (length addresses) (last_of addresses) by then moved by addresses else []

-- an address moved up, at most to 2^64 - 1
abbrev pub moved_address : ℕ → ℕ → ℕ
moved_address by p = min (p + by) (2 ^ 64 - 1)

-- a head whose first member is moved up; the rest of this file is for this crate alone
abbrev pub moved_head : ℕ → Head → Head
moved_head by head = record head { first = moved_address by head.first }

abbrev pub moved_heads : ℕ → List Head → List Head
moved_heads by heads = map (moved_head by) heads

-- a part of the rows without members
abbrev pub emptied : RowPart → RowPart
emptied part = record part { last = 0; count = 0; end = part.start; heads_end = part.heads_start }

-- a part of the rows whose members are moved up
abbrev pub moved_part : ℕ → RowPart → RowPart
moved_part by part =
    if can_move part.count part.last by then record part { first = moved_address by part.first; last = moved_address by part.last } else emptied part

abbrev pub moved_row : ℕ → RowList → RowList
moved_row by (Shared part) = Shared (moved_part by part)
moved_row by (Own list) = Own (moved_below_end by list)
