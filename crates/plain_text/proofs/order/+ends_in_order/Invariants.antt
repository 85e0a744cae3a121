use Rattle.std.proofs.Common.{◌≡◌, ◌+◌, ◌&&◌, leb, length, drop}
use Rattle.std.specs.List.{list_any}
use Rattle.gcl_model.specs.Extents.{Extent}
use Rattle.gcl_model.specs.Meaning.{ends_in_order}
use Rattle.plain_text.proofs.order.+ends_in_order.Given as goal

abbrev pub decreases-ends_in_order : goal.decreases-ends_in_order
decreases-ends_in_order l = length l.lists.now

-- no member so far goes on to the end
abbrev pub invariant-loop-member : goal.invariant-loop-member
invariant-loop-member l =
    let goes_on = λ (a : Extent). leb (l.last + 1) a.start && ends_in_order l.rest (a.end + 1) l.end in
    list_any goes_on (drop l.member-index l.member-items) ≡ list_any goes_on l.member-items
