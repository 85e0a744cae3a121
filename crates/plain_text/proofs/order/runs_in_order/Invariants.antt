use Rattle.std.proofs.Common.{◌≡◌, ◌+◌, ◌&&◌, eqb, drop}
use Rattle.std.specs.List.{list_any}
use Rattle.gcl_model.specs.Extents.{Extent}
use Rattle.gcl_model.specs.Meaning.{ends_in_order}
use Rattle.plain_text.proofs.order.runs_in_order.Given as goal

-- no member so far begins such a run
abbrev pub invariant-loop-member : goal.invariant-loop-member
invariant-loop-member l =
    let runs = λ (a : Extent). eqb a.start l.pair-inside.start && ends_in_order l.rest (a.end + 1) l.pair-inside.end in
    list_any runs (drop l.member-index l.member-items) ≡ list_any runs l.member-items
