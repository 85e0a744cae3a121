use Rattle.std.proofs.Common.{◌≡◌}
use Rattle.slot_terms.specs.Parts.{entries_left}
use Rattle.shard_merge.proofs.TermByTerm.{IsMerging}
use Rattle.shard_merge.proofs.merged.push_terms.Given as goal

-- the maker has the terms so far, and the rest is still to come
abbrev pub invariant-loop-lists : goal.invariant-loop-lists
invariant-loop-lists l = record {
  range : l.maker.range ≡ l.fn.maker.range;
  merging : IsMerging l.fn.terms l.terms l.maker.table;
}

abbrev pub decreases-loop-lists : goal.decreases-loop-lists
decreases-loop-lists l = entries_left l.terms
