use Rattle.std.proofs.Common.{◌≡◌, [], replicate}
use Rattle.text_search.proofs.table.TermTable.new.Given as goal

-- so far all buckets are empty
abbrev pub invariant-loop : goal.invariant-loop
invariant-loop l = l.buckets.items ≡ replicate l.counter []
