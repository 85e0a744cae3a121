use Rattle.std.proofs.Common.{◌-◌, ◌≡◌, ◌≤◌, length, drop}
use Rattle.query_names.specs.PutIn.{most_query, prefixed, put_from, put_in}
use Rattle.query_names.proofs.putting.put_in.Given as goal

-- what was put, and what is put for the rest, are together what is put for the query
abbrev pub invariant-loop-at : goal.invariant-loop-at
invariant-loop-at l = record {
  within : l.at ≤ length l.query;
  few : length l.out.items ≤ most_query;
  put : prefixed l.out.items (put_from l.definitions l.quoted 0 l.at (most_query - length l.out.items) (drop l.at l.query)) ≡ put_in l.definitions l.query;
}

abbrev pub decreases-loop-at : goal.decreases-loop-at
decreases-loop-at l = length l.query - l.at
