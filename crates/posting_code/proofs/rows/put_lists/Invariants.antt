use Rattle.std.proofs.Common.{◌≡◌, ◌++◌, length, take, drop}
use Rattle.std.specs.List.{concat}
use Rattle.posting_code.specs.Joined.{last_in}
use Rattle.posting_code.specs.Packed.{packed_of}
use Rattle.posting_code.specs.Rows.{HasHeads}
use Rattle.posting_code.proofs.rows.put_lists.Given as goal

-- the rows have the lists so far at their ends
abbrev pub invariant-loop-list : goal.invariant-loop-list
invariant-loop-list l = record {
  last : l.last ≡ last_in (concat (take l.list-index l.lists));
  count : l.count ≡ length (concat (take l.list-index l.lists));
  put : l.packed.items ≡ l.fn.packed.items ++ packed_of (concat (take l.list-index l.lists));
  marks : HasHeads (concat (take l.list-index l.lists)) (drop (length l.fn.heads.items) l.heads.items);
  begins : take (length l.fn.heads.items) l.heads.items ≡ l.fn.heads.items;
}
