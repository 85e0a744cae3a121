use Rattle.std.proofs.Common.{◌≡◌, ◌++◌, take}
use Rattle.std.specs.List.{concat}
use Rattle.posting_code.specs.Joined.{last_in}
use Rattle.posting_code.specs.Packed.{packed_of}
use Rattle.posting_code.proofs.row.put_joined.Given as goal

-- the bytes of the lists so far, and their last member
abbrev pub invariant-loop-list : goal.invariant-loop-list
invariant-loop-list l = record {
  last : l.last ≡ last_in (concat (take l.list-index l.lists));
  put : l.packed.items ≡ l.fn.packed.items ++ packed_of (concat (take l.list-index l.lists));
}
