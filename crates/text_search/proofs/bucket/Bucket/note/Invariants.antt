use Rattle.std.proofs.Common.{◌≡◌, ◌++◌, map, take, drop, length}
use Rattle.text_search.specs.Tables.{noted}
use Rattle.text_search.proofs.bucket.Bucket.note.Given as goal

-- the entries so far have the address if it is theirs
abbrev pub invariant-loop-i : goal.invariant-loop-i
invariant-loop-i l = record {
  size : l.i-end ≡ length l.fn.self;
  entries : l.self-inside.terms.items ≡ map (noted l.token.token l.address) (take l.i l.fn.self) ++ drop l.i l.fn.self;
}
