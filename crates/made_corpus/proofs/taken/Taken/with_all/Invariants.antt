use Rattle.std.proofs.Common.{◌≡◌, ◌++◌, take}
use Rattle.made_corpus.proofs.taken.Taken.with_all.Given as goal

-- the bytes up to here are taken
abbrev pub invariant-loop-byte : goal.invariant-loop-byte
invariant-loop-byte l = l.all ≡ l.fn.self ++ take l.byte-index l.piece
