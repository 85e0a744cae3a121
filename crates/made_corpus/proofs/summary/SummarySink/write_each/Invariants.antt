use Rattle.std.proofs.Common.{◌≡◌, ◌++◌, take}
use Rattle.made_corpus.proofs.summary.SummarySink.write_each.Given as goal

-- the bytes up to here were taken
abbrev pub invariant-loop-byte : goal.invariant-loop-byte
invariant-loop-byte l = record {
  taken : l.self.taken ≡ l.fn.self.taken ++ take l.byte-index l.piece;
  count : l.count ≡ l.byte-index;
}
