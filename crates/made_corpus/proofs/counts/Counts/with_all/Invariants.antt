use Rattle.std.proofs.Common.{◌≡◌, ◌+◌, ◌*◌, ◌≤◌, drop}
use Rattle.made_corpus.specs.Counted.{counts_with_all}
use Rattle.made_corpus.proofs.counts.Counts.with_all.Given as goal

-- what is counted, and then the bytes that are left, gives the whole
abbrev pub invariant-loop-byte : goal.invariant-loop-byte
invariant-loop-byte l = record {
  counted : counts_with_all (record { refused = l.fn.self.refused + l.refused; bytes = l.fn.self.bytes + l.byte-index; sum = l.fn.self.sum + l.sum; begins = l.begins }) (drop l.byte-index l.piece) ≡ counts_with_all l.fn.self l.piece;
  refused : l.refused ≤ l.byte-index;
  sum : l.sum ≤ 255 * l.byte-index;
}
