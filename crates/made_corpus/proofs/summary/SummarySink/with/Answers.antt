use Rattle.made_corpus.proofs.CountLemmas.{counts-snoc}
use Rattle.made_corpus.proofs.summary.SummarySink.with.Goals as goal

pub invariant_of-result : goal.invariant_of-result
invariant_of-result c = record {
  counted = rw (c.in_ok-counts.ensures, c.with-taken.ensures) (counts-snoc c.args.self.now.counts c.args.self.now.taken c.args.byte c.args.self.now.counted);
}
