use Rattle.made_corpus.proofs.SummaryLemmas.{summary-put}
use Rattle.made_corpus.proofs.summary.SummarySink.put_summary.Goals as goal

pub returns : goal.returns
returns c =
    summary-put c.args.start c.args.count c.args.lines c.args.self.now.counts c.args.self.now.taken c.args.out.now.items _ _ _ _ _ _ _ _
    c.in_ok-put_text.ensures c.in_ok-put_number.ensures c.in_ok-put_text-2.ensures c.in_ok-put_line.ensures c.in_ok-put_line-2.ensures c.in_ok-put_line-3.ensures
    c.in_ok-put_line-4.ensures c.in_ok-put_line-5.ensures c.requires c.args.self.now.counted
