use Rattle.std.proofs.lemmas.Result.{on_ok_weaker}
use Rattle.made_corpus.proofs.LineLemmas.{count-put}
use Rattle.made_corpus.proofs.lines.put_count.Goals as goal

pub returns : goal.returns
returns c =
    on_ok_weaker c.put_between.result
    (count-put c.args.draws.now.state c.draw.result c.draw.new.self.state c.args.out.now.items c.put_between.new.out.items c.draw.ensures.value c.draw.ensures.state)
    c.put_between.ensures
