use Rattle.std.proofs.lemmas.Result.{on_ok_weaker}
use Rattle.made_corpus.proofs.LineLemmas.{top-put}
use Rattle.made_corpus.proofs.lines.put_top.Goals as goal

pub returns : goal.returns
returns c =
    on_ok_weaker c.put_between-2.result
    (top-put c.args.draws.now.state c.draw.result c.draw.new.self.state c.draw-2.result c.draw-2.new.self.state c.args.out.now.items _ c.put_between-2.new.out.items
    c.draw.ensures.value c.draw.ensures.state c.draw-2.ensures.value c.draw-2.ensures.state c.in_ok-put_between.ensures)
    c.put_between-2.ensures
