use Rattle.share_run.proofs.TextLemmas.{summary-put}
use Rattle.share_run.proofs.text.summary_of.Goals as goal

pub returns : goal.returns
returns c =
    summary-put c.args.editors c.added.result c.gone.result c.refused.result c.files.result c.args.closed.now _ _ _ _ _ _
    c.new-out.ensures.items c.in_ok-put_line.ensures c.in_ok-put_line-2.ensures c.in_ok-put_line-3.ensures c.in_ok-put_line-4.ensures c.in_ok-put_line-5.ensures
    c.added.ensures c.gone.ensures c.refused.ensures c.files.ensures
