use Rattle.made_corpus.specs.MadeLines.{add_from, change_from, find_from, count_from, top_from, followed}
use Rattle.made_corpus.proofs.LineLemmas.{followed-put, turn_length}
use Rattle.made_corpus.proofs.lines.put_turn.Goals as goal

pub returns-clause-lines : goal.returns-clause-lines
returns-clause-lines c =
    let i = c.args.i in
    let state = c.args.draws.now.state in
    followed-put (followed (followed (followed (add_from i state) (change_from i)) find_from) count_from) top_from _ _ _ _ _
    (followed-put (followed (followed (add_from i state) (change_from i)) find_from) count_from _ _ _ _ _
    (followed-put (followed (add_from i state) (change_from i)) find_from _ _ _ _ _
    (followed-put (add_from i state) (change_from i) _ _ _ _ _ c.in_ok-put_add.ensures c.in_ok-changes.ensures.lines)
    c.in_ok-put_find.ensures) c.in_ok-put_count.ensures) c.in_ok-put_top.ensures

pub returns-clause-number : goal.returns-clause-number
returns-clause-number c = turn_length c.args.i c.args.draws.now.state c.in_ok-changes.changes c.in_ok-changes.ensures.number
