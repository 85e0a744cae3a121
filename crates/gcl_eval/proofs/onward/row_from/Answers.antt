use Rattle.std.proofs.Common.{sym, ◌∙◌}
use Rattle.gcl_eval.proofs.RunLemmas.{run_row}
use Rattle.gcl_eval.proofs.onward.row_from.Goals as goal

pub counted_next_row-requires-clause-row : goal.counted_next_row-requires-clause-row
counted_next_row-requires-clause-row g c =
    run_row (g.C.CountedLeaves.text c.args.source.now) c.args.tokens.now c.args.last.now c.args.k c.in-Some.row c.requires.last (sym c.right_before.ensures ∙ c.in-Some.is)
