use Rattle.std.proofs.Common.{true, false, sym, ◌∙◌}
use Rattle.gcl_eval.proofs.TwoWidths.{kept_widths}
use Rattle.gcl_eval.proofs.two_widths.count_of_widths.Goals as goal

pub returns-then-keeps_all : goal.returns-then-keeps_all
returns-then-keeps_all c = λ text has.
    c.width_count.ensures text has ∙
    kept_widths c.args.widths.containment text c.args.widths.first c.args.widths.second c.args.span.first c.args.span.next true c.requires.first c.requires.second has (sym c.if-keeps_all.true ∙ c.keeps_all.ensures)

pub returns-else-keeps_all : goal.returns-else-keeps_all
returns-else-keeps_all c = λ text has.
    kept_widths c.args.widths.containment text c.args.widths.first c.args.widths.second c.args.span.first c.args.span.next false c.requires.first c.requires.second has (sym c.if-keeps_all.false ∙ c.keeps_all.ensures)
