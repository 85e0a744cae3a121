use Rattle.std.proofs.Common.{ap, ◌∙◌}
use Rattle.gcl_model.specs.Access.{first_start}
use Rattle.fixed_width.specs.Widths.{width_list}
use Rattle.fixed_width.proofs.Widths.{first_end_is}
use Rattle.fixed_width.proofs.accesses.width_first_end.Goals as goal

pub returns : goal.returns
returns c = λ text has.
    c.width_first_start.ensures text has ∙ ap (first_start (width_list text c.args.n)) c.saturating_sub.ensures ∙ first_end_is text c.args.n c.args.k c.requires.some
