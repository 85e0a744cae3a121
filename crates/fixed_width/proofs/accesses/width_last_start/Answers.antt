use Rattle.std.proofs.Common.{◌+◌, ◌-◌, min, sym, ap, ◌∙◌}
use Rattle.gcl_model.specs.Access.{last_end}
use Rattle.fixed_width.specs.Widths.{width_list}
use Rattle.fixed_width.proofs.Widths.{last_start_is}
use Rattle.fixed_width.proofs.accesses.width_last_start.Goals as goal

pub returns : goal.returns
returns c = λ text has.
    c.width_last_end.ensures text has
    ∙ ap (λ m. last_end (width_list text c.args.n) (m + (c.args.n - 1))) (c.min.ensures ∙ ap (min c.args.k) (sym has.next_is))
    ∙ last_start_is text c.args.n c.args.k c.requires.some
