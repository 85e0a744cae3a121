use Rattle.std.proofs.Common.{rules, subst}
use Rattle.std.proofs.lemmas.List.{take_all}
use Rattle.outside_std.specs.Saving.{Fills}
use Rattle.outside_std.proofs.Steps.{no_ok, nothing_filled, on_err, part_filled, piece_filled, stuck_filled}
use Rattle.outside_std.proofs.replace.write_whole.Goals as goal

pub loop-at-init : goal.loop-at-init
loop-at-init g c = record {
  within = search rules;
  filled = nothing_filled _;
}

pub loop-at-preserved : goal.loop-at-preserved
loop-at-preserved g c = record {
  within = search rules;
  filled = piece_filled _ _ _ c.args.text.now c.loop-at.at c.in_ok-count.count c.loop-at.invariant.filled c.in_ok-count.ensures.ok;
}

pub returns-then-count-eq0-clause-err : goal.returns-then-count-eq0-clause-err
returns-then-count-eq0-clause-err g c = stuck_filled _ _ _ _ _ c.loop-at.invariant.filled c.in_ok-count.ensures.ok

pub returns-in_err-count-clause-ok : goal.returns-in_err-count-clause-ok
returns-in_err-count-clause-ok g c = no_ok _ c.from_residual.result _ c.from_residual.ensures.1

pub returns-in_err-count-clause-err : goal.returns-in_err-count-clause-err
returns-in_err-count-clause-err g c = on_err _ c.from_residual.result (part_filled _ _ _ _ c.loop-at.invariant.filled c.in_err-count.ensures.err)

pub returns-clause-ok : goal.returns-clause-ok
returns-clause-ok g c =
    let steps = g.D.Disk.steps in
    subst (λ text. Fills (steps c.args.disk.now) (steps c.loop-at.disk) text) (take_all c.loop-at.at c.args.text.now c.loop-at-test.false) c.loop-at.invariant.filled
