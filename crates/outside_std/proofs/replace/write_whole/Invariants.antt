use Rattle.std.proofs.Common.{length, ◌-◌, ◌≤◌, take}
use Rattle.outside_std.specs.Saving.{Fills}
use Rattle.outside_std.proofs.replace.write_whole.Given as goal

-- this much of the text was taken
abbrev pub invariant-loop-at : goal.invariant-loop-at
invariant-loop-at g l = record {
  within : l.at ≤ length l.text;
  filled : Fills (g.D.Disk.steps l.initial.disk) (g.D.Disk.steps l.disk) (take l.at l.text);
}

abbrev pub decreases-loop-at : goal.decreases-loop-at
decreases-loop-at g l = length l.text - l.at
