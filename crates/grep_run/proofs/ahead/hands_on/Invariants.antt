use Rattle.std.specs.Prelude.{◌≡◌}
use Rattle.std.specs.List.{AllByRecursion}
use Rattle.grep_run.proofs.ahead.hands_on.Given as goal

-- the handles so far are on these files
abbrev pub invariant-loop : goal.invariant-loop
invariant-loop g l = AllByRecursion (λ hand. g.F.Handle.Files.held hand.files ≡ g.F.Files.held l.files) l.hands.items
