use Rattle.std.specs.Prelude.{◌≡◌}
use Rattle.grep_run.specs.Requests.{request_of}
use Rattle.grep_run.specs.inner.Works.{AreSound}
use Rattle.grep_run.proofs.hand.go_to_taken.Given as goal

-- what was found so far is sound
abbrev pub invariant-loop : goal.invariant-loop
invariant-loop g l = record {
  sound : AreSound (g.D.Files.held l.initial.hand.files) (request_of l.wish) l.hand.works.items;
  held : g.D.Files.held l.hand.files ≡ g.D.Files.held l.initial.hand.files;
}
