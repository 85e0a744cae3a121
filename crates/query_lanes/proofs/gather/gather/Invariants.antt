use Rattle.std.proofs.Common.{◌≡◌, map, take}
use Rattle.live_version.specs.Contents.{version_text}
use Rattle.query_lanes.specs.Answers.{answer_in}
use Rattle.query_lanes.specs.inner.Lanes.{AreTrusted}
use Rattle.query_lanes.proofs.gather.gather.Given as goal

abbrev pub invariant-loop-j : goal.invariant-loop-j
invariant-loop-j l = record {
  answers : l.answers.items ≡ map (answer_in (version_text l.engine.version)) (take l.j l.asks);
  trusted : AreTrusted l.asks l.last (version_text l.engine.version) l.works;
}
