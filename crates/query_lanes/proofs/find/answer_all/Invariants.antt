use Rattle.std.proofs.Common.{◌≡◌, ◌++◌, map, drop}
use Rattle.live_version.specs.Contents.{version_text}
use Rattle.query_lanes.specs.Answers.{answer_in}
use Rattle.query_lanes.proofs.find.answer_all.Given as goal

-- with those to the queries that are left, the answers so far are all
abbrev pub invariant-loop-ask : goal.invariant-loop-ask
invariant-loop-ask g l = l.answers.items ++ map (answer_in (version_text l.engine.version)) (drop l.ask-index l.asks) ≡ map (answer_in (version_text l.engine.version)) l.asks
