use Rattle.std.proofs.Common.{List, sym, ap, ◌∙◌, subst}
use mathlib.Core.List.{IsPrefix}
use Rattle.live_version.specs.Contents.{VersionContent, version_text}
use Rattle.manifest_publish.proofs.Prefixes.{prefix_self}
use Rattle.query_lanes.specs.Answers.{answer_by}
use Rattle.query_lanes.proofs.lane.make.Goals as goal

pub returns-clause-made : goal.returns-clause-made
returns-clause-made g c = record {
  history = c.in-Some.pass.history;
  version = c.version.result.now;
  ends = c.version.ensures;
  from = c.in-Some.ensures.from;
  seen = subst (λ (seen : List VersionContent). IsPrefix c.in-Some.pass.history seen) (sym c.in-Some.ensures.seen) (prefix_self c.in-Some.pass.history);
  number = c.number-number.ensures.value;
  found = c.in_ok-found.ensures c.version.result.now c.version.ensures.1 ∙ ap (λ query. answer_by c.args.ask.now.asked (version_text c.version.result.now) query) (sym c.in-Ok.is);
}
