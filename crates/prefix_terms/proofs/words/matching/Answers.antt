use Rattle.std.proofs.Common.{ap, arith}
use Rattle.prefix_terms.specs.Runs.{run_costs}
use Rattle.prefix_terms.proofs.Costs.{version_within}
use Rattle.prefix_terms.proofs.words.matching.Goals as goal

pub returns-in_err-words-clause-cost : goal.returns-in_err-words-clause-cost
returns-in_err-words-clause-cost g c =
    let made = c.matching_in.ensures.cost in
    omega (arith, made, ap (run_costs c.args.prefix.now) c.slots.ensures.value, version_within c.args.version.now c.args.prefix.now c.slots.ensures.version)

pub returns-clause-cost : goal.returns-clause-cost
returns-clause-cost g c =
    let made = c.matching_in.ensures.cost in
    omega (arith, made, ap (run_costs c.args.prefix.now) c.slots.ensures.value, version_within c.args.version.now c.args.prefix.now c.slots.ensures.version)
