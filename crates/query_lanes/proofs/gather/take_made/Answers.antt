use Rattle.std.proofs.Common.{◌<◌, length, rules}
use Rattle.query_lanes.proofs.ListLemmas.{get_taken, get_untaken}
use Rattle.query_lanes.proofs.gather.take_made.Goals as goal

pub returns-clause-rest : goal.returns-clause-rest
returns-clause-rest c = λ i one got. get_untaken c.args.made.now.items c.args.k i c.take.new.self one c.take.ensures.after got

pub returns-clause-taken : goal.returns-clause-taken
returns-clause-taken c =
    let within : c.args.k < length c.args.made.now.items = search rules in
    get_taken c.args.made.now.items c.args.k c.index_mut.result.now c.take.result within c.index_mut.ensures.value c.take.ensures.value
