use Rattle.std.proofs.Common.{◌+◌, sym, ap}
use Rattle.live_version.specs.Contents.{version_text}
use Rattle.live_version.proofs.WordLemmas.{version_is_text}
use Rattle.reader_pass.proofs.TreeSums.{one_seen}
use Rattle.reader_pass.proofs.counted.term_sum.Goals as goal

pub returns-in-Less : goal.returns-in-Less
returns-in-Less c = λ seen old.
    let found = c.count_of_term-places in
    one_seen (version_text c.args.version.now) seen c.args.count c.args.last.now c.args.token.now (c.args.count + found.result) (version_is_text c.args.version.now found.ensures.version) old (sym c.in-Less.ensures)
    (ap (λ places. c.args.count + places) found.ensures.places)
