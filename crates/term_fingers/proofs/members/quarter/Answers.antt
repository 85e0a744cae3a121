use Rattle.term_fingers.proofs.Nearest.{quarter_ends}
use Rattle.term_fingers.proofs.members.quarter.Goals as goal

pub returns-clause-within : goal.returns-clause-within
returns-clause-within c =
    (quarter_ends c.args.members.now c.args.k c.args.from c.args.size c.size_below.result c.size_below-2.result c.size_below-3.result c.requires.rising c.requires.some c.requires.within c.requires.ends
    c.size_below.ensures c.size_below-2.ensures c.size_below-3.ensures).0

pub returns-clause-ends : goal.returns-clause-ends
returns-clause-ends c =
    (quarter_ends c.args.members.now c.args.k c.args.from c.args.size c.size_below.result c.size_below-2.result c.size_below-3.result c.requires.rising c.requires.some c.requires.within c.requires.ends
    c.size_below.ensures c.size_below-2.ensures c.size_below-3.ensures).1
