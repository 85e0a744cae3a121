use Rattle.collection.proofs.FrontLemmas.{inside-whole, puts-first}
use Rattle.collection.proofs.edits.with_first.Goals as goal

pub with_slot-requires-clause-range : goal.with_slot-requires-clause-range
with_slot-requires-clause-range c = inside-whole c.args.slot c.args.count c.args.last.now.slots c.requires.range

pub returns : goal.returns
returns c = puts-first c.args.last.now c.in_ok-version.version c.args.count c.args.slot c.in_ok-version.ensures.value c.in_ok-version.ensures.stands
