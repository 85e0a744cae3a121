use Rattle.std.proofs.Common.{refl, sym, ap, subst, take}
use Rattle.std.specs.List.{concat}
use Rattle.std.proofs.lemmas.List.{take_all}
use Rattle.index_shard.specs.Kept.{AreEndsOf}
use Rattle.posting_code.proofs.Steps.{concat_more, front_rises}
use Rattle.index_shard.proofs.PartEnds.{ends_none}
use Rattle.index_shard.proofs.parts.ends_of.Goals as goal

pub loop-list-init : goal.loop-list-init
loop-list-init c = ends_none _ refl refl refl

pub ends_behind-ends-requires : goal.ends_behind-ends-requires
ends_behind-ends-requires c = (
  concat (take c.loop-list.list-index c.args.lists.now),
  c.loop-list.invariant,
  front_rises c.args.lists.now c.loop-list.list-index c.list-item-in-loop-list.result c.loop-list-test.true c.list-item-in-loop-list.is c.requires,
)

pub loop-list-preserved : goal.loop-list-preserved
loop-list-preserved c =
    let i = c.loop-list.list-index in
    let rises = front_rises c.args.lists.now i c.list-item-in-loop-list.result c.loop-list-test.true c.list-item-in-loop-list.is c.requires in
    subst (AreEndsOf c.ends_behind-ends.result) (sym (concat_more c.args.lists.now i c.list-item-in-loop-list.result c.loop-list-test.true c.list-item-in-loop-list.is))
    (c.ends_behind-ends.ensures (concat (take i c.args.lists.now)) c.loop-list.invariant rises)

pub returns : goal.returns
returns c = subst (AreEndsOf c.loop-list.ends) (ap concat (take_all c.loop-list.list-index c.args.lists.now c.loop-list-test.false)) c.loop-list.invariant
