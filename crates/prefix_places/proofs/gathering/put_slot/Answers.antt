use Rattle.std.proofs.Common.{sym, subst, ◌∙◌}
use Rattle.posting_code.specs.Postings.{ArePostings}
use Rattle.prefix_places.proofs.Rows.{put_slot}
use Rattle.prefix_places.proofs.gathering.put_slot.Goals as goal

pub put_live-requires : goal.put_live-requires
put_live-requires c = subst ArePostings (sym c.as_slice.ensures.value) c.in_ok-all.ensures.rising

pub returns : goal.returns
returns c =
    put_slot c.args.slot.now c.shard.result.now c.mask.result.now c.args.prefix.now c.as_slice.result.now c.args.places.now.items c.put_live.new.places.items c.shard.ensures.value c.mask.ensures.value
    (c.as_slice.ensures.value ∙ c.in_ok-all.ensures.places) c.in_ok-put_live.ensures
