use Rattle.std.proofs.Common.{◌≡◌, ◌<◌, ◌++◌, ◌∷◌, [], length, sym, ap, ◌∙◌, subst, arith}
use Rattle.gcl_model.specs.Limits.{address_end}
use Rattle.gcl_model.specs.Slots.{AreRangesWithin}
use Rattle.delete_mask.specs.Parts.{ranges_in}
use Rattle.delete_mask.proofs.PartLemmas.{cut_off, more_inhabited, ranges_left, whole_of}
use Rattle.delete_mask.proofs.parts.put_cut.Goals as goal

pub part_of-requires-clause-apart : goal.part_of-requires-clause-apart
part_of-requires-clause-apart c =
    ranges_left 0 address_end c.split_at.result.0.now c.split_at.result.1.now
    (subst (AreRangesWithin 0 address_end) (sym (whole_of c.loop-rest.rest.now c.split_at.result.0.now c.split_at.result.1.now c.cut.result c.split_at.ensures.front c.split_at.ensures.back)) c.loop-rest.invariant.apart)

pub loop-rest-preserved : goal.loop-rest-preserved
loop-rest-preserved c =
    let front = c.split_at.result.0.now in
    let some : 0 < length front = omega (arith, c.cut.ensures.some, c.split_at.ensures.front_len) in
    let made : c.push.new.self.items ≡ c.loop-rest.into.items ++ front ∷ [] = c.in_ok-push.ensures.items ∙ ap (λ part. c.loop-rest.into.items ++ part ∷ []) c.in_ok-part_of.ensures in
    let parts =
    cut_off c.loop-rest.into.items c.push.new.self.items c.loop-rest.rest.now front c.split_at.result.1.now (ranges_in c.args.into.now.items ++ c.args.ranges.now) c.cut.result c.split_at.ensures.front c.split_at.ensures.back some made
    c.loop-rest.invariant.whole c.loop-rest.invariant.apart in
    record {
      whole = parts.0;
      inhabited = λ were. more_inhabited c.loop-rest.into.items c.push.new.self.items front made some (c.loop-rest.invariant.inhabited were);
      apart = parts.1;
    }
