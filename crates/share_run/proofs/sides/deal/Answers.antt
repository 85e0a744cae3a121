use Rattle.std.proofs.Common.{◌≡◌, Some, ap, arith}
use Rattle.share_run.specs.Sides.{SideContent}
use Rattle.share_run.proofs.SideLemmas.{one_dealt}
use Rattle.share_run.proofs.sides.deal.Goals as goal

pub loop-editor-preserved : goal.loop-editor-preserved
loop-editor-preserved g c =
    let i = c.loop-editor.invariant in
    let some : c.new-in-Some.result.editor ≡ Some c.in-Some.editor = ap (λ (s : SideContent). s.editor) c.new-in-Some.ensures in
    record {
      all = one_dealt c.loop-editor.editors.items c.pop.new.self.items c.in-Some.editor c.loop-editor.sides.items c.put-in-Some.new.list.items c.new-in-Some.result c.args.editors.now.items
          c.in-Some.ensures.items c.put-in-Some.ensures.items some i.all;
      room = omega (arith, i.room, c.put-in-Some.ensures.len, c.put-in-Some.ensures.capacity, c.in-Some.ensures.len);
      back = omega (arith, i.back, c.in-Some.ensures.capacity);
    }
