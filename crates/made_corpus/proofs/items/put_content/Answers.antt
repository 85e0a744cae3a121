use Rattle.std.proofs.Common.{◌+◌, ◌-◌, ap, subst, arith}
use Rattle.made_corpus.specs.MadeFiles.{item_from, HasDrawn}
use Rattle.made_corpus.proofs.ItemLemmas.{content-begun, content-step, content-done}
use Rattle.made_corpus.proofs.items.put_content.Goals as goal

pub loop-i-init : goal.loop-i-init
loop-i-init c =
    content-begun c.args.state c.draw-later.new.self.state _ (19 + c.draw-later.result) (19 + c.draw-later.result - 0) c.args.out.now.items _
    (ap (λ more. 19 + more) c.draw-later.ensures.value) (omega arith) c.draw-later.ensures.state
    (subst (λ out. HasDrawn (item_from c.draw-later.new.self.state) out c.put_item.new.out.items c.put_item.new.draws.state) c.reserve.ensures.items c.in_ok-put_item.ensures)

pub loop-i-preserved : goal.loop-i-preserved
loop-i-preserved c =
    let later = 19 + c.draw-later.result in
    content-step (later - c.loop-i._i) (later - (c.loop-i._i + 1)) c.loop-i.draws.state _ c.loop-i.out.items _ _ _ (omega arith) c.in_ok-put_text.ensures c.in_ok-put_item-2.ensures c.loop-i.invariant

pub returns : goal.returns
returns c = content-done (19 + c.draw-later.result - c.loop-i._i) c.loop-i.draws.state c.loop-i.out.items _ (omega arith) c.loop-i.invariant
