use Rattle.std.proofs.Common.{◌≡◌, ◌+◌, ◌++◌, length, drop, arith}
use Rattle.gcl_model.specs.FormOf.{form_of}
use Rattle.gcl_model.proofs.Lists.{drop_here}
use Rattle.gcl_eval.specs.Operands.{operand_forms}
use Rattle.gcl_readers.specs.NewPlaces.{place_before, new_places_of}
use Rattle.gcl_readers.proofs.NewStands.{put_right, put_more}
use Rattle.gcl_readers.proofs.places.+putting.Goals as goal

pub put_places-returns : goal.put_places-returns
put_places-returns t c =
    let from : c.len-at.result ≡ length c.args.places.now.items = omega (arith, c.len-at.ensures, c.args.places.now.ok.0) in
    let to : c.len.result ≡ length c.put_below.new.places.items = omega (arith, c.len.ensures, c.put_below.new.places.ok.0) in
    put_right c.args.places.now.items c.push.new.self.items c.put_below.new.places.items (form_of c.args.expr.now) (place_before 1) c.len-at.result c.len.result c.in_ok-push.ensures.items c.in_ok-put_below.ensures from to

pub put_all-loop-operand-preserved : goal.put_all-loop-operand-preserved
put_all-loop-operand-preserved t c =
    put_more c.loop-operand.places.items c.put_places.new.places.items (c.args.places.now.items ++ new_places_of (operand_forms c.args.operands.now)) (drop c.loop-operand.operand-index c.args.operands.now) (drop (c.loop-operand.operand-index + 1) c.args.operands.now)
    c.operand-item.result (drop_here c.args.operands.now c.loop-operand.operand-index c.operand-item.result c.loop-operand-test.true c.operand-item.is) c.in_ok-put_places.ensures c.loop-operand.invariant
