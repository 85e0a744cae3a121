use Rattle.std.proofs.Common.{◌≡◌, ◌+◌, ◌-◌, ap, ◌∙◌, arith}
use Rattle.shard_build.specs.Met.{filled}
use Rattle.shard_build.proofs.NameLists.{list_read}
use Rattle.shard_build.proofs.Noting.{from_filled, from_empty, none_there, some_there}
use Rattle.shard_build.proofs.order.note_by_number.Goals as goal

pub loop-number-preserved-then-len-gt0 : goal.loop-number-preserved-then-len-gt0
loop-number-preserved-then-len-gt0 c =
    let es = c.args.lists.now.items in
    let number = c.loop-number.number - 1 in
    let listed = list_read es number c.index.result.now c.index.ensures (omega (arith, c.loop-number-test.true, c.loop-number.invariant.bound)) in
    let full = ap filled listed ∙ some_there c.index.result.now.1 (omega (arith, c.len-in-loop-number.ensures, c.if-len-gt0.true)) in
    let follows : number + 1 ≡ c.loop-number.number = omega (arith, c.loop-number-test.true) in
    record {
      names = from_filled es number c.loop-number.number c.loop-number.seen.items c.push_reserved.new.self.items c.seen_at.result c.push_reserved.ensures.items c.seen_at.ensures.number follows full c.seen_at.ensures.noted c.loop-number.invariant.names;
      room = omega (arith, follows, c.push_reserved.ensures.len, c.push_reserved.ensures.capacity, c.loop-number.invariant.room);
      bound = omega (arith, follows, c.loop-number.invariant.bound);
    }

pub loop-number-preserved : goal.loop-number-preserved
loop-number-preserved c =
    let es = c.args.lists.now.items in
    let number = c.loop-number.number - 1 in
    let listed = list_read es number c.index.result.now c.index.ensures (omega (arith, c.loop-number-test.true, c.loop-number.invariant.bound)) in
    let none = ap filled listed ∙ none_there c.index.result.now.1 (omega (arith, c.len-in-loop-number.ensures, c.if-len-gt0.false)) in
    let follows : number + 1 ≡ c.loop-number.number = omega (arith, c.loop-number-test.true) in
    record {
      names = from_empty es number c.loop-number.number c.loop-number.seen.items follows none c.loop-number.invariant.names;
      room = omega (arith, follows, c.loop-number.invariant.room);
      bound = omega (arith, follows, c.loop-number.invariant.bound);
    }
