use Rattle.std.proofs.Common.{arith}
use Rattle.std.specs.List.{concat}
use Rattle.posting_code.proofs.InRows.{on_err, put_pushed, unchanged}
use Rattle.posting_code.proofs.rows.PostingRows.push_joined.Goals as goal

pub invariant_of-self : goal.invariant_of-self
invariant_of-self c =
    let i = c.self.inside in
    (unchanged i.packed.items c.put_lists.new.packed.items i.heads.items c.put_lists.new.heads.items i.lists.items c.args.self.now c.self.view_is c.self.invariant c.in_err-put_lists.ensures.packed_before c.in_err-put_lists.ensures.heads_before).0

pub returns-in_err-put_lists-clause-err : goal.returns-in_err-put_lists-clause-err
returns-in_err-put_lists-clause-err c =
    let i = c.self.inside in
    on_err _ c.from_residual.result
    (unchanged i.packed.items c.put_lists.new.packed.items i.heads.items c.put_lists.new.heads.items i.lists.items c.args.self.now c.self.view_is c.self.invariant c.in_err-put_lists.ensures.packed_before c.in_err-put_lists.ensures.heads_before).1

pub invariant_of-self-in_err-push : goal.invariant_of-self-in_err-push
invariant_of-self-in_err-push c =
    let i = c.self.inside in
    rw c.in_err-push.ensures.items
    (unchanged i.packed.items c.put_lists.new.packed.items i.heads.items c.put_lists.new.heads.items i.lists.items c.args.self.now c.self.view_is c.self.invariant c.in_ok-put_lists.ensures.packed_before c.in_ok-put_lists.ensures.heads_before).0

pub returns-in_err-push-clause-err : goal.returns-in_err-push-clause-err
returns-in_err-push-clause-err c =
    let i = c.self.inside in
    on_err _ c.from_residual-in_err-push.result
    (rw c.in_err-push.ensures.items
    (unchanged i.packed.items c.put_lists.new.packed.items i.heads.items c.put_lists.new.heads.items i.lists.items c.args.self.now c.self.view_is c.self.invariant c.in_ok-put_lists.ensures.packed_before c.in_ok-put_lists.ensures.heads_before).1)

pub invariant_of-self-2 : goal.invariant_of-self-2
invariant_of-self-2 c =
    let i = c.self.inside in
    (put_pushed (concat c.args.lists.now) i.packed.items c.put_lists.new.packed.items i.heads.items c.put_lists.new.heads.items _ i.lists.items c.push.new.self.items c.args.self.now c.self.view_is c.self.invariant c.requires.rising
    record {
      first = c.requires.first;
      last = c.requires.last;
      count = c.requires.count;
      start = omega (arith, c.len-start.ensures, i.packed.ok.0);
      end = omega (arith, c.len.ensures, c.put_lists.new.packed.ok.0);
      heads_start = omega (arith, c.len-heads_start.ensures, i.heads.ok.0);
      heads_end = omega (arith, c.len-2.ensures, c.put_lists.new.heads.ok.0);
      bytes = c.in_ok-put_lists.ensures.packed;
      begins = c.in_ok-put_lists.ensures.heads_before;
      marks = c.in_ok-put_lists.ensures.heads;
    } c.in_ok-push.ensures.items).0

pub returns-clause-ok : goal.returns-clause-ok
returns-clause-ok c =
    let i = c.self.inside in
    (put_pushed (concat c.args.lists.now) i.packed.items c.put_lists.new.packed.items i.heads.items c.put_lists.new.heads.items _ i.lists.items c.push.new.self.items c.args.self.now c.self.view_is c.self.invariant c.requires.rising
    record {
      first = c.requires.first;
      last = c.requires.last;
      count = c.requires.count;
      start = omega (arith, c.len-start.ensures, i.packed.ok.0);
      end = omega (arith, c.len.ensures, c.put_lists.new.packed.ok.0);
      heads_start = omega (arith, c.len-heads_start.ensures, i.heads.ok.0);
      heads_end = omega (arith, c.len-2.ensures, c.put_lists.new.heads.ok.0);
      bytes = c.in_ok-put_lists.ensures.packed;
      begins = c.in_ok-put_lists.ensures.heads_before;
      marks = c.in_ok-put_lists.ensures.heads;
    } c.in_ok-push.ensures.items).1
