use Rattle.std.proofs.Common.{◌++◌, ◌^◌, drop, length, length-append, take, sym, ap, ◌∙◌, subst, arith}
use Rattle.std.proofs.Math.Seq.{take-append_seam}
use Rattle.std.proofs.lemmas.List.{take_all}
use Rattle.std.specs.List.{concat}
use Rattle.posting_code.specs.Joined.{last_in}
use Rattle.posting_code.specs.Packed.{packed_of}
use Rattle.posting_code.specs.Rows.{HasHeads}
use Rattle.posting_code.proofs.Rising.{rise_length}
use Rattle.posting_code.proofs.Steps.{concat_more, front_rises, no_ok, still_before}
use Rattle.posting_code.proofs.InRows.{no_shorter, packed_within, still_begins}
use Rattle.posting_code.proofs.rows.put_lists.Goals as goal

pub put_next-requires : goal.put_next-requires
put_next-requires c = (
  concat (take c.loop-list.list-index c.args.lists.now),
  c.loop-list.invariant.last,
  front_rises c.args.lists.now c.loop-list.list-index c.list-item.result c.loop-list-test.true c.list-item.is c.requires,
)

pub returns-in_err-last-clause-packed_before : goal.returns-in_err-last-clause-packed_before
returns-in_err-last-clause-packed_before c =
    still_before c.args.packed.now.items _ c.loop-list.packed.items c.put_next.new.packed.items c.loop-list.invariant.put c.in_err-last.ensures.before

pub overflow_sub-shift-in-loop-list : goal.overflow_sub-shift-in-loop-list
overflow_sub-shift-in-loop-list c =
    let front = concat (take c.loop-list.list-index c.args.lists.now) in
    let put = c.in_ok-last.ensures.put front c.args.packed.now.items c.loop-list.invariant.last c.loop-list.invariant.put in
    let long = ap length put ∙ length-append c.args.packed.now.items (packed_of (front ++ c.list-item.result)) in
    let within = packed_within front c.list-item.result in
    omega (arith, long, within, c.len.ensures, c.len-start.ensures, c.packed_len.ensures)

pub put_heads-requires : goal.put_heads-requires
put_heads-requires c =
    let front = concat (take c.loop-list.list-index c.args.lists.now) in
    let put = c.in_ok-last.ensures.put front c.args.packed.now.items c.loop-list.invariant.last c.loop-list.invariant.put in
    let long = ap length put ∙ length-append c.args.packed.now.items (packed_of (front ++ c.list-item.result)) in
    let within = packed_within front c.list-item.result in (
      front,
      record {
        rising = front_rises c.args.lists.now c.loop-list.list-index c.list-item.result c.loop-list-test.true c.list-item.is c.requires;
        counted = c.loop-list.invariant.count;
        shifted = omega (arith, long, within, c.len.ensures, c.len-start.ensures, c.packed_len.ensures);
      },
    )

pub overflow_add-count : goal.overflow_add-count
overflow_add-count c =
    let front = concat (take c.loop-list.list-index c.args.lists.now) in
    let few = rise_length 0 (2 ^ 56) (front ++ c.list-item.result) (front_rises c.args.lists.now c.loop-list.list-index c.list-item.result c.loop-list-test.true c.list-item.is c.requires) in
    let long = length-append front c.list-item.result in
    let count = c.loop-list.invariant.count in
    omega (arith, few, long, count, c.len-count.ensures.value)

pub loop-list-preserved : goal.loop-list-preserved
loop-list-preserved c =
    let old = c.args.packed.now.items in
    let heads = c.args.heads.now.items in
    let front = concat (take c.loop-list.list-index c.args.lists.now) in
    let more = sym (concat_more c.args.lists.now c.loop-list.list-index c.list-item.result c.loop-list-test.true c.list-item.is) in
    let put = c.in_ok-last.ensures.put front old c.loop-list.invariant.last c.loop-list.invariant.put in
    let long = ap length put ∙ length-append old (packed_of (front ++ c.list-item.result)) in
    let within = packed_within front c.list-item.result in
    let size = length-append front c.list-item.result in
    let same = ap length more in
    let count = c.loop-list.invariant.count in
    record {
      last = c.in_ok-last.ensures.last front c.loop-list.invariant.last ∙ ap last_in more;
      count = omega (arith, size, same, count, c.len-count.ensures.value);
      put = put ∙ ap (λ l. old ++ packed_of l) more;
      marks = subst (λ l. HasHeads l (drop (length heads) c.put_heads.new.heads.items)) more
          (c.in_ok-put_heads.ensures.heads front (length heads)
          record {
            rising = front_rises c.args.lists.now c.loop-list.list-index c.list-item.result c.loop-list-test.true c.list-item.is c.requires;
            counted = c.loop-list.invariant.count;
            shifted = omega (arith, long, within, c.len.ensures, c.len-start.ensures, c.packed_len.ensures);
          }
          (no_shorter heads c.loop-list.heads.items c.loop-list.invariant.begins) c.loop-list.invariant.marks);
      begins = still_begins heads c.loop-list.heads.items c.put_heads.new.heads.items c.loop-list.invariant.begins c.in_ok-put_heads.ensures.before;
    }

-- what was put before stays there
pub returns-in_err-put_heads-clause-packed_before : goal.returns-in_err-put_heads-clause-packed_before
returns-in_err-put_heads-clause-packed_before c =
    let front = concat (take c.loop-list.list-index c.args.lists.now) in
    let put = c.in_ok-last.ensures.put front c.args.packed.now.items c.loop-list.invariant.last c.loop-list.invariant.put in
    ap (take (length c.args.packed.now.items)) put ∙ take-append_seam c.args.packed.now.items (packed_of (front ++ c.list-item.result))

pub returns-in_err-put_heads-clause-heads_before : goal.returns-in_err-put_heads-clause-heads_before
returns-in_err-put_heads-clause-heads_before c =
    still_begins c.args.heads.now.items c.loop-list.heads.items c.put_heads.new.heads.items c.loop-list.invariant.begins c.in_err-put_heads.ensures.before

pub returns-clause-packed_before : goal.returns-clause-packed_before
returns-clause-packed_before c =
    ap (take (length c.args.packed.now.items)) c.loop-list.invariant.put ∙ take-append_seam c.args.packed.now.items (packed_of (concat (take c.loop-list.list-index c.args.lists.now)))

pub returns-in_err-last-clause-packed : goal.returns-in_err-last-clause-packed
returns-in_err-last-clause-packed c = no_ok _ c.from_residual.result _ c.from_residual.ensures.1

pub returns-in_err-last-clause-heads : goal.returns-in_err-last-clause-heads
returns-in_err-last-clause-heads c = no_ok _ c.from_residual.result _ c.from_residual.ensures.1

pub returns-in_err-last-clause-heads_before : goal.returns-in_err-last-clause-heads_before
returns-in_err-last-clause-heads_before c = c.loop-list.invariant.begins

pub returns-in_err-put_heads-clause-packed : goal.returns-in_err-put_heads-clause-packed
returns-in_err-put_heads-clause-packed c = no_ok _ c.from_residual-in_err-put_heads.result _ c.from_residual-in_err-put_heads.ensures.1

pub returns-in_err-put_heads-clause-heads : goal.returns-in_err-put_heads-clause-heads
returns-in_err-put_heads-clause-heads c = no_ok _ c.from_residual-in_err-put_heads.result _ c.from_residual-in_err-put_heads.ensures.1

pub overflow_sub-shift : goal.overflow_sub-shift
overflow_sub-shift c =
    let front = concat (take c.loop-list.list-index c.args.lists.now) in
    let put = c.in_ok-last.ensures.put front c.args.packed.now.items c.loop-list.invariant.last c.loop-list.invariant.put in
    let long = ap length put ∙ length-append c.args.packed.now.items (packed_of (front ++ c.list-item.result)) in
    omega (arith, long, c.len.ensures, c.len-start.ensures)

pub returns-clause-packed : goal.returns-clause-packed
returns-clause-packed c =
    c.loop-list.invariant.put ∙ ap (λ ls. c.args.packed.now.items ++ packed_of (concat ls)) (take_all c.loop-list.list-index c.args.lists.now c.loop-list-test.false)

pub returns-clause-heads : goal.returns-clause-heads
returns-clause-heads c =
    subst (λ ls. HasHeads (concat ls) (drop (length c.args.heads.now.items) c.loop-list.heads.items)) (take_all c.loop-list.list-index c.args.lists.now c.loop-list-test.false) c.loop-list.invariant.marks

pub returns-clause-heads_before : goal.returns-clause-heads_before
returns-clause-heads_before c = c.loop-list.invariant.begins
