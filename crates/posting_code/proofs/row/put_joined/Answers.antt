use Rattle.std.proofs.Common.{◌++◌, length, sym, ap, ◌∙◌, take}
use Rattle.std.specs.List.{concat}
use Rattle.std.proofs.Math.Seq.{take-append_seam}
use Rattle.std.proofs.lemmas.List.{take_all}
use Rattle.posting_code.specs.Joined.{last_in}
use Rattle.posting_code.specs.Packed.{packed_of}
use Rattle.posting_code.proofs.Steps.{concat_more, front_rises, no_ok, still_before}
use Rattle.posting_code.proofs.row.put_joined.Goals as goal

pub put_next-requires : goal.put_next-requires
put_next-requires c = (
  concat (take c.loop-list.list-index c.args.lists.now),
  c.loop-list.invariant.last,
  front_rises c.args.lists.now c.loop-list.list-index c.list-item-in-loop-list.result c.loop-list-test.true c.list-item-in-loop-list.is c.requires,
)

pub loop-list-preserved : goal.loop-list-preserved
loop-list-preserved c =
    let front = concat (take c.loop-list.list-index c.args.lists.now) in
    let more = sym (concat_more c.args.lists.now c.loop-list.list-index c.list-item-in-loop-list.result c.loop-list-test.true c.list-item-in-loop-list.is) in
    record {
      last = c.in_ok-last.ensures.last front c.loop-list.invariant.last ∙ ap last_in more;
      put = c.in_ok-last.ensures.put front c.args.packed.now.items c.loop-list.invariant.last c.loop-list.invariant.put ∙ ap (λ l. c.args.packed.now.items ++ packed_of l) more;
    }

pub returns-clause-ok : goal.returns-clause-ok
returns-clause-ok c = c.loop-list.invariant.put ∙ ap (λ l. c.args.packed.now.items ++ packed_of (concat l)) (take_all c.loop-list.list-index c.args.lists.now c.loop-list-test.false)

pub returns-in_err-last-clause-before : goal.returns-in_err-last-clause-before
returns-in_err-last-clause-before c =
    still_before c.args.packed.now.items (packed_of (concat (take c.loop-list.list-index c.args.lists.now))) c.loop-list.packed.items c.put_next.new.packed.items c.loop-list.invariant.put c.in_err-last.ensures.before

pub returns-in_err-extend_from_slice-clause-ok : goal.returns-in_err-extend_from_slice-clause-ok
returns-in_err-extend_from_slice-clause-ok c = no_ok _ c.from_residual.result _ c.from_residual.ensures.1

pub returns-in_err-last-clause-ok : goal.returns-in_err-last-clause-ok
returns-in_err-last-clause-ok c = no_ok _ c.from_residual-in_err-last.result _ c.from_residual-in_err-last.ensures.1

pub returns-in-len1-clause-before : goal.returns-in-len1-clause-before
returns-in-len1-clause-before c =
    ap (take (length c.args.packed.now.items)) c.in_ok-extend_from_slice.ensures.items ∙ take-append_seam c.args.packed.now.items c.packed.result.now

pub returns-clause-before : goal.returns-clause-before
returns-clause-before c =
    ap (take (length c.args.packed.now.items)) c.loop-list.invariant.put ∙ take-append_seam c.args.packed.now.items (packed_of (concat (take c.loop-list.list-index c.args.lists.now)))
