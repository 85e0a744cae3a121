use Rattle.std.proofs.Common.{◌<◌, ◌^◌, ◌++◌, length, take, IfSome, Some, sym, ap, subst, ◌∙◌, arith}
use Rattle.std.proofs.lemmas.List.{take_all}
use Rattle.posting_code.specs.Joined.{last_in}
use Rattle.posting_code.specs.Packed.{packed_of}
use Rattle.posting_code.proofs.Steps.{begins_with, first_above, first_small, last_more, no_value, nothing_more, put_more}
use Rattle.posting_code.proofs.row.put_next.Goals as goal

pub put_step-requires : goal.put_step-requires
put_step-requires c =
    let some : 0 < length c.args.list.now = omega (arith, c.if-count-eq0.false, c.len-count.ensures.value) in
    let is = c.first-first.ensures some in
    record {
      above = subst (λ f. IfSome c.args.last (λ l. l < f)) (sym is) (first_above c.requires.0 c.args.list.now c.args.last c.requires.1 c.requires.2 some);
      small = subst (λ f. f < 2 ^ 56) (sym is) (first_small c.requires.0 c.args.list.now c.requires.2 some);
    }

pub returns-clause-last : goal.returns-clause-last
returns-clause-last c front is =
    let some : 0 < length c.args.list.now = omega (arith, c.if-count-eq0.false, c.len-count.ensures.value) in
    ap Some c.last.ensures ∙ last_more front c.args.list.now some

pub returns-clause-put : goal.returns-clause-put
returns-clause-put c front base last_is put =
    let some : 0 < length c.args.list.now = omega (arith, c.if-count-eq0.false, c.len-count.ensures.value) in
    put_more front c.args.list.now base c.args.packed.now.items c.put_step.new.packed.items c.extend_from_slice.new.self.items c.packed.result.now c.args.last c.first-first.result
    some last_is (c.first-first.ensures some) put c.in_ok-put_step.ensures.ok c.packed.ensures c.in_ok-extend_from_slice.ensures.items

pub returns-then-count-eq0-clause-last : goal.returns-then-count-eq0-clause-last
returns-then-count-eq0-clause-last c front is =
    is ∙ ap last_in (nothing_more front c.args.list.now (omega (arith, c.if-count-eq0.true, c.len-count.ensures.value)))

pub returns-then-count-eq0-clause-put : goal.returns-then-count-eq0-clause-put
returns-then-count-eq0-clause-put c front base last_is put =
    put ∙ ap (λ l. base ++ packed_of l) (nothing_more front c.args.list.now (omega (arith, c.if-count-eq0.true, c.len-count.ensures.value)))

pub returns-in_err-put_step-clause-last : goal.returns-in_err-put_step-clause-last
returns-in_err-put_step-clause-last c front is = no_value _ c.from_residual.result _ c.from_residual.ensures.1

pub returns-in_err-put_step-clause-put : goal.returns-in_err-put_step-clause-put
returns-in_err-put_step-clause-put c front base last_is put = no_value _ c.from_residual.result _ c.from_residual.ensures.1

pub returns-in_err-put_step-clause-before : goal.returns-in_err-put_step-clause-before
returns-in_err-put_step-clause-before c =
    ap (take (length c.args.packed.now.items)) c.in_err-put_step.ensures.err ∙ take_all (length c.args.packed.now.items) c.args.packed.now.items (omega arith)

pub returns-clause-before : goal.returns-clause-before
returns-clause-before c =
    begins_with c.args.packed.now.items _ c.put_step.new.packed.items c.packed.result.now c.extend_from_slice.new.self.items c.in_ok-put_step.ensures.ok c.in_ok-extend_from_slice.ensures.items

pub returns-in_err-extend_from_slice-clause-put : goal.returns-in_err-extend_from_slice-clause-put
returns-in_err-extend_from_slice-clause-put c front base last_is put = no_value _ c.from_residual-in_err-extend_from_slice.result _ c.from_residual-in_err-extend_from_slice.ensures.1
