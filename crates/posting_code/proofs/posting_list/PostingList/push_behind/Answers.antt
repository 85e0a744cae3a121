use Rattle.std.proofs.Common.{◌≡◌, ◌<◌, ◌^◌, ◌++◌, ◌∷◌, [], length, refl, ap, ◌∙◌, sym, subst, arith}
use Rattle.posting_code.specs.Blocks.{count_in, first_in, heads_in}
use Rattle.posting_code.specs.Packed.{IsKeptTo, kept, last_of}
use Rattle.posting_code.proofs.InRows.{on_err}
use Rattle.posting_code.proofs.Rising.{rise_last, rise_length}
use Rattle.posting_code.proofs.Steps.{no_ok}
use Rattle.posting_code.proofs.Packed.{first_put, grown_list, next_kept, is_grown, blocks_list, blocks_kept_to}
use Rattle.posting_code.proofs.posting_list.PostingList.push_behind.Goals as goal

pub overflow_sub-address : goal.overflow_sub-address
overflow_sub-address c =
    let counted = c.self.invariant.parts.counted in
    let some : 0 < length c.args.self.now = let e = ap length c.self.view_is in omega (arith, counted, e) in
    let above = rise_last 0 (2 ^ 56) c.args.self.now c.args.address c.requires some in
    let low = above.0 in
    let last = c.self.invariant.end ∙ ap last_of c.self.view_is in
    omega (arith, low, last)

pub put_number-requires : goal.put_number-requires
put_number-requires c =
    let counted = c.self.invariant.parts.counted in
    let some : 0 < length c.args.self.now = let e = ap length c.self.view_is in omega (arith, counted, e) in
    let above = rise_last 0 (2 ^ 56) c.args.self.now c.args.address c.requires some in
    let high = above.1 in
    omega (arith, high)

pub push-requires-clause-small : goal.push-requires-clause-small
push-requires-clause-small c =
    let counted = c.self.invariant.parts.counted in
    let short = rise_length 0 (2 ^ 56) _ c.self.invariant.parts.rising in
    omega (arith, counted, short)

pub invariant_of-self-in-Ok : goal.invariant_of-self-in-Ok
invariant_of-self-in-Ok c =
    let end : c.len-at.result ≡ length c.put_number.new.out.items = omega (arith, c.len-at.ensures, c.put_number.new.out.ok.0) in
    let grown = is_grown _ _ _ _ _ _ _ (omega arith) c.self.view_is (c.self.invariant.end ∙ ap last_of c.self.view_is) c.requires c.in_ok-put_number.ensures.ok in
    blocks_kept_to _ _ _ _ _ _ c.in-Ok.ensures.ok (next_kept _ _ _ _ _ _ _ _ _ _ c.self.invariant.parts grown refl refl end refl)

pub returns-in-Ok-clause-ok : goal.returns-in-Ok-clause-ok
returns-in-Ok-clause-ok c =
    let grown = is_grown _ _ _ _ _ _ _ (omega arith) c.self.view_is (c.self.invariant.end ∙ ap last_of c.self.view_is) c.requires c.in_ok-put_number.ensures.ok in
    blocks_list _ _ _ _ _ c.in-Ok.ensures.ok ∙ (grown_list _ _ _ _ _ _ _ _ c.self.invariant.parts grown refl).0 ∙ ap (λ xs. xs ++ c.args.address ∷ []) c.self.view_is

pub returns-in_err-put_number-clause-ok : goal.returns-in_err-put_number-clause-ok
returns-in_err-put_number-clause-ok c = no_ok _ c.from_residual.result _ c.from_residual.ensures.1

pub push-requires-clause-marked : goal.push-requires-clause-marked
push-requires-clause-marked c = c.self.invariant.parts.marked

pub invariant_of-self : goal.invariant_of-self
invariant_of-self c =
    let blocks = c.self.inside.blocks in
    (first_put c.args.self.now (count_in blocks) (first_in blocks) c.args.address c.self.inside.packed.items (heads_in blocks) c.self.view_is c.self.invariant.parts (sym c.count.ensures ∙ c.if-count-eq0.true) c.requires).1

pub returns-then-count-eq0-clause-ok : goal.returns-then-count-eq0-clause-ok
returns-then-count-eq0-clause-ok c =
    let blocks = c.self.inside.blocks in
    (first_put c.args.self.now (count_in blocks) (first_in blocks) c.args.address c.self.inside.packed.items (heads_in blocks) c.self.view_is c.self.invariant.parts (sym c.count.ensures ∙ c.if-count-eq0.true) c.requires).0

pub invariant_of-self-in_err-put_number : goal.invariant_of-self-in_err-put_number
invariant_of-self-in_err-put_number c =
    let blocks = c.self.inside.blocks in
    subst (λ bytes. IsKeptTo c.self.inside.last (count_in blocks) (first_in blocks) bytes (heads_in blocks)) (sym c.in_err-put_number.ensures.err) c.self.invariant

pub returns-in_err-put_number-clause-err : goal.returns-in_err-put_number-clause-err
returns-in_err-put_number-clause-err c =
    let blocks = c.self.inside.blocks in
    on_err _ c.from_residual.result (ap (λ bytes. kept (count_in blocks) (first_in blocks) bytes) c.in_err-put_number.ensures.err ∙ c.self.view_is)
