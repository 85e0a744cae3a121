use Rattle.std.proofs.Common.{◌-◌, ◌^◌, ◌≤◌, length, sym, subst, arith}
use Rattle.posting_code.proofs.Rising.{rise_length}
use Rattle.posting_access.specs.Search.{count_below}
use Rattle.posting_access.proofs.Searches.{IsNear}
use Rattle.posting_access.proofs.Ranks.{few_below, rank_first, rank_near}
use Rattle.posting_access.proofs.search.rank.Goals as goal

pub returns-then-near-eq0-clause-value : goal.returns-then-near-eq0-clause-value
returns-then-near-eq0-clause-value g c =
    let e = c.blocks_up_to-near.ensures in
    let near : IsNear c.args.list.now c.args.k c.blocks_up_to-near.result = record { rising = e.rising; within = e.within; before = e.before; after = e.after } in
    sym (rank_first _ _ (subst (IsNear c.args.list.now c.args.k) c.if-near-eq0.true near))

pub overflow_mul-result : goal.overflow_mul-result
overflow_mul-result g c =
    let e = c.blocks_up_to-near.ensures in
    let within = e.within in
    let few = rise_length 0 (2 ^ 56) _ e.rising in
    omega (arith, within, few)

pub overflow_add-result : goal.overflow_add-result
overflow_add-result g c =
    let e = c.blocks_up_to-near.ensures in
    let near : IsNear c.args.list.now c.args.k c.blocks_up_to-near.result = record { rising = e.rising; within = e.within; before = e.before; after = e.after } in
    let few = rise_length 0 (2 ^ 56) _ e.rising in
    let all = rank_near _ _ (c.blocks_up_to-near.result - 1) _ near (omega arith) in
    let most : count_below c.args.list.now c.args.k ≤ length c.args.list.now = few_below c.args.list.now c.args.k in
    let part = c.rank_in_block.ensures in
    omega (arith, few, all, most, part)

pub returns-clause-value : goal.returns-clause-value
returns-clause-value g c =
    let e = c.blocks_up_to-near.ensures in
    let near : IsNear c.args.list.now c.args.k c.blocks_up_to-near.result = record { rising = e.rising; within = e.within; before = e.before; after = e.after } in
    let all = rank_near _ _ (c.blocks_up_to-near.result - 1) _ near (omega arith) in
    let part = c.rank_in_block.ensures in
    omega (arith, all, part)
