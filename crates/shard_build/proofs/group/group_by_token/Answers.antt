use Rattle.std.proofs.Common.{◌≡◌, ◌+◌, ◌-◌, [], ◌∷◌, length, sym, ap, ◌∙◌, subst, arith}
use Rattle.std.specs.Option.{IfSome}
use Rattle.std.proofs.lemmas.List.{length-append}
use Rattle.gcl_model.specs.Collections.{file_end as end_token}
use Rattle.posting_code.specs.Postings.{RiseWithin}
use Rattle.shard_build.specs.Met.{addresses_of}
use Rattle.shard_build.proofs.Grouping.{first_group, next_group, behind_groups, end_of_groups, last_group}
use Rattle.shard_build.proofs.group.group_by_token.Goals as goal

pub put-requires-clause-behind : goal.put-requires-clause-behind
put-requires-clause-behind g c = subst (λ o. IfSome o (λ list. RiseWithin 0 c.args.base list)) (sym (c.requires.none c.file_start.result.now)) tt

pub loop-token-init : goal.loop-token-init
loop-token-init g c =
    first_group c.args.base (g.S.TokenSource.left c.args.source.now) (λ cs. addresses_of c.args.names.now cs) (λ cs. addresses_of c.put.new.self cs)
    c.file_start.result.now c.file_start.ensures c.requires.none c.in_ok-put.ensures.lists

pub overflow_add-address : goal.overflow_add-address
overflow_add-address g c =
    let end = end_of_groups _ _ _ _ _ c.loop-token.invariant in
    omega (arith, end, c.requires.room)

pub put-requires-in-loop-token : goal.put-requires-in-loop-token
put-requires-in-loop-token g c =
    let end = end_of_groups _ _ _ _ _ c.loop-token.invariant in
    let some = ap length (c.in_ok-next.ensures.some c.if-branch.true) in
    record {
      bounded = omega (arith, end, some, c.requires.room);
      behind = behind_groups _ _ _ c.deref.result.now _ _ c.loop-token.invariant;
    }

pub loop-token-smaller : goal.loop-token-smaller
loop-token-smaller g c = let some = ap length (c.in_ok-next.ensures.some c.if-branch.true) in omega (arith, some)

pub loop-token-preserved : goal.loop-token-preserved
loop-token-preserved g c = next_group _ _ _ (g.S.TokenSource.left c.next.new.self) c.deref.result.now _ _ _ c.loop-token.invariant
    (c.in_ok-next.ensures.some c.if-branch.true ∙ ap (λ t. t ∷ g.S.TokenSource.left c.next.new.self) (sym c.deref.ensures.value)) c.in_ok-put-2.ensures.lists

pub overflow_add-last : goal.overflow_add-last
overflow_add-last g c =
    let end = end_of_groups _ _ _ _ _ c.loop-token.invariant in
    omega (arith, end, c.requires.room)

pub put-requires-2 : goal.put-requires-2
put-requires-2 g c =
    let end = end_of_groups _ _ _ _ _ c.loop-token.invariant in
    record {
      bounded = omega (arith, end, c.requires.room);
      behind = behind_groups _ _ _ c.file_end.result.now _ _ c.loop-token.invariant;
    }

pub invariant_of-result : goal.invariant_of-result
invariant_of-result g c =
    let end = end_of_groups _ _ _ _ _ c.loop-token.invariant in
    let none = ap length (c.in_ok-next.ensures.none c.if-branch.false) in
    (omega (arith, end, none), omega (arith, end, none, c.requires.room))

pub returns-clause-tokens : goal.returns-clause-tokens
returns-clause-tokens g c =
    let tokens = g.S.TokenSource.left c.args.source.now in
    let width = length-append tokens (end_token ∷ []) in
    let end = end_of_groups _ _ _ _ _ c.loop-token.invariant in
    let none = ap length (c.in_ok-next.ensures.none c.if-branch.false) in
    record {
      width = omega (arith, width, end, none);
      some = omega (arith, end, none);
      lists =
          last_group c.args.base tokens _ c.loop-token.address _ (λ cs. addresses_of c.put-2.new.self cs) c.file_end.result.now c.loop-token.invariant
          (c.in_ok-next.ensures.none c.if-branch.false) c.file_end.ensures c.in_ok-put-3.ensures.lists;
    }

pub returns-clause-range : goal.returns-clause-range
returns-clause-range g c =
    let end = end_of_groups _ _ _ _ _ c.loop-token.invariant in
    let none = ap length (c.in_ok-next.ensures.none c.if-branch.false) in
    let last : c.loop-token.address + 1 ≡ c.args.base + (length (g.S.TokenSource.left c.args.source.now) + 2) - 1 = omega (arith, end, none) in
    ap (λ l. record { first = c.args.base; last = l }) last
