use Rattle.std.proofs.Common.{length, ap, ◌∙◌, arith}
use Rattle.std.specs.List.{concat}
use Rattle.std.proofs.lemmas.List.{length-append}
use Rattle.posting_code.specs.Packed.{packed_of}
use Rattle.posting_code.proofs.Shorts.{packed_length}
use Rattle.index_shard.proofs.KeptTables.{short_here}
use Rattle.index_shard.proofs.parts.put_short.Goals as goal

pub overflow_cast-result : goal.overflow_cast-result
overflow_cast-result c =
    let all = concat c.args.lists.now in
    let wide = ap length c.in_ok-put_joined.ensures.ok ∙ length-append c.args.packed.now.items (packed_of all) in
    let most = packed_length all in
    let few = c.requires.few in
    omega (arith, wide, most, few, c.len-at.ensures, c.len-end.ensures, c.args.packed.now.ok.0, c.put_joined.new.packed.ok.0)

pub returns-clause-kept : goal.returns-clause-kept
returns-clause-kept c =
    let all = concat c.args.lists.now in
    let wide = ap length c.in_ok-put_joined.ensures.ok ∙ length-append c.args.packed.now.items (packed_of all) in
    short_here all c.args.packed.now.items c.put_joined.new.packed.items _ _ _ _ _ c.requires.rising c.requires.few
    (omega (arith, c.len-at.ensures, c.args.packed.now.ok.0)) (omega (arith, wide, c.len-at.ensures, c.len-end.ensures, c.args.packed.now.ok.0, c.put_joined.new.packed.ok.0))
    c.requires.ends.count c.requires.ends.first c.requires.ends.last c.in_ok-put_joined.ensures.ok
