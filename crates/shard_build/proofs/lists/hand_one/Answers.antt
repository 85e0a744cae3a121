use Rattle.std.proofs.Common.{◌++◌, [], ◌∷◌, sym, ap, ◌∙◌, subst}
use Rattle.index_shard.specs.Tables.{TermEntry}
use Rattle.shard_build.specs.Handed.{ComesNext}
use Rattle.shard_build.proofs.Handing.{entry_taken}
use Rattle.shard_build.proofs.lists.hand_one.Goals as goal

pub push_list-requires : goal.push_list-requires
push_list-requires c =
    let is = entry_taken c.args.lists.now.items c.take_at.new.lists.items c.args.last c.name_at.result.now c.in_ok-addresses.addresses c.take_at.ensures.entries c.name_at.ensures c.in_ok-addresses.ensures.value in
    let next = subst (ComesNext c.args.maker.now.range c.args.maker.now.table) (sym is) c.requires.next in
    record { rising = next.before; postings = next.postings; apart = next.apart }

pub returns-then-len-gt-BLOCK-clause-ok : goal.returns-then-len-gt-BLOCK-clause-ok
returns-then-len-gt-BLOCK-clause-ok c =
    let is = entry_taken c.args.lists.now.items c.take_at.new.lists.items c.args.last c.name_at.result.now c.in_ok-addresses.addresses c.take_at.ensures.entries c.name_at.ensures c.in_ok-addresses.ensures.value in
    c.in_ok-push_list.ensures.ok ∙ ap (λ (e : TermEntry). record { range = c.args.maker.now.range; table = c.args.maker.now.table ++ e ∷ [] }) is
