use Rattle.std.proofs.Common.{[], ap, ◌∙◌}
use Rattle.std.specs.Map.{keys_of}
use Rattle.index_shard.specs.Tables.{ShardContent}
use Rattle.shard_build.specs.Groups.{table_of}
use Rattle.shard_build.specs.Handed.{entry_at}
use Rattle.shard_build.specs.Met.{names_of, rows_of}
use Rattle.shard_build.proofs.NameLists.{keys_set}
use Rattle.shard_build.proofs.SeenNames.{last_noted, last_within, names_less}
use Rattle.shard_build.proofs.Handing.{row_comes, row_fits, row_made}
use Rattle.shard_build.proofs.lists.hand_over.Goals as goal

pub hand_one-requires : goal.hand_one-requires
hand_one-requires c =
    let es = c.loop-last.lists.items in
    let seen = c.pop.new.self.items in
    let all = c.loop-last.seen.items in
    let whole = table_of (rows_of (names_of c.args.lists.now.items c.args.seen.now.items)) in
    record {
      within = last_within es seen all c.in-Some.last c.in-Some.ensures.items c.loop-last.invariant.names;
      noted = last_noted es seen all c.in-Some.last c.in-Some.ensures.items c.loop-last.invariant.names;
      next = row_fits c.args.maker.now.range c.loop-last.maker.range es seen all c.in-Some.last c.loop-last.maker.table whole c.in-Some.ensures.items c.loop-last.invariant.names c.loop-last.invariant.rest c.requires.table c.loop-last.invariant.range;
    }

pub loop-last-preserved : goal.loop-last-preserved
loop-last-preserved c =
    let es = c.loop-last.lists.items in
    let fs = c.hand_one.new.lists.items in
    let seen = c.pop.new.self.items in
    let all = c.loop-last.seen.items in
    let whole = table_of (rows_of (names_of c.args.lists.now.items c.args.seen.now.items)) in
    let left = table_of (rows_of (names_of fs seen)) in
    let here = row_comes es fs seen all c.in-Some.last c.loop-last.maker.table whole c.in-Some.ensures.items c.hand_one.ensures.entries c.loop-last.invariant.names c.loop-last.invariant.rest in
    record {
      names = names_less es fs seen all c.in-Some.last c.in-Some.ensures.items c.hand_one.ensures.entries c.loop-last.invariant.names;
      kept = ap keys_of c.hand_one.ensures.entries ∙ keys_set es c.in-Some.last.number [] ∙ c.loop-last.invariant.kept;
      range = ap (λ (m : ShardContent). m.range) c.in_ok-hand_one.ensures.ok ∙ c.loop-last.invariant.range;
      rest = row_made c.loop-last.maker.table c.hand_one.new.maker.table left whole (entry_at es c.in-Some.last) (ap (λ (m : ShardContent). m.table) c.in_ok-hand_one.ensures.ok) here;
    }

pub returns-in_err-hand_one-clause-names : goal.returns-in_err-hand_one-clause-names
returns-in_err-hand_one-clause-names c =
    names_less c.loop-last.lists.items c.hand_one.new.lists.items c.pop.new.self.items c.loop-last.seen.items c.in-Some.last c.in-Some.ensures.items c.hand_one.ensures.entries c.loop-last.invariant.names

pub returns-in_err-hand_one-clause-kept : goal.returns-in_err-hand_one-clause-kept
returns-in_err-hand_one-clause-kept c = ap keys_of c.hand_one.ensures.entries ∙ keys_set c.loop-last.lists.items c.in-Some.last.number [] ∙ c.loop-last.invariant.kept
