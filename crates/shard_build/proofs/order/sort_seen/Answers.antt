use Rattle.shard_build.proofs.SeenNames.{names_moved}
use Rattle.shard_build.proofs.order.sort_seen.Goals as goal

pub returns-then-has_run-clause-names : goal.returns-then-has_run-clause-names
returns-then-has_run-clause-names c = names_moved c.args.lists.now.items c.note_by_number.new.seen.items c.sort_with_run.new.seen.items c.sort_with_run.ensures.permutation c.note_by_number.ensures

pub returns-else-has_run-clause-names : goal.returns-else-has_run-clause-names
returns-else-has_run-clause-names c = names_moved c.args.lists.now.items c.args.seen.now.items c.sort_without_run.new.seen.items c.sort_without_run.ensures.permutation c.requires
