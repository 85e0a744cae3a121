use Rattle.std.proofs.Common.{arith}
use Rattle.index_shard.proofs.KeptTables.{part_bytes}
use Rattle.index_shard.proofs.entry.Entry.head_in.Goals as goal

pub returns-clause-bytes : goal.returns-clause-bytes
returns-clause-bytes c = part_bytes c.args.bytes.now c.args.self.now.start c.args.self.now.size (λ k. omega (arith, c.type_inv.bytes k))
