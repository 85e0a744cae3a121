use Rattle.std.proofs.Common.{arith}
use Rattle.address_space.proofs.NameLemmas.{ends_with_space-last}
use Rattle.address_space.proofs.names.ends_with_space.Goals as goal

pub returns-in-len1-up : goal.returns-in-len1-up
returns-in-len1-up c = ends_with_space-last c.args.bytes.now (omega arith)
