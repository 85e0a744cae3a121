use Rattle.std.proofs.Common.{ap, ◌∙◌, Err}
use Rattle.manifest_publish.specs.Accounts.{account}
use Rattle.query_lanes.proofs.ReaderLemmas.{later_entered, later_refused}
use Rattle.query_lanes.proofs.settle.enter.Goals as goal

pub returns-in-Ok-clause-later : goal.returns-in-Ok-clause-later
returns-in-Ok-clause-later c =
    later_entered c.args.reader.now c.enter.new.self (account c.in-Ok.pass.publisher c.in-Ok.pass.history) c.in-Ok.ensures.pass c.in-Ok.ensures.kept

pub returns-in-Err-NoMemory-clause-later : goal.returns-in-Err-NoMemory-clause-later
returns-in-Err-NoMemory-clause-later c =
    later_refused c.args.reader.now c.enter.new.self (c.enter.ensures.no_memory (c.in-Err-NoMemory.is ∙ ap Err c.in-Err-NoMemory.field-0-is))
