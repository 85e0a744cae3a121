use Rattle.std.proofs.Common.{◌≡◌, arith}
use Rattle.gcl_readers.specs.Standing.{start_at}
use Rattle.live_version.specs.Contents.{version_text}
use Rattle.reader_pass.specs.Members.{access_most}
use Rattle.collection.specs.Engines.{last_of}
use Rattle.query_search.proofs.reading.readers_of.Goals as goal

pub returns-in-Ok-clause-stand : goal.returns-in-Ok-clause-stand
returns-in-Ok-clause-stand c history from =
    let begins : start_at c.in-Ok.readers ≡ 0 = c.in-Ok.ensures.left in
    record {
      stand = c.in-Ok.ensures.stands (version_text (last_of history));
      behind = omega arith;
    }

pub returns-in-Ok-clause-way : goal.returns-in-Ok-clause-way
returns-in-Ok-clause-way c v = c.in-Ok.ensures.cost (version_text v) (access_most v)
