use Rattle.image_read.proofs.Saved.{read_saves}
use Rattle.index_tests.proofs.images.read.Goals as goal

pub returns-in-Ok : goal.returns-in-Ok
returns-in-Ok c = read_saves c.args.bytes.now c.in-Ok.version c.in-Ok.ensures.ok
