use Rattle.image_file.proofs.Saving.{deleted_saves}
use Rattle.posting_tests.proofs.images.deleted.Goals as goal

pub returns : goal.returns
returns c = deleted_saves c.args.version.now c.in_ok-without_file.field-0 c.args.id c.requires c.in_ok-without_file.ensures.stands
