use Rattle.std.proofs.Common.{sym, subst}
use Rattle.image_file.specs.Images.{CanBeSaved}
use Rattle.image_file.proofs.Saving.{start_saves}
use Rattle.posting_tests.proofs.images.start.Goals as goal

pub returns : goal.returns
returns c = subst CanBeSaved (sym c.empty.ensures) (start_saves c.args.first c.requires)
