use Rattle.std.proofs.lemmas.Result.{IfOk-weaker}
use Rattle.image_file.specs.Images.{CanBeSaved}
use Rattle.image_file.proofs.Saving.{added_saves}
use Rattle.posting_tests.proofs.images.saved.Goals as goal

pub returns : goal.returns
returns c =
    IfOk-weaker c.with_file.result _ CanBeSaved
    (λ w adds.
    added_saves c.args.version.now w c.args.file c.args.shard c.args.tokens.now c.requires.can adds c.requires.has c.requires.fits c.requires.named c.requires.are c.requires.short)
    c.with_file.ensures.stands
