use Rattle.std.proofs.Common.{sym, subst}
use Rattle.image_read.specs.Reading.{HasNoFile}
use Rattle.image_read.proofs.files.file_in_front.Goals as goal

pub returns-in-One-clause-none : goal.returns-in-One-clause-none
returns-in-One-clause-none c none =
    subst (λ f. HasNoFile f c.args.least.id c.args.least.base c.args.bytes.now) (sym c.in-One.is)
    (λ file rest is. c.long_file.ensures.none none file rest record { fits = is.fits; bytes = is.bytes })
