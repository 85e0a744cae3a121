use Rattle.std.proofs.Common.{ℕ, ◌+◌, ◌≤◌, Result, arith}
use Rattle.outside.specs.Causes.{HasFileCause}
use Rattle.outside.specs.declared.faults.FileError.{FileError}
use Rattle.gclgrep.proofs.input.WithInputFiles.load.Goals as goal

-- a fault of the source is one of both
of_both : {T : Type 0} (f s s' : ℕ) (result : Result T FileError) → HasFileCause s s' result → HasFileCause (f + s) (f + s') result
of_both f s s' result cause =
    let later : s ≤ s' = cause.later in
    record { later = omega arith; failed = λ is. let rose = cause.failed is in omega (arith, rose) }

pub returns-then-eq-clause-cause : goal.returns-then-eq-clause-cause
returns-then-eq-clause-cause g c =
    of_both (g.F.Files.faults c.args.self.now.files) (g.S.Source.faults c.args.self.now.source) (g.S.Source.faults c.read_all.new.source) c.read_all.result c.read_all.ensures.cause
