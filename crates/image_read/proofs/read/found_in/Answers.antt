use Rattle.std.proofs.Common.{refl, ap}
use Rattle.std.proofs.lemmas.Option.{IfSome_then}
use Rattle.std.specs.Option.{is_some}
use Rattle.image_read.proofs.Refusals.{no_files, no_head, no_terms}
use Rattle.image_read.proofs.Spelled.{read_stands, said_from}
use Rattle.image_read.proofs.read.found_in.Goals as goal
use Rattle.gcl_model.proofs.Cases.{IfSome-at}

pub returns-in_default-clause-none : goal.returns-in_default-clause-none
returns-in_default-clause-none c none = no_head c.args.bytes.now (c.in_default.ensures.none refl)

pub returns-in_default-2-clause-none : goal.returns-in_default-2-clause-none
returns-in_default-2-clause-none c none = no_files _ _ _ _ _ _ _ c.in-Some.ensures.some (c.in_ok-files.ensures.none (ap is_some c.in_default-2.is))

pub returns-clause-some : goal.returns-clause-some
returns-clause-some c =
    let head = c.in-Some.ensures.some in
    let files = IfSome-at _ _ _ c.in-Some-2.is c.in_ok-files.ensures.some in
    IfSome_then _ c.in_ok-version.ensures.some (λ v read. read_stands _ _ _ _ _ _ _ _ v (said_from _ _ _ _ _ _ _ _ _ head files) read)

pub returns-clause-none : goal.returns-clause-none
returns-clause-none c none =
    no_terms _ _ _ _ _ _ _ _ _ c.in-Some.ensures.some (IfSome-at _ _ _ c.in-Some-2.is c.in_ok-files.ensures.some) (c.in_ok-version.ensures.none none)
