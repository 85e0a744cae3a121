use Rattle.collection.proofs.ChangeLemmas.{deletes}
use Rattle.collection.proofs.edits.without_file.Goals as goal

pub returns : goal.returns
returns c =
    let e = c.in_ok-version.ensures in
    deletes c.args.last.now c.in_ok-version.version c.args.id.0 c.requires.survives e.value e.stands e.ranges e.dead
