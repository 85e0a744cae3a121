use Rattle.std.proofs.Common.{[]}
use Rattle.gcl_model.specs.FormOf.{form_of}
use Rattle.live_version.specs.Contents.{version_text}
use Rattle.reader_pass.proofs.TreeSums.{none_seen, tree_count}
use Rattle.reader_pass.proofs.counted.tree_count.Goals as goal

pub returns : goal.returns
returns c =
    let text = version_text c.args.version.now in
    let found = c.in_ok-sum in
    tree_count text (form_of c.args.expr.now) found.sum.0 found.sum.1.now found.ensures.tree (found.ensures.sum [] (none_seen text []))
