use Rattle.std.proofs.Common.{◌++◌, ◌∷◌, [], filter, ap, ◌∙◌, subst, sym, IfSome, List}
use Rattle.address_space.specs.Runs.{FileEntry, Precedes, last_file}
use Rattle.file_runs.proofs.RunLemmas.{next_survivor, survives, survivors_more}
use Rattle.file_runs.proofs.runs.records_without.Goals as goal

pub put_other-requires : goal.put_other-requires
put_other-requires c =
    let file = c.file-item.result in
    subst (λ (left : List FileEntry). IfSome (last_file left) (λ last. Precedes last file)) (sym c.loop-file.invariant)
    (next_survivor c.args.id.0 c.args.files.now c.loop-file.file-index file file c.requires c.loop-file-test.true c.file-item.is)

pub loop-file-preserved : goal.loop-file-preserved
loop-file-preserved c =
    let file = c.file-item.result in
    c.in_ok-put_other.ensures
    ∙ ap (λ (left : List FileEntry). left ++ filter (survives c.args.id.0) (file ∷ [])) c.loop-file.invariant
    ∙ survivors_more c.args.id.0 c.args.files.now c.loop-file.file-index file c.loop-file-test.true c.file-item.is
