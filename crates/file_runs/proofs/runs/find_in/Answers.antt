use Rattle.std.proofs.Common.{ap, sym, ◌∙◌, Some, rules}
use Rattle.std.proofs.lemmas.Fn.{always_returns_same}
use Rattle.address_space.specs.Runs.{FileEntry}
use Rattle.file_runs.proofs.FileLemmas.{searchable, file_met, file_missed}
use Rattle.file_runs.proofs.runs.find_in.Goals as goal

pub returns-in-Ok : goal.returns-in-Ok
returns-in-Ok c =
    let at = c.in-Ok.ensures.position (λ (file : FileEntry). file.id) (always_returns_same _ _ _ (λ a r g called. (search rules, search rules))) in
    let e = c.index-files-i.result in
    file_met c.args.files.now c.args.id.0 c.in-Ok.i e c.requires c.in-Ok.ensures.bound (at e) ∙ ap Some (sym c.index-files-i.is) ∙ ap Some (sym c.record.ensures.value)

pub returns-in-Err : goal.returns-in-Err
returns-in-Err c =
    let at = c.in-Err.ensures.position (λ (file : FileEntry). file.id) (always_returns_same _ _ _ (λ a r g called. (search rules, search rules))) in
    file_missed c.args.files.now c.args.id.0 _ (at (searchable c.args.files.now c.args.id.0 c.requires))
