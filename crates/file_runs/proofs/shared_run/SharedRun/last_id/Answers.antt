use Rattle.std.proofs.Common.{◌≡◌, ◌+◌, ◌-◌, length, ap, ◌∙◌, arith}
use Rattle.address_space.specs.Runs.{FileEntry}
use Rattle.file_runs.specs.Records.{last_id}
use Rattle.file_runs.proofs.Parts.{last_at}
use Rattle.file_runs.proofs.shared_run.SharedRun.last_id.Goals as goal

pub returns : goal.returns
returns c =
    let files = c.as_slice-files.result.now in
    let some = c.as_slice-files.ensures.some in
    let long = ap length c.as_slice-files.ensures.value in
    let at : length files - 1 + 1 ≡ length files = omega (arith, some, long) in
    ap (λ (f : FileEntry). f.id) (c.behind-files.view_is ∙ c.record.ensures.value ∙ c.index-files-files.is)
    ∙ last_at files (length files - 1) c.index-files-files.result at
    ∙ ap last_id c.as_slice-files.ensures.value
