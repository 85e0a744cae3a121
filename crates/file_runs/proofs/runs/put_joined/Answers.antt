use Rattle.std.proofs.Common.{◌≡◌, ◌++◌, List, OnOk, ap, ◌∙◌, subst}
use Rattle.address_space.specs.Runs.{FileEntry}
use Rattle.file_runs.specs.Records.{files_in}
use Rattle.file_runs.proofs.Parts.{joined_files}
use Rattle.file_runs.proofs.runs.put_joined.Goals as goal

pub returns-clause-value : goal.returns-clause-value
returns-clause-value c =
    let last = c.args.last.now in
    let run = c.args.run.now in
    let both = c.put_records-2.new.files in
    let is : both ≡ last ++ run =
    c.in_ok-put_records-2.ensures
    ∙ ap (λ l. l ++ c.as_slice-2.result.now) (c.in_ok-put_records.ensures ∙ ap (λ l. l ++ c.as_slice.result.now) c.new-files.ensures ∙ c.as_slice.ensures.value)
    ∙ ap (λ l. last ++ l) c.as_slice-2.ensures.value in
    subst (λ (l : List FileEntry). OnOk c.put_files.result (files_in c.put_files.new.into.items ≡ l)) (joined_files (files_in c.args.into.now.items) both last run is) c.put_files.ensures.value
