use Rattle.std.proofs.Common.{◌≡◌, Option, None, Some, slice_get, MatchOption, sym, ap, ◌∙◌, subst}
use Rattle.std.proofs.lemmas.Option.{slice_get-get_or, slice_get_past}
use Rattle.address_space.specs.Runs.{FileEntry}
use Rattle.file_runs.specs.Records.{files_in}
use Rattle.file_runs.proofs.FileLemmas.{file_with_id}
use Rattle.file_runs.proofs.Parts.{find_halved, found_in}
use Rattle.file_runs.proofs.runs.find_among.Goals as goal

pub returns-in-Some : goal.returns-in-Some
returns-in-Some c =
    let runs = c.args.runs.now in
    let id = c.args.id.0 in
    let run = c.in-Some.run'.now in
    let found = c.in-Some.ensures.lookup in
    let here : file_with_id id c.as_slice.result.now ≡ file_with_id id (files_in runs) =
    ap (file_with_id id) (c.as_slice.ensures.value ∙ found.1)
    ∙ sym (ap (found_in id) (slice_get-get_or runs c.count_before.result run found.3.0))
    ∙ ap (λ n. found_in id (slice_get runs n)) c.count_before.ensures
    ∙ sym (find_halved runs id c.requires) in
    subst (λ (o : Option FileEntry). MatchOption c.find_in.result (o ≡ None) (λ file. o ≡ Some file.now)) here c.find_in.ensures

pub returns-in-None : goal.returns-in-None
returns-in-None c =
    let runs = c.args.runs.now in
    let id = c.args.id.0 in
    find_halved runs id c.requires
    ∙ sym (ap (λ n. found_in id (slice_get runs n)) c.count_before.ensures)
    ∙ ap (found_in id) (slice_get_past runs c.count_before.result c.in-None.ensures.lookup.3)
