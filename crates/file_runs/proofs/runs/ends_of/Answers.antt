use Rattle.std.proofs.Common.{◌≡◌, ◌+◌, length, List, get_or, ap, ◌∙◌, arith}
use Rattle.std.proofs.lemmas.List.Folds.{length-flat_map-take}
use Rattle.address_space.specs.Runs.{FileEntry}
use Rattle.file_runs.specs.Records.{files_in}
use Rattle.file_runs.proofs.Parts.{count_more, few_files}
use Rattle.file_runs.proofs.Places.{ends_more}
use Rattle.file_runs.proofs.runs.ends_of.Goals as goal

pub overflow_add-count : goal.overflow_add-count
overflow_add-count c =
    let runs = c.args.runs.now in
    let run = c.run-item.result in
    let upto = length-flat_map-take (λ (files : List FileEntry). files) runs c.loop-run.run-index run c.loop-run-test.true in
    let few = few_files (files_in runs) c.requires in
    let long : length c.as_slice.result.now ≡ length (get_or runs c.loop-run.run-index run) = ap length (c.as_slice.ensures.value ∙ c.run-item.is) in
    let count = c.loop-run.invariant.count in
    omega (arith, upto, few, long, count)

pub loop-run-preserved : goal.loop-run-preserved
loop-run-preserved c =
    let runs = c.args.runs.now in
    let i = c.loop-run.run-index in
    let run = c.run-item.result in
    let files = c.as_slice.result.now in
    let at = c.as_slice.ensures.value ∙ c.run-item.is in
    record {
      count = ap (λ n. n + length files) c.loop-run.invariant.count ∙ count_more runs i files run c.loop-run-test.true at;
      whole = ends_more c.loop-run.ends.items c.push.new.self.items c.loop-run.count runs i files run c.loop-run-test.true at c.in_ok-push.ensures.items ∙ c.loop-run.invariant.whole;
    }
