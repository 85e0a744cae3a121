use Rattle.std.proofs.Common.{◌≡◌, ◌++◌, sym, ap, ◌∙◌, subst, arith}
use Rattle.std.proofs.lemmas.List.Sums.{prefix_len-le-length}
use Rattle.std.specs.List.{AllByRecursion}
use Rattle.address_space.specs.Runs.{IsFileRun}
use Rattle.file_runs.specs.Records.{IsInhabited, files_in, left_of}
use Rattle.file_runs.proofs.RunLemmas.{run_survives}
use Rattle.file_runs.proofs.Parts.{all_back, all_front, ends_before, runs_left}
use Rattle.file_runs.proofs.runs.runs_without.Goals as goal

pub split_at-requires : goal.split_at-requires
split_at-requires c = let le = prefix_len-le-length (ends_before c.args.id.0) c.args.runs.now in omega (arith, le, c.count_before.ensures)

pub returns-clause-value : goal.returns-clause-value
returns-clause-value c =
    let runs = c.args.runs.now in
    let at = c.count_before.result in
    let before = c.split_at.result.0.now in
    let put : c.put_shares.new.into.items ≡ before = c.in_ok-put_shares.ensures ∙ ap (λ l. l ++ before) c.in_ok-left.ensures.items in
    runs_left runs before c.put_rest.new.into.items c.args.id.0 at c.requires c.count_before.ensures c.split_at.ensures.front
    (c.in_ok-put_rest.ensures.value ∙ ap (λ rs. files_in rs ++ left_of c.args.id.0 c.split_at.result.1.now) put ∙ ap (λ rs. files_in before ++ left_of c.args.id.0 rs) c.split_at.ensures.back)

pub returns-clause-runs : goal.returns-clause-runs
returns-clause-runs c =
    let runs = c.args.runs.now in
    let at = c.count_before.result in
    let before = c.split_at.result.0.now in
    let put : c.put_shares.new.into.items ≡ before = c.in_ok-put_shares.ensures ∙ ap (λ l. l ++ before) c.in_ok-left.ensures.items in
    let value = runs_left runs before c.put_rest.new.into.items c.args.id.0 at c.requires c.count_before.ensures c.split_at.ensures.front
    (c.in_ok-put_rest.ensures.value ∙ ap (λ rs. files_in rs ++ left_of c.args.id.0 c.split_at.result.1.now) put ∙ ap (λ rs. files_in before ++ left_of c.args.id.0 rs) c.split_at.ensures.back) in
    record {
      inhabited =
          c.in_ok-put_rest.ensures.inhabited
          (subst (AllByRecursion IsInhabited) (sym (put ∙ c.split_at.ensures.front)) (all_front at runs c.requires.inhabited))
          (subst (AllByRecursion IsInhabited) (sym c.split_at.ensures.back) (all_back at runs c.requires.inhabited));
      run = subst IsFileRun (sym value) (run_survives c.args.id.0 (files_in runs) c.requires.run);
    }
