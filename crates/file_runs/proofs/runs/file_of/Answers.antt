use Rattle.std.proofs.Common.{◌≡◌, ℕ, ◌-◌, ◌<◌, List, length, get_or, sym, ap, ◌∙◌, subst, arith, rules}
use Rattle.std.specs.List.Sorted.{IsNonDecreasingBy}
use Rattle.address_space.specs.Runs.{FileEntry}
use Rattle.file_runs.specs.Records.{ends_from, files_in, start_at}
use Rattle.file_runs.proofs.Places.{ends_rise, has_place}
use Rattle.file_runs.proofs.runs.file_of.Goals as goal

pub count_upto-at-requires : goal.count_upto-at-requires
count_upto-at-requires c =
    subst (λ (ends : List ℕ). IsNonDecreasingBy (λ (end : ℕ). end) ends) (sym c.requires.ends) (ends_rise 0 c.args.runs.now)

pub bounds-runs-at : goal.bounds-runs-at
bounds-runs-at c = (has_place c.args.runs.now c.args.ends.now c.args.i c.count_upto-at.result c.requires.ends c.requires.within c.count_upto-at.ensures).within

pub offset_bounds-runs-at : goal.offset_bounds-runs-at
offset_bounds-runs-at c =
    let lt : c.count_upto-at.result < length c.args.runs.now = (has_place c.args.runs.now c.args.ends.now c.args.i c.count_upto-at.result c.requires.ends c.requires.within c.count_upto-at.ensures).within in
    search rules

pub start_of-requires : goal.start_of-requires
start_of-requires c =
    let has = has_place c.args.runs.now c.args.ends.now c.args.i c.count_upto-at.result c.requires.ends c.requires.within c.count_upto-at.ensures in
    let ended = has.ended in
    let long = ap length c.requires.ends in
    omega (arith, ended, long)

pub overflow_sub-i : goal.overflow_sub-i
overflow_sub-i c =
    let has = has_place c.args.runs.now c.args.ends.now c.args.i c.count_upto-at.result c.requires.ends c.requires.within c.count_upto-at.ensures in
    let low = has.low in
    let start : c.start_of.result ≡ start_at 0 (ends_from 0 c.args.runs.now) c.count_upto-at.result = c.start_of.ensures ∙ ap (λ ends. start_at 0 ends c.count_upto-at.result) c.requires.ends in
    omega (arith, low, start)

pub bounds-files-i : goal.bounds-files-i
bounds-files-i c =
    let runs = c.args.runs.now in
    let at = c.count_upto-at.result in
    let has = has_place runs c.args.ends.now c.args.i at c.requires.ends c.requires.within c.count_upto-at.ensures in
    let start : c.start_of.result ≡ start_at 0 (ends_from 0 runs) at = c.start_of.ensures ∙ ap (λ ends. start_at 0 ends at) c.requires.ends in
    let inside = has.inside c.index-runs-at.result in
    let long = ap length (c.as_slice-files.ensures.value ∙ c.index-runs-at.is) in
    omega (arith, inside, start, long)

pub offset_bounds-files-i : goal.offset_bounds-files-i
offset_bounds-files-i c =
    let runs = c.args.runs.now in
    let at = c.count_upto-at.result in
    let has = has_place runs c.args.ends.now c.args.i at c.requires.ends c.requires.within c.count_upto-at.ensures in
    let start : c.start_of.result ≡ start_at 0 (ends_from 0 runs) at = c.start_of.ensures ∙ ap (λ ends. start_at 0 ends at) c.requires.ends in
    let inside = has.inside c.index-runs-at.result in
    let long = ap length (c.as_slice-files.ensures.value ∙ c.index-runs-at.is) in
    let lt : c.args.i - c.start_of.result < length c.as_slice-files.result.now = omega (arith, inside, start, long) in
    search rules

pub returns : goal.returns
returns c =
    let runs = c.args.runs.now in
    let at = c.count_upto-at.result in
    let has = has_place runs c.args.ends.now c.args.i at c.requires.ends c.requires.within c.count_upto-at.ensures in
    let start : c.start_of.result ≡ start_at 0 (ends_from 0 runs) at = c.start_of.ensures ∙ ap (λ ends. start_at 0 ends at) c.requires.ends in
    let file = c.record.result.now in
    let is : file ≡ c.index-files-i.result = c.record.ensures.value in
    is
    ∙ c.index-files-i.is
    ∙ ap (λ (e : FileEntry). get_or c.as_slice-files.result.now (c.args.i - c.start_of.result) e) (sym is)
    ∙ ap (λ (l : List FileEntry). get_or l (c.args.i - c.start_of.result) file) (c.as_slice-files.ensures.value ∙ c.index-runs-at.is)
    ∙ ap (λ (n : ℕ). get_or (get_or runs at c.index-runs-at.result) (c.args.i - n) file) start
    ∙ has.same c.index-runs-at.result file
    ∙ ap (λ (n : ℕ). get_or (files_in runs) n file) zero_less
  where
    zero_less : c.args.i - 0 ≡ c.args.i
    zero_less = omega arith
