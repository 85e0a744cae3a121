-- Where halving over the ends of runs finds the run that has a place.
use Rattle.std.proofs.Common.{◌≡◌, ℕ, zero, suc, ◌+◌, ◌-◌, ◌<◌, ◌≤◌, Bool, true, false, cond, leb, List, [], ◌∷◌, ◌++◌, length, drop, get_or, le_refl, refl, sym, ap, ◌∙◌, subst, arith, length-append}
use Rattle.std.specs.List.{prefix_len}
use Rattle.std.specs.List.Sorted.{IsNonDecreasingBy}
use Rattle.std.proofs.lemmas.Bool.{leb-true, leb-false}
use Rattle.std.proofs.lemmas.List.{append_assoc, drop_more, get_or_append_left, get_or-append_right}
use Rattle.address_space.specs.Runs.{FileEntry}
use Rattle.file_runs.specs.Records.{ends_from, files_in, start_at}

end_from : (before : ℕ) (runs : List (List FileEntry)) (j d : ℕ) → j < length (ends_from before runs) → before ≤ get_or (ends_from before runs) j d
end_from before [] j d lt = absurd (omega arith)
end_from before (files ∷ runs) zero d lt = omega arith
end_from before (files ∷ runs) (suc j) d lt = let rest : before + length files ≤ get_or (ends_from (before + length files) runs) j d = end_from (before + length files) runs j d (omega arith) in omega arith

-- the ends rise
pub ends_rise : (before : ℕ) (runs : List (List FileEntry)) → IsNonDecreasingBy (λ (end : ℕ). end) (ends_from before runs)
ends_rise before [] i j d le lt = absurd (omega arith)
ends_rise before (files ∷ runs) zero zero d le lt = le_refl (before + length files)
ends_rise before (files ∷ runs) zero (suc j) d le lt = end_from (before + length files) runs j d (omega arith)
ends_rise before (files ∷ runs) (suc i) zero d le lt = absurd (omega arith)
ends_rise before (files ∷ runs) (suc i) (suc j) d le lt = ends_rise (before + length files) runs i j d (omega arith) (omega arith)

-- the end before a place
pub start_at-found : (before : ℕ) (ends : List ℕ) (at j d : ℕ) → at ≡ j + 1 → j < length ends → get_or ends j d ≡ start_at before ends at
start_at-found before ends zero j d is lt = absurd (omega arith)
start_at-found before [] (suc at) j d is lt = absurd (omega arith)
start_at-found before (end ∷ ends) (suc zero) zero d is lt = refl
start_at-found before (end ∷ ends) (suc (suc at)) zero d is lt = absurd (omega arith)
start_at-found before (end ∷ ends) (suc zero) (suc j) d is lt = absurd (omega arith)
start_at-found before (end ∷ ends) (suc (suc at)) (suc j) d is lt = start_at-found end ends (suc at) j d (omega arith) (omega arith)

-- the run at the place that halving finds has the file at place i
pub record HasPlace (before i : ℕ) (runs : List (List FileEntry)) (at : ℕ) : Type 0 where
  pub within : at < length runs
  pub ended : at ≤ length (ends_from before runs)
  pub low : start_at before (ends_from before runs) at ≤ i
  pub inside : (d : List FileEntry) → i - start_at before (ends_from before runs) at < length (get_or runs at d)
  pub same : (d : List FileEntry) (e : FileEntry) → get_or (get_or runs at d) (i - start_at before (ends_from before runs) at) e ≡ get_or (files_in runs) (i - before) e

later_place : (before i at : ℕ) (files : List FileEntry) (runs : List (List FileEntry)) → before + length files ≤ i → HasPlace (before + length files) i runs at → HasPlace before i (files ∷ runs) (suc at)
later_place before i at files runs le has = record {
  within = let h = has.within in omega arith;
  ended = let h = has.ended in omega arith;
  low = has.low;
  inside = has.inside;
  same = λ d e. has.same d e ∙ ap (λ n. get_or (files_in runs) n e) (omega_less before i (length files)) ∙ sym (get_or-append_right files (files_in runs) (length files) (i - before) e refl (omega arith));
}
  where
    omega_less : (before i n : ℕ) → i - (before + n) ≡ i - before - n
    omega_less before i n = omega arith

pub place_found : (before i : ℕ) (runs : List (List FileEntry)) → before ≤ i → i < before + length (files_in runs) → HasPlace before i runs (prefix_len (λ end. leb end i) (ends_from before runs))
place_found before i [] le lt = absurd (omega arith)
place_found before i (files ∷ runs) le lt = by_test (leb (before + length files) i) refl (λ upto within. place_found (before + length files) i runs upto within)
  where
    long : length (files ++ files_in runs) ≡ length files + length (files_in runs)
    long = length-append files (files_in runs)

    by_test : (t : Bool) → leb (before + length files) i ≡ t →
        (before + length files ≤ i → i < before + length files + length (files_in runs) → HasPlace (before + length files) i runs (prefix_len (λ end. leb end i) (ends_from (before + length files) runs))) →
        HasPlace before i (files ∷ runs) (prefix_len (λ end. leb end i) (ends_from before (files ∷ runs)))
    by_test true is rest =
        let upto : before + length files ≤ i = leb-true (before + length files) i is in
        let count : prefix_len (λ end. leb end i) (ends_from before (files ∷ runs)) ≡ suc (prefix_len (λ end. leb end i) (ends_from (before + length files) runs)) =
        ap (λ t. cond t (1 + prefix_len (λ end. leb end i) (ends_from (before + length files) runs)) 0) is ∙ omega arith in
        subst (HasPlace before i (files ∷ runs)) (sym count)
        (later_place before i (prefix_len (λ end. leb end i) (ends_from (before + length files) runs)) files runs upto (rest upto (omega (arith, long, lt))))
    by_test false is rest =
        let above : i < before + length files = leb-false (before + length files) i is in
        let count : prefix_len (λ end. leb end i) (ends_from before (files ∷ runs)) ≡ 0 = ap (λ t. cond t (1 + prefix_len (λ end. leb end i) (ends_from (before + length files) runs)) 0) is in
        subst (HasPlace before i (files ∷ runs)) (sym count) record {
          within = omega arith;
          ended = omega arith;
          low = le;
          inside = λ d. omega arith;
          same = λ d e. sym (get_or_append_left files (files_in runs) e (i - before) (omega arith));
        }

-- the same at the place that halving finds
pub has_place : (runs : List (List FileEntry)) (ends : List ℕ) (i at : ℕ) → ends ≡ ends_from 0 runs → i < length (files_in runs) → at ≡ prefix_len (λ end. leb end i) ends → HasPlace 0 i runs at
has_place runs ends i at is lt found =
    subst (HasPlace 0 i runs) (sym (found ∙ ap (prefix_len (λ end. leb end i)) is)) (place_found 0 i runs (omega arith) (omega arith))

-- the end of one run more
pub ends_more : (ends made : List ℕ) (count : ℕ) (runs : List (List FileEntry)) (i : ℕ) (files run : List FileEntry) → i < length runs → files ≡ get_or runs i run → made ≡ ends ++ (count + length files) ∷ [] →
    made ++ ends_from (count + length files) (drop (i + 1) runs) ≡ ends ++ ends_from count (drop i runs)
ends_more ends made count runs i files run lt is is_made =
    let rest = ends_from (count + length files) (drop (i + 1) runs) in
    ap (λ l. l ++ rest) is_made
    ∙ append_assoc ends ((count + length files) ∷ []) rest
    ∙ sym (ap (λ rs. ends ++ ends_from count rs) (drop_more runs i run lt ∙ ap (λ r. r ∷ drop (i + 1) runs) (sym is)))
