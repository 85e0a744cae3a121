-- One visit after another.
use Rattle.std.proofs.Common.{◌≡◌, ℕ, ◌+◌, ◌-◌, ◌^◌, ◌<◌, ◌≤◌, Bool, true, false, List, [], ◌∷◌, ◌++◌, length, take, get_or, refl, sym, ap, ◌∙◌, subst, arith, min, length-append, append-nil, zero-add, Option, inl, inr, cond}
use Rattle.std.specs.Prelude.{◌||◌, count_by, sum_by, ◌⊎◌}
use Rattle.std.specs.List.{list_any}
use Rattle.std.specs.Io.KnownBytes.{Appends}
use Rattle.std.specs.Prelude.{MatchBool}
use Rattle.std.proofs.KnownBytes.{Appends-nil, Appends-trans}
use Rattle.std.proofs.lemmas.Grind.{flat_map-append}
use Rattle.std.proofs.lemmas.List.{map-append, take_more}
use Rattle.std.proofs.lemmas.List.Folds.{list_any-append}
use Rattle.std.proofs.lemmas.List.Sums.{sum_by-append}
use Rattle.gcl_model.proofs.Lists.{all_append}
use Rattle.file_answers.specs.declared.mode.Mode.TheVariants.{Quiet}
use Rattle.outside.specs.Contents.{Contents}
use Rattle.file_answers.proofs.WrittenLemmas.{moves-written, part-on, part-as}
use Rattle.grep_run.specs.Requests.{Request}
use Rattle.grep_run.specs.Visits.{Fate, Visit, IsFate, AreVisits, IsVisited, IsBegun, AreSearched, AreBegun, finds, leaves_out, text_of_visits, failures, all_look_ups, visit_text, is_found, is_left_out, is_failed, look_ups}
use Rattle.grep_run.specs.declared.outcome.Outcome.{Outcome}
use Rattle.grep_run.specs.declared.outcome.Summary.{Summary}

-- `count` files were visited, and no more
pub record SoFar (told : Option Contents) (r : Request) (names : List (List ℕ)) (count : ℕ) (summary : Summary) (old new : Option (List ℕ)) (faults faults' steps steps' : ℕ) : Type 0 where
  pub visits : List Visit
  pub count_is : length visits ≡ count
  pub are : AreVisits told names visits
  pub written : Appends old new (text_of_visits r visits)
  pub found_is : summary.found ≡ list_any (finds r) visits
  pub left_out_is : summary.left_out ≡ list_any (leaves_out r) visits
  pub failed_are : min (faults + failures visits) (2 ^ 64 - 1) ≤ faults'
  pub calm : failures visits ≡ 0 → faults' ≡ faults
  pub looked : steps' ≤ steps + all_look_ups r visits

abbrev pub visit_of : List ℕ → Fate → Visit
visit_of name fate = record { name = name; fate = fate }

pub count_by-snoc : (p : Visit → Bool) (vs : List Visit) (v : Visit) → count_by p (vs ++ v ∷ []) ≡ count_by p vs + cond (p v) 1 0
count_by-snoc p vs v =
    let last : sum_by (λ w. cond (p w) 1 0) (v ∷ []) ≡ cond (p v) 1 0 = zero-add (cond (p v) 1 0) in
    sum_by-append (λ w. cond (p w) 1 0) vs (v ∷ []) ∙ ap (λ (n : ℕ). count_by p vs + n) last

or_false : (a b : Bool) → (a || (b || false)) ≡ (a || b)
or_false true b = refl
or_false false true = refl
or_false false false = refl

-- one file more was visited
pub are_more : (told : Option Contents) (names : List (List ℕ)) (visits : List Visit) (i : ℕ) (name : List ℕ) (fate : Fate) → AreVisits told names visits → length visits ≡ i → i < length names →
    get_or names i name ≡ name → IsFate told name fate → AreVisits told names (visits ++ visit_of name fate ∷ [])
are_more told names visits i name fate are count inside here is =
    let v : Visit = visit_of name fate in
    let wide : length (visits ++ v ∷ []) ≡ i + 1 = length-append visits (v ∷ []) ∙ ap (λ (n : ℕ). n + 1) count in
    record {
      within = omega (arith, wide);
      named = map-append (λ w. w.name) visits (v ∷ []) ∙ ap (λ ns. ns ++ name ∷ []) (are.named ∙ ap (λ (n : ℕ). take n names) count)
          ∙ sym (take_more names i name inside ∙ ap (λ n. take i names ++ n ∷ []) here) ∙ sym (ap (λ (n : ℕ). take n names) wide);
      fates = all_append (λ w. IsFate told w.name w.fate) visits (v ∷ []) are.fates (is, tt);
    }

-- what a failure does to the count of faults
pub fails_more : (b : Bool) (n faults f f' : ℕ) → min (faults + n) (2 ^ 64 - 1) ≤ f → MatchBool b (min (f + 1) (2 ^ 64 - 1) ≤ f') (f' ≡ f) → min (faults + (n + cond b 1 0)) (2 ^ 64 - 1) ≤ f'
fails_more true n faults f f' before now = omega arith
fails_more false n faults f f' before now = omega arith

pub calm_more : (b : Bool) (n faults f f' : ℕ) → (n ≡ 0 → f ≡ faults) → MatchBool b (min (f + 1) (2 ^ 64 - 1) ≤ f') (f' ≡ f) → n + cond b 1 0 ≡ 0 → f' ≡ faults
calm_more true n faults f f' before now none = absurd (omega arith)
calm_more false n faults f f' before now none = now ∙ before (omega arith)

pub one_more : (told : Option Contents) (r : Request) (names : List (List ℕ)) (i : ℕ) (name : List ℕ) (summary summary' : Summary) (outcome : Outcome) (old mid new : Option (List ℕ)) (faults f f' steps s s' : ℕ) →
    SoFar told r names i summary old mid faults f steps s → IsVisited told r name outcome mid new f f' s s' → i < length names → get_or names i name ≡ name →
    summary'.found ≡ (summary.found || is_found outcome) → summary'.left_out ≡ (summary.left_out || is_left_out outcome) →
    SoFar told r names (i + 1) summary' old new faults f' steps s'
one_more told r names i name summary summary' outcome old mid new faults f f' steps s s' so_far visited inside here found left_out =
    let v : Visit = visit_of name visited.fate in
    let vs : List Visit = so_far.visits in
    record {
      visits = vs ++ v ∷ [];
      count_is = length-append vs (v ∷ []) ∙ ap (λ (n : ℕ). n + 1) so_far.count_is;
      are = are_more told names vs i name visited.fate so_far.are so_far.count_is inside here visited.is;
      written = subst (Appends old new) (sym (flat_map-append (visit_text r) vs (v ∷ []) ∙ ap (λ t. text_of_visits r vs ++ t) (append-nil (visit_text r v))))
          (Appends-trans old mid new (text_of_visits r vs) (visit_text r v) so_far.written visited.written);
      found_is = found ∙ ap (λ b. b || is_found outcome) so_far.found_is ∙ ap (λ o. list_any (finds r) vs || is_found o) visited.outcome_is
          ∙ sym (list_any-append (finds r) vs (v ∷ []) ∙ or_false (list_any (finds r) vs) (finds r v));
      left_out_is = left_out ∙ ap (λ b. b || is_left_out outcome) so_far.left_out_is ∙ ap (λ o. list_any (leaves_out r) vs || is_left_out o) visited.outcome_is
          ∙ sym (list_any-append (leaves_out r) vs (v ∷ []) ∙ or_false (list_any (leaves_out r) vs) (leaves_out r v));
      failed_are = rw (count_by-snoc (λ w. is_failed w.fate) vs v) (fails_more (is_failed visited.fate) (failures vs) faults f f' so_far.failed_are visited.failed_is);
      calm = λ none. calm_more (is_failed visited.fate) (failures vs) faults f f' so_far.calm visited.failed_is (sym (count_by-snoc (λ w. is_failed w.fate) vs v) ∙ none);
      looked = let sum : all_look_ups r (vs ++ v ∷ []) ≡ all_look_ups r vs + all_look_ups r (v ∷ []) = sum_by-append (λ w. look_ups r w.fate) vs (v ∷ []) in
          let one : all_look_ups r (v ∷ []) ≡ look_ups r visited.fate = omega arith in
          omega (arith, sum, one, so_far.looked, visited.looked);
    }

-- the files in front were visited, and this one in part
pub one_begun : (told : Option Contents) (r : Request) (names : List (List ℕ)) (i : ℕ) (name : List ℕ) (summary : Summary) (old mid new : Option (List ℕ)) (faults f steps s : ℕ) →
    SoFar told r names i summary old mid faults f steps s → IsBegun told r name mid new → i < length names → get_or names i name ≡ name → AreBegun told r names old new
one_begun told r names i name summary old mid new faults f steps s so_far begun inside here =
    let v : Visit = visit_of name begun.fate in
    let vs : List Visit = so_far.visits in
    record {
      visits = vs ++ v ∷ [];
      are = are_more told names vs i name begun.fate so_far.are so_far.count_is inside here begun.is;
      part = part-as old new (text_of_visits r vs ++ visit_text r v) (text_of_visits r (vs ++ v ∷ []))
          (sym (flat_map-append (visit_text r) vs (v ∷ []) ∙ ap (λ t. text_of_visits r vs ++ t) (append-nil (visit_text r v))))
          (part-on old mid new (text_of_visits r vs ++ visit_text r v) (visit_text r v) (moves-written old mid (text_of_visits r vs) (visit_text r v) so_far.written) begun.part);
    }

-- no file was visited yet
pub none_yet : (told : Option Contents) (r : Request) (names : List (List ℕ)) (summary : Summary) (w : Option (List ℕ)) (faults steps : ℕ) → summary.found ≡ false → summary.left_out ≡ false →
    SoFar told r names 0 summary w w faults faults steps steps
none_yet told r names summary w faults steps found left_out = record {
  visits = [];
  count_is = refl;
  are = record { within = omega arith; named = refl; fates = tt };
  written = Appends-nil w;
  found_is = found;
  left_out_is = left_out;
  failed_are = omega arith;
  calm = λ _. refl;
  looked = omega arith;
}

-- all files were visited, or nothing is written and an answer was found
pub all_of : (told : Option Contents) (r : Request) (names : List (List ℕ)) (i : ℕ) (summary : Summary) (old new : Option (List ℕ)) (faults f steps s : ℕ) →
    SoFar told r names i summary old new faults f steps s → (i ≡ length names) ⊎ ((r.mode ≡ Quiet) × (summary.found ≡ true)) → AreSearched told r names summary old new faults f steps s
all_of told r names i summary old new faults f steps s so_far all = record {
  visits = so_far.visits;
  are = so_far.are;
  all = whole all;
  written = so_far.written;
  found_is = so_far.found_is;
  left_out_is = so_far.left_out_is;
  failed_are = so_far.failed_are;
  calm = so_far.calm;
  looked = so_far.looked;
}
  where
    whole : (i ≡ length names) ⊎ ((r.mode ≡ Quiet) × (summary.found ≡ true)) → (length so_far.visits ≡ length names) ⊎ ((r.mode ≡ Quiet) × (summary.found ≡ true))
    whole (inl is) = inl (so_far.count_is ∙ is)
    whole (inr quiet) = inr quiet

-- nothing more was written
pub begun_so_far : (told : Option Contents) (r : Request) (names : List (List ℕ)) (i : ℕ) (summary : Summary) (old new : Option (List ℕ)) (faults f steps s : ℕ) →
    SoFar told r names i summary old new faults f steps s → AreBegun told r names old new
begun_so_far told r names i summary old new faults f steps s so_far = record {
  visits = so_far.visits;
  are = so_far.are;
  part = part-as old new (text_of_visits r so_far.visits ++ []) (text_of_visits r so_far.visits) (append-nil (text_of_visits r so_far.visits))
      (record { left = []; moves = moves-written old new (text_of_visits r so_far.visits) [] so_far.written });
}
