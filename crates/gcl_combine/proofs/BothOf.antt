-- The accesses of "both of": it covers what each operand covers, so it goes as far as the farthest answer.
use Rattle.std.proofs.Common.{◌≡◌, ℕ, ◌≤◌, Bool, true, false, ◌&&◌, leb, List, [], ◌∷◌, map, Option, Some, None, min, max, refl, sym, ap, ◌∙◌, arith}
use Rattle.std.specs.List.{AllByRecursion, fold, reduce}
use Rattle.std.specs.Option.{option_map, option_and_then}
use Rattle.std.proofs.Math.Bool.{and-true}
use Rattle.std.proofs.lemmas.Bool.Decides.{nat_tests}
use Rattle.std.proofs.lemmas.Bool.{and_left, leb-true}
use Rattle.gcl_model.specs.Extents.{Extent, extent, covers, IsRising}
use Rattle.gcl_model.specs.Texts.{Text}
use Rattle.gcl_model.specs.Forms.{Forms, both, no_forms, more_forms, forms_count}
use Rattle.gcl_model.specs.Meaning.{concordance, operands, all_cover, denotes}
use Rattle.gcl_model.specs.Access.{first_start, last_end}
use Rattle.gcl_model.specs.Rules.{first_by, last_by}
use Rattle.gcl_model.proofs.Covers.{of_each, find_gives, find_last_gives}
use Rattle.gcl_model.proofs.Minimal.{IsProper}
use Rattle.gcl_model.proofs.Meanings.{proper_of_text, minimal_list, covers_both, concordance_rises}
use Rattle.gcl_model.proofs.Reach.{AreRising, Reaches, at_most, at_least, first_start_by, last_end_by, operands_of, operands_rise}
use Rattle.gcl_combine.specs.Farthest.{all_answers, greatest_end, least_start, end_so_far, start_so_far}
use Rattle.gcl_model.specs.Directions.{near_access, far_side, between, farther}
use Rattle.gcl_model.specs.declared.direction.Direction.{Direction}
use Rattle.gcl_model.specs.declared.direction.Direction.TheVariants.{Forward, Backward}
use Rattle.gcl_combine.specs.Directions.{farthest}
use Rattle.gcl_combine.proofs.Ways.{is_as_far, reaches, covers_by}

-- the farthest of the answers
abbrev outermost : Direction → List (List Extent) → ℕ → Option ℕ
outermost Forward = greatest_end
outermost Backward = least_start

-- the lists' answers as one step, and then the others'
farthest-nil : (way : Direction) (k s : ℕ) → farthest way [] k s ≡ Some s
farthest-nil Forward k s = refl
farthest-nil Backward k s = refl

pub farthest-cons : (way : Direction) (list : List Extent) (lists : List (List Extent)) (k s : ℕ) →
    farthest way (list ∷ lists) k s ≡ option_and_then (λ a. farthest way lists k (farther way s (far_side way a))) (near_access way list k)
farthest-cons Forward list lists k s = refl
farthest-cons Backward list lists k s = refl

reaches-some : (way : Direction) (s w : ℕ) → reaches way (Some s) w ≡ is_as_far way s w
reaches-some Forward s w = refl
reaches-some Backward s w = refl

reaches-none : (way : Direction) (w : ℕ) → reaches way None w ≡ false
reaches-none Forward w = refl
reaches-none Backward w = refl

none_step : (s c rest : Bool) → c ≡ false → (s && (c && rest)) ≡ false
none_step true c rest e = and_left c rest e
none_step false c rest e = refl

some_step : (way : Direction) (s a w : ℕ) (c rest : Bool) → c ≡ is_as_far way a w → (is_as_far way s w && (c && rest)) ≡ (is_as_far way (farther way s a) w && rest)
some_step Forward s a w true rest e = grind (arith, nat_tests)
some_step Forward s a w false rest e = grind (arith, nat_tests)
some_step Backward s a w true rest e = grind (arith, nat_tests)
some_step Backward s a w false rest e = grind (arith, nat_tests)

-- each list covers (k, w) exactly if w lies as far as their farthest answer at k
step_cases : (way : Direction) (k w s : ℕ) (list : List Extent) (lists : List (List Extent)) → IsRising list →
    ((s : ℕ) → (is_as_far way s w && all_cover lists (between way k w)) ≡ reaches way (farthest way lists k s) w) →
    (o : Option Extent) → near_access way list k ≡ o →
    (is_as_far way s w && all_cover (list ∷ lists) (between way k w)) ≡ reaches way (option_and_then (λ a. farthest way lists k (farther way s (far_side way a))) o) w
step_cases way k w s list lists r ih None is =
    none_step (is_as_far way s w) _ _ (covers_by way list r k w ∙ ap (λ o. reaches way (option_map (far_side way) o) w) is ∙ reaches-none way w) ∙ sym (reaches-none way w)
step_cases way k w s list lists r ih (Some a) is =
    some_step way s (far_side way a) w _ _ (covers_by way list r k w ∙ ap (λ o. reaches way (option_map (far_side way) o) w) is ∙ reaches-some way (far_side way a) w) ∙ ih (farther way s (far_side way a))

all_cover_by : (way : Direction) (lists : List (List Extent)) → AreRising lists → (k w s : ℕ) →
    (is_as_far way s w && all_cover lists (between way k w)) ≡ reaches way (farthest way lists k s) w
all_cover_by way [] r k w s = and-true (is_as_far way s w) ∙ sym (reaches-some way s w) ∙ ap (λ o. reaches way o w) (sym (farthest-nil way k s))
all_cover_by way (list ∷ lists) r k w s =
    step_cases way k w s list lists r.0 (all_cover_by way lists r.1 k w) (near_access way list k) refl ∙ ap (λ o. reaches way o w) (sym (farthest-cons way list lists k s))

-- what the loop computes: the farthest of an address and of all answers
fold_cases : (f : ℕ → ℕ → ℕ) (place : Extent → ℕ) (s : ℕ) (o : Option Extent) (rest : Option (List Extent)) →
    option_and_then (λ a. option_map (λ answers. fold f (f s (place a)) (map place answers)) rest) o
    ≡ option_map (λ answers. fold f s (map place answers)) (option_and_then (λ a. option_map (λ answers. a ∷ answers) rest) o)
fold_cases f place s None rest = refl
fold_cases f place s (Some a) None = refl
fold_cases f place s (Some a) (Some answers) = refl

farthest_step : (way : Direction) (s : ℕ) (rest : Option (List Extent)) (loop : ℕ → Option ℕ) → ((s : ℕ) → loop s ≡ option_map (λ answers. fold (farther way) s (map (far_side way) answers)) rest) → (o : Option Extent) →
    option_and_then (λ a. loop (farther way s (far_side way a))) o
    ≡ option_and_then (λ a. option_map (λ answers. fold (farther way) (farther way s (far_side way a)) (map (far_side way) answers)) rest) o
farthest_step way s rest loop is None = refl
farthest_step way s rest loop is (Some a) = is (farther way s (far_side way a))

farthest_is : (way : Direction) (lists : List (List Extent)) (k s : ℕ) →
    farthest way lists k s ≡ option_map (λ answers. fold (farther way) s (map (far_side way) answers)) (all_answers (λ list. near_access way list k) lists)
farthest_is way [] k s = farthest-nil way k s
farthest_is way (list ∷ lists) k s =
    let rest = all_answers (λ list. near_access way list k) lists in
    farthest-cons way list lists k s
    ∙ farthest_step way s rest (farthest way lists k) (farthest_is way lists k) (near_access way list k)
    ∙ fold_cases (farther way) (far_side way) s (near_access way list k) rest

-- the farthest of the answers: what the loop computes, starting with the first answer
first_answer : (f : ℕ → ℕ → ℕ) (place : Extent → ℕ) (o : Option Extent) (rest : Option (List Extent)) →
    option_and_then (λ answers. reduce f (map place answers)) (option_and_then (λ a. option_map (λ answers. a ∷ answers) rest) o)
    ≡ option_and_then (λ a. option_map (λ answers. fold f (place a) (map place answers)) rest) o
first_answer f place None rest = refl
first_answer f place (Some a) None = refl
first_answer f place (Some a) (Some answers) = refl

other_answers : (way : Direction) (lists : List (List Extent)) (k : ℕ) (o : Option Extent) →
    option_and_then (λ a. option_map (λ answers. fold (farther way) (far_side way a) (map (far_side way) answers)) (all_answers (λ list. near_access way list k) lists)) o
    ≡ option_and_then (λ a. farthest way lists k (far_side way a)) o
other_answers way lists k None = refl
other_answers way lists k (Some a) = sym (farthest_is way lists k (far_side way a))

outermost-cons : (way : Direction) (list : List Extent) (lists : List (List Extent)) (k : ℕ) →
    outermost way (list ∷ lists) k ≡ option_and_then (λ a. farthest way lists k (far_side way a)) (near_access way list k)
outermost-cons Forward list lists k = first_answer max (λ a. a.end) (first_start list k) (all_answers (λ list. first_start list k) lists) ∙ other_answers Forward lists k (first_start list k)
outermost-cons Backward list lists k = first_answer min (λ a. a.start) (last_end list k) (all_answers (λ list. last_end list k) lists) ∙ other_answers Backward lists k (last_end list k)

all_cover_outermost : (way : Direction) (list : List Extent) (lists : List (List Extent)) → IsRising list → AreRising lists → (k w : ℕ) →
    all_cover (list ∷ lists) (between way k w) ≡ reaches way (outermost way (list ∷ lists) k) w
all_cover_outermost way list lists r rs k w = cases (near_access way list k) refl ∙ ap (λ o. reaches way o w) (sym (outermost-cons way list lists k))
  where
    covered : (o : Option Extent) → near_access way list k ≡ o → covers list (between way k w) ≡ reaches way (option_map (far_side way) o) w
    covered o is = covers_by way list r k w ∙ ap (λ o. reaches way (option_map (far_side way) o) w) is

    cases : (o : Option Extent) → near_access way list k ≡ o → all_cover (list ∷ lists) (between way k w) ≡ reaches way (option_and_then (λ a. farthest way lists k (far_side way a)) o) w
    cases None is = and_left _ _ (covered None is ∙ reaches-none way w) ∙ sym (reaches-none way w)
    cases (Some a) is = ap (λ c. c && all_cover lists (between way k w)) (covered (Some a) is ∙ reaches-some way (far_side way a) w) ∙ all_cover_by way lists rs k w (far_side way a)

both_node : (text : Text) (forms : Forms) → 1 ≤ forms_count forms → Reaches (concordance text (both forms)) (greatest_end (operands text forms)) (least_start (operands text forms))
both_node text no_forms some = absurd (omega arith)
both_node text (more_forms form forms) some = record {
  rises = concordance_rises text (both (more_forms form forms));
  forward_is = λ k w. cover (extent k w) ∙ all_cover_outermost Forward (concordance text form) (operands text forms) (concordance_rises text form) (operands_rise text forms) k w;
  backward_is = λ u w. cover (extent u w) ∙ all_cover_outermost Backward (concordance text form) (operands text forms) (concordance_rises text form) (operands_rise text forms) w u;
}
  where
    cover : (c : Extent) → covers (concordance text (both (more_forms form forms))) c ≡ all_cover (operands text (more_forms form forms)) c
    cover c =
        ap (λ m. covers m c) (minimal_list text (all_cover (operands text (more_forms form forms))))
        ∙ covers_both text (concordance text form) (operands text forms) (operands_of text (more_forms form forms)) c

pub first_start-both : (text : Text) (forms : Forms) → 1 ≤ forms_count forms → (k : ℕ) → first_start (concordance text (both forms)) k ≡ first_by (greatest_end (operands text forms)) (least_start (operands text forms)) k
first_start-both text forms some k = first_start_by _ _ _ (both_node text forms some) k

pub last_end-both : (text : Text) (forms : Forms) → 1 ≤ forms_count forms → (k : ℕ) → last_end (concordance text (both forms)) k ≡ last_by (greatest_end (operands text forms)) (least_start (operands text forms)) k
last_end-both text forms some k = last_end_by _ _ _ (both_node text forms some) k

-- an answer at k lies as far as k: a loop may begin with k
answer_is_farther : (way : Direction) (list : List Extent) → AllByRecursion IsProper list → (k : ℕ) (a : Extent) → near_access way list k ≡ Some a → farther way k (far_side way a) ≡ far_side way a
answer_is_farther Forward list proper k a is =
    let m = find_gives (λ x. leb k x.start) list a is in
    let p : a.start ≤ a.end = of_each IsProper list a proper m.0 in
    let from : k ≤ a.start = leb-true k a.start m.1 in
    omega arith
answer_is_farther Backward list proper k a is =
    let m = find_last_gives (λ x. leb x.end k) list a is in
    let p : a.start ≤ a.end = of_each IsProper list a proper m.0 in
    let upto : a.end ≤ k = leb-true a.end k m.1 in
    omega arith

farthest-outermost : (way : Direction) (list : List Extent) (lists : List (List Extent)) → AllByRecursion IsProper list → (k : ℕ) → farthest way (list ∷ lists) k k ≡ outermost way (list ∷ lists) k
farthest-outermost way list lists proper k = farthest-cons way list lists k k ∙ cases (near_access way list k) refl ∙ sym (outermost-cons way list lists k)
  where
    cases : (o : Option Extent) → near_access way list k ≡ o → option_and_then (λ a. farthest way lists k (farther way k (far_side way a))) o ≡ option_and_then (λ a. farthest way lists k (far_side way a)) o
    cases None is = refl
    cases (Some a) is = ap (farthest way lists k) (answer_is_farther way list proper k a is)

both_loop : (text : Text) (forms : Forms) → 1 ≤ forms_count forms →
    Reaches (concordance text (both forms)) (λ k. end_so_far (operands text forms) k k) (λ k. start_so_far (operands text forms) k k)
both_loop text no_forms some = absurd (omega arith)
both_loop text (more_forms form forms) some =
    let r = both_node text (more_forms form forms) some in
    let proper = proper_of_text text (denotes text form) in
    record {
      rises = r.rises;
      forward_is = λ k w. r.forward_is k w ∙ ap (λ o. at_most o w) (sym (farthest-outermost Forward (concordance text form) (operands text forms) proper k));
      backward_is = λ u w. r.backward_is u w ∙ ap (λ o. at_least o u) (sym (farthest-outermost Backward (concordance text form) (operands text forms) proper w));
    }

-- the same by the loops, each of which begins with the address that it goes out from
pub first_start-both_so_far : (text : Text) (forms : Forms) → 1 ≤ forms_count forms → (k : ℕ) →
    first_start (concordance text (both forms)) k ≡ first_by (λ k. end_so_far (operands text forms) k k) (λ k. start_so_far (operands text forms) k k) k
first_start-both_so_far text forms some k = first_start_by _ _ _ (both_loop text forms some) k

pub last_end-both_so_far : (text : Text) (forms : Forms) → 1 ≤ forms_count forms → (k : ℕ) →
    last_end (concordance text (both forms)) k ≡ last_by (λ k. end_so_far (operands text forms) k k) (λ k. start_so_far (operands text forms) k k) k
last_end-both_so_far text forms some k = last_end_by _ _ _ (both_loop text forms some) k
