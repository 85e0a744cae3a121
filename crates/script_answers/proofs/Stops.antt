-- Where a run stops among lines that are put together.
use Rattle.std.proofs.Common.{◌≡◌, ℕ, ◌+◌, ◌≤◌, List, [], ◌∷◌, ◌++◌, length, take, drop, refl, sym, ap, ◌∙◌, append_assoc, append-nil, Option, Some, length-append, subst, arith, take-add, take_all}
use Rattle.std.proofs.lemmas.List.{drop-drop, take-append-le, drop-append-le}
use Rattle.std.proofs.Math.Seq.{take-append_seam, drop-append_seam}
use Rattle.std.proofs.lemmas.Grind.{flat_map-append}
use Rattle.std.proofs.KnownBytes.{Appends-nil, Appends-trans}
use Rattle.std.specs.Io.KnownBytes.{Appends}
use Rattle.script_answers.proofs.Prelude.{answers, begun, names_kept_of, names_kept_of_line, names_of, names_of_line, state_after, text_of_lines, AllAnswered, Contents, Ending, GetsPart, HoldsBut, IsAllWritten, IsOfFiles, IsStopped, Limits, Line, StandsFor, State, VersionContent}
use Rattle.script_answers.proofs.Scripts.{all_held, answers-append, held_more, none_apart, part_of_more, state_after-append, take_first}

-- with more lines behind, at least as many of them may be answered in part
begun_more : (d ys : List Line) → (more : List Line) × (take (begun (d ++ ys)) (d ++ ys) ≡ take (begun d) d ++ more)
begun_more [] ys = (take (begun ys) ys, refl)
begun_more (line ∷ rest) ys = take_first (begun (line ∷ rest)) (line ∷ rest) ys

-- the first lines, and those of the next ones that may be answered in part
begun_lines : (i : ℕ) (xs : List Line) → take (i + begun (drop i xs)) xs ≡ take i xs ++ take (begun (drop i xs)) (drop i xs)
begun_lines i xs = take-add i (begun (drop i xs)) xs

module _ (limits : Limits) where
  -- a stop among the first of some lines
  pub stopped_more : (start : State) (xs ys : List Line) (i : ℕ) (version : VersionContent) (how : Ending) (kept : Type 0) (held : Option Contents) (old new : Option (List ℕ)) →
      IsStopped limits start xs i version how kept held old new → IsStopped limits start (xs ++ ys) i version how kept held old new
  stopped_more start xs ys i version how kept held old new stop =
      let some : i ≤ length xs = stop.within in
      let front : take i (xs ++ ys) ≡ take i xs = take-append-le i xs ys some in
      let left : drop i (xs ++ ys) ≡ drop i xs ++ ys = drop-append-le i xs ys some in
      let next = begun_more (drop i xs) ys in
      let head = take_first 1 (drop i xs) ys in
      let ahead : take (i + begun (drop i (xs ++ ys))) (xs ++ ys) ≡ take (i + begun (drop i xs)) xs ++ next.0 =
      begun_lines i (xs ++ ys) ∙ ap (λ (l : List Line). l ++ take (begun (drop i (xs ++ ys))) (drop i (xs ++ ys))) front
      ∙ ap (λ (l : List Line). take i xs ++ take (begun l) l) left ∙ ap (λ (l : List Line). take i xs ++ l) next.1
      ∙ sym (append_assoc (take i xs) (take (begun (drop i xs)) (drop i xs)) next.0) ∙ ap (λ (l : List Line). l ++ next.0) (sym (begun_lines i xs)) in
      let named : take 1 (drop i (xs ++ ys)) ≡ take 1 (drop i xs) ++ head.0 = ap (take 1) left ∙ head.1 in
      let names : names_kept_of (take 1 (drop i (xs ++ ys))) ≡ names_kept_of (take 1 (drop i xs)) ++ names_kept_of head.0 =
      ap names_kept_of named ∙ flat_map-append names_kept_of_line (take 1 (drop i xs)) head.0 in
      record {
        within = omega (arith, some, length-append xs ys);
        stands = subst (λ (l : List Line). StandsFor version (state_after limits start l).collection) (sym front) stop.stands;
        part = subst (λ (l : List Line). GetsPart old new (text_of_lines (answers limits start l))) (sym ahead) (part_of_more limits start (take (i + begun (drop i xs)) xs) next.0 old new stop.part);
        all = λ due. subst (λ (l : List Line). Appends old new (text_of_lines (answers limits start l))) (sym front) (stop.all due);
        files = subst (λ (l : List Line). HoldsBut (names_kept_of (take 1 (drop i (xs ++ ys)))) (state_after limits start l).files held) (sym front)
            (subst (λ (l : List (List ℕ)). HoldsBut l (state_after limits start (take i xs)).files held) (sym names)
            (held_more (names_kept_of (take 1 (drop i xs))) (names_kept_of head.0) (state_after limits start (take i xs)).files held stop.files));
        exact = λ all_kept. stop.exact all_kept ∙ ap (λ (l : List Line). Some (state_after limits start l).files) (sym front);
        named = λ failed none. stop.named failed (none_apart names_of_line (take 1 (drop i xs)) head.0 (ap names_of (sym named) ∙ none)).0;
      }

  -- a stop among lines after others that were answered
  pub stopped_behind : (start : State) (xs ys : List Line) (i : ℕ) (version : VersionContent) (how : Ending) (kept : Type 0) (held : Option Contents) (old mid new : Option (List ℕ)) →
      AllAnswered limits start xs → Appends old mid (text_of_lines (answers limits start xs)) → IsStopped limits (state_after limits start xs) ys i version how kept held mid new →
      IsStopped limits start (xs ++ ys) (length xs + i) version how kept held old new
  stopped_behind start xs ys i version how kept held old mid new answered written stop =
      let s : State = state_after limits start xs in
      let some : i ≤ length ys = stop.within in
      let behind : drop (length xs) (xs ++ ys) ≡ ys = drop-append_seam xs ys in
      let upto : (k : ℕ) → take (length xs + k) (xs ++ ys) ≡ xs ++ take k ys = λ k. take-add (length xs) k (xs ++ ys) ∙ ap (λ (l : List Line). l ++ take k (drop (length xs) (xs ++ ys))) (take-append_seam xs ys)
      ∙ ap (λ (l : List Line). xs ++ take k l) behind in
      let left : drop (length xs + i) (xs ++ ys) ≡ drop i ys = sym (drop-drop i (length xs) (xs ++ ys)) ∙ ap (drop i) behind in
      let state : state_after limits start (take (length xs + i) (xs ++ ys)) ≡ state_after limits s (take i ys) = ap (state_after limits start) (upto i) ∙ state_after-append limits start xs (take i ys) in
      let text : (l : List Line) → text_of_lines (answers limits start (xs ++ l)) ≡ text_of_lines (answers limits start xs) ++ text_of_lines (answers limits s l) =
      λ l. ap text_of_lines (answers-append limits start xs l answered) ∙ flat_map-append _ (answers limits start xs) (answers limits s l) in
      let here : List Line = take (i + begun (drop i ys)) ys in
      let ahead : take (length xs + i + begun (drop (length xs + i) (xs ++ ys))) (xs ++ ys) ≡ xs ++ here =
      ap (λ (l : List Line). take (length xs + i + begun l) (xs ++ ys)) left ∙ ap (λ (k : ℕ). take k (xs ++ ys)) (omega arith) ∙ upto (i + begun (drop i ys)) in
      let first : GetsPart old new (text_of_lines (answers limits start (xs ++ here))) = record {
        part = text_of_lines (answers limits start xs) ++ stop.part.part;
        rest = stop.part.rest;
        whole = text here ∙ ap (λ l. text_of_lines (answers limits start xs) ++ l) stop.part.whole ∙ sym (append_assoc (text_of_lines (answers limits start xs)) stop.part.part stop.part.rest);
        written = Appends-trans old mid new _ _ written stop.part.written;
      } in
      record {
        within = omega (arith, some, length-append xs ys);
        stands = subst (λ (u : State). StandsFor version u.collection) (sym state) stop.stands;
        part = subst (λ (l : List Line). GetsPart old new (text_of_lines (answers limits start l))) (sym ahead) first;
        all = λ due. subst (Appends old new) (sym (ap (λ (l : List Line). text_of_lines (answers limits start l)) (upto i) ∙ text (take i ys))) (Appends-trans old mid new _ _ written (stop.all due));
        files = subst (λ (l : List Line). HoldsBut (names_kept_of (take 1 l)) (state_after limits start (take (length xs + i) (xs ++ ys))).files held) (sym left)
            (subst (λ (u : State). HoldsBut (names_kept_of (take 1 (drop i ys))) u.files held) (sym state) stop.files);
        exact = λ all_kept. stop.exact all_kept ∙ ap (λ (u : State). Some u.files) (sym state);
        named = λ failed none. stop.named failed (ap (λ (l : List Line). names_of (take 1 l)) (sym left) ∙ none);
      }

  -- a stop before any of the lines
  pub stopped_before : (start : State) (xs : List Line) (version : VersionContent) (how : Ending) (kept : Type 0) (held : Option Contents) (old : Option (List ℕ)) → StandsFor version start.collection →
      HoldsBut (names_kept_of (take 1 xs)) start.files held → (kept → held ≡ Some start.files) → (IsOfFiles how → names_of (take 1 xs) ≡ [] → ⊥) → IsStopped limits start xs 0 version how kept held old old
  stopped_before start xs version how kept held old stands files exact named = record {
    within = omega arith;
    stands = stands;
    part = record { part = []; rest = _; whole = refl; written = Appends-nil old };
    all = λ due. Appends-nil old;
    files = files;
    exact = exact;
    named = named;
  }

  -- a stop after lines that were all done, of whose answers the sink got a part
  pub stopped_part : (start : State) (xs : List Line) (version : VersionContent) (how : Ending) (kept : Type 0) (held : Option Contents) (old new : Option (List ℕ)) → StandsFor version (state_after limits start xs).collection →
      GetsPart old new (text_of_lines (answers limits start xs)) → (IsAllWritten how → Appends old new (text_of_lines (answers limits start xs))) → held ≡ Some (state_after limits start xs).files → ¬ IsOfFiles how →
      IsStopped limits start xs (length xs) version how kept held old new
  stopped_part start xs version how kept held old new stands part written files ours =
      let all : take (length xs) xs ≡ xs = take_all (length xs) xs (omega arith) in
      let ahead : take (length xs + begun (drop (length xs) xs)) xs ≡ xs = take_all _ xs (omega arith) in
      let held_all = files ∙ ap (λ (l : List Line). Some (state_after limits start l).files) (sym all) in
      record {
        within = omega arith;
        stands = subst (λ (l : List Line). StandsFor version (state_after limits start l).collection) (sym all) stands;
        part = subst (λ (l : List Line). GetsPart old new (text_of_lines (answers limits start l))) (sym ahead) part;
        all = λ due. subst (λ (l : List Line). Appends old new (text_of_lines (answers limits start l))) (sym all) (written due);
        files = all_held _ _ held held_all;
        exact = λ all_kept. held_all;
        named = λ failed. absurd (ours failed);
      }

  -- a stop after lines that were all answered
  pub stopped_after : (start : State) (xs : List Line) (version : VersionContent) (how : Ending) (kept : Type 0) (held : Option Contents) (old new : Option (List ℕ)) → StandsFor version (state_after limits start xs).collection →
      Appends old new (text_of_lines (answers limits start xs)) → held ≡ Some (state_after limits start xs).files → ¬ IsOfFiles how → IsStopped limits start xs (length xs) version how kept held old new
  stopped_after start xs version how kept held old new stands written files ours =
      stopped_part start xs version how kept held old new stands (record { part = text_of_lines (answers limits start xs); rest = []; whole = sym (append-nil _); written = written }) (λ due. written) files ours

  -- a stop where each keep succeeded if these did
  pub stopped_as : (start : State) (all : List Line) (n : ℕ) (version : VersionContent) (how : Ending) (kept kept' : Type 0) (held : Option Contents) (old new : Option (List ℕ)) → (kept' → kept) →
      IsStopped limits start all n version how kept held old new → IsStopped limits start all n version how kept' held old new
  stopped_as start all n version how kept kept' held old new so stop = record {
    within = stop.within;
    stands = stop.stands;
    part = stop.part;
    all = stop.all;
    files = stop.files;
    exact = λ all_kept. stop.exact (so all_kept);
    named = stop.named;
  }
