-- Answers to lists of lines that are put together.
use Rattle.std.proofs.Common.{◌≡◌, ℕ, ◌+◌, ◌-◌, inl, inr, List, [], ◌∷◌, ◌++◌, take, zero, suc, refl, sym, ap, ◌∙◌, append_assoc, Option, Some, None, IsSome}
use Rattle.std.proofs.lemmas.List.Elements.{Contains-append_left}
use Rattle.std.specs.Prelude.{◌⊎◌, Contains, flat_map}
use Rattle.std.proofs.lemmas.Grind.{flat_map-append}
use Rattle.script_answers.proofs.Prelude.{after_reply, answer, answers, reply, state_after, text_of_lines, with_later, AllAnswered, AreRead, Contents, GetsPart, HoldsBut, Limits, Line, Reply, State}
use Rattle.live_version.proofs.PartLaws.{both_empty}

later_lines : (o : Option Reply) (a b : List (List ℕ)) → IsSome o → with_later o (a ++ b) ≡ with_later o a ++ b
later_lines None a b some = absurd (cc some)
later_lines (Some reply) a b some = sym (append_assoc reply.lines a b)

-- what goes on from a begins with what goes on from its beginning
later_begin : (o : Option Reply) (a b rest : List (List ℕ)) → b ≡ a ++ rest → (more : List (List ℕ)) × (with_later o b ≡ with_later o a ++ more)
later_begin None a b rest is = ([], refl)
later_begin (Some reply) a b rest is = (rest, ap (λ l. reply.lines ++ l) is ∙ sym (append_assoc reply.lines a rest))

-- the first of some lines and others
pub take_first : {T : Type 0} (k : ℕ) (xs ys : List T) → (more : List T) × (take k (xs ++ ys) ≡ take k xs ++ more)
take_first zero xs ys = ([], refl)
take_first (suc k) [] ys = (take (suc k) ys, refl)
take_first (suc k) (x ∷ xs) ys =
    let later = take_first k xs ys in
    (later.0, ap (λ l. x ∷ l) later.1)

-- files that hold all of this hold it except for some names
pub all_held : (names : List (List ℕ)) (files : Contents) (held : Option Contents) → held ≡ Some files → HoldsBut names files held
all_held names files held is = record { contents = files; is = is; same = λ name. inl refl }

-- what holds except for some names does so except for these and more
pub held_more : (names more : List (List ℕ)) (files : Contents) (held : Option Contents) → HoldsBut names files held → HoldsBut (names ++ more) files held
held_more names more files held but = record { contents = but.contents; is = but.is; same = λ name. either name (but.same name) }
  where
    either : (name : List ℕ) → (but.contents name ≡ files name) ⊎ Contains names name → (but.contents name ≡ files name) ⊎ Contains (names ++ more) name
    either name (inl same) = inl same
    either name (inr kept) = inr (Contains-append_left names more name kept)

module _ (limits : Limits) where
  pub answers-append : (s : State) (xs ys : List Line) → AllAnswered limits s xs → answers limits s (xs ++ ys) ≡ answers limits s xs ++ answers limits (state_after limits s xs) ys
  answers-append s [] ys all = refl
  answers-append s (line ∷ xs) ys all =
      let next : State = after_reply s (answer limits s line) in
      ap (with_later (answer limits s line)) (answers-append next xs ys all.1) ∙ later_lines (answer limits s line) (answers limits next xs) (answers limits (state_after limits next xs) ys) all.0

  pub state_after-append : (s : State) (xs ys : List Line) → state_after limits s (xs ++ ys) ≡ state_after limits (state_after limits s xs) ys
  state_after-append s [] ys = refl
  state_after-append s (line ∷ xs) ys = state_after-append (after_reply s (answer limits s line)) xs ys

  pub all_answered-append : (s : State) (xs ys : List Line) → AllAnswered limits s xs → AllAnswered limits (state_after limits s xs) ys → AllAnswered limits s (xs ++ ys)
  all_answered-append s [] ys a b = b
  all_answered-append s (line ∷ xs) ys a b = (a.0, all_answered-append (after_reply s (answer limits s line)) xs ys a.1 b)

  -- the answers to some lines begin with those to the first of them, whether or not there are all
  pub answers_begin : (s : State) (xs ys : List Line) → (more : List (List ℕ)) × (answers limits s (xs ++ ys) ≡ answers limits s xs ++ more)
  answers_begin s [] ys = (answers limits s ys, refl)
  answers_begin s (line ∷ xs) ys =
      let next : State = after_reply s (answer limits s line) in
      let later = answers_begin next xs ys in
      later_begin (answer limits s line) (answers limits next xs) (answers limits next (xs ++ ys)) later.0 later.1

  -- a part of the answers to some lines is one of those to these and more
  pub part_of_more : (s : State) (xs ys : List Line) (old new : Option (List ℕ)) → GetsPart old new (text_of_lines (answers limits s xs)) → GetsPart old new (text_of_lines (answers limits s (xs ++ ys)))
  part_of_more s xs ys old new part =
      let begin = answers_begin s xs ys in
      let whole : text_of_lines (answers limits s (xs ++ ys)) ≡ text_of_lines (answers limits s xs) ++ text_of_lines begin.0 = ap text_of_lines begin.1 ∙ flat_map-append _ (answers limits s xs) begin.0 in
      record {
        part = part.part;
        rest = part.rest ++ text_of_lines begin.0;
        whole = whole ∙ ap (λ l. l ++ text_of_lines begin.0) part.whole ∙ append_assoc part.part part.rest (text_of_lines begin.0);
        written = part.written;
      }

  -- what lines before others open is read rightly
  pub read_front : (start : State) (xs ys : List Line) → AreRead limits start (xs ++ ys) → AreRead limits start xs
  read_front start [] ys read = tt
  read_front start (x ∷ xs) ys read = (read.0, read_front (after_reply start (answer limits start x)) xs ys read.1)

  -- what lines after others open is read rightly
  pub read_behind : (start : State) (xs ys : List Line) → AreRead limits start (xs ++ ys) → AreRead limits (state_after limits start xs) ys
  read_behind start [] ys read = read
  read_behind start (x ∷ xs) ys read = read_behind (after_reply start (answer limits start x)) xs ys read.1

-- if lines that are put together have no name, neither have the first of them, nor the others
pub none_apart : (f : Line → List (List ℕ)) (xs ys : List Line) → flat_map f (xs ++ ys) ≡ [] → (flat_map f xs ≡ []) × (flat_map f ys ≡ [])
none_apart f xs ys none = both_empty (flat_map f xs) (flat_map f ys) (sym (flat_map-append f xs ys) ∙ none)
