-- A whole batch, and a stop within it.
use Rattle.std.proofs.Common.{◌≡◌, ℕ, ◌+◌, ◌-◌, ◌≤◌, ◌||◌, inl, inr, List, [], ◌∷◌, ◌++◌, length, map, take, drop, take_all, refl, sym, ap, ◌∙◌, Option, Some, subst, arith}
use Rattle.std.specs.Prelude.{flat_map, ⊤}
use Rattle.std.specs.List.{list_any}
use Rattle.std.specs.Io.KnownBytes.{Appends}
use Rattle.std.proofs.Math.Dec.{ltb}
use Rattle.std.proofs.lemmas.Bool.{cases_Bool, ltb-false, ltb-true}
use Rattle.std.proofs.lemmas.List.{take-map}
use Rattle.std.proofs.lemmas.Slice.Zip.{AllZip-long}
use Rattle.script_answers.proofs.Prelude.{answer_in, answers, ask_lines, begun, found_lines, founds_text, is_refusal, state_after, text_of, text_of_lines, watching_of, AreAsked, AsksLine, Ask, Ending, GetsPart, Halts, IsAllWritten, IsAtStand, IsOfFiles, Keeps, Limits, Line, Serves, Stand, StandsFor, State, Text}
use Rattle.query_lanes.specs.declared.asks.Found.{Found}
use Rattle.script_answers.proofs.BatchLemmas.{asked_front, batch_answered, batch_lines, batch_state, one_begun}
use Rattle.script_answers.proofs.Scripts.{all_held}
use Rattle.script_answers.proofs.Stops.{stopped_before}

-- the lines of what was found of some queries are those that answer them
lines_of_founds : (text : Text) (asks : List Ask) → flat_map found_lines (map (answer_in text) asks) ≡ flat_map (ask_lines text) asks
lines_of_founds text [] = refl
lines_of_founds text (ask ∷ asks) = ap (λ l. ask_lines text ask ++ l) (lines_of_founds text asks)

-- the answers to the first lines of a batch are those that were found first
found_first : (limits : Limits) (state : State) (asks : List Ask) (batch : List Line) (founds : List Found) (n : ℕ) → AreAsked asks batch → founds ≡ map (answer_in (text_of state.collection)) asks →
    answers limits state (take n batch) ≡ flat_map found_lines (take n founds)
found_first limits state asks batch founds n are is =
    batch_lines limits state (take n asks) (take n batch) (asked_front n asks batch are) ∙ sym (lines_of_founds (text_of state.collection) (take n asks))
    ∙ ap (flat_map found_lines) (sym (take-map (answer_in (text_of state.collection)) n asks) ∙ ap (take n) (sym is))

module _ (limits : Limits) (asks : List Ask) (batch : List Line) (before after : Stand) (are : AreAsked asks batch) (held : after.held ≡ before.held) (watching : after.watches ≡ before.watches) where
  -- it was answered if the engine keeps each state of before, and what was found is so over the collection
  pub serves_batch : (founds : List Found) (old new : Option (List ℕ)) → length founds ≡ length asks → after.completed ≡ before.completed + length founds →
      ((state : State) → Keeps before.engine before.pending state → Keeps after.engine after.pending state) →
      ((state : State) → Keeps before.engine before.pending state → founds ≡ map (answer_in (text_of state.collection)) asks) →
      after.refused ≡ (before.refused || list_any is_refusal (flat_map found_lines founds)) → Appends old new (founds_text founds) → Serves limits batch before after old new
  serves_batch founds old new many count keeps is refused written = record {
    completed = let long = AllZip-long AsksLine asks batch are in omega (arith, count, long, many);
    served = λ state at read.
        let lines : answers limits state batch ≡ flat_map found_lines founds =
        batch_lines limits state asks batch are ∙ sym (lines_of_founds (text_of state.collection) asks) ∙ ap (flat_map found_lines) (sym (is state at.keeps)) in
        record {
          answered = batch_answered limits state asks batch are;
          at = subst (IsAtStand after) (sym (batch_state limits state asks batch are)) (record { files = held ∙ at.files; keeps = keeps state at.keeps; watching = ap watching_of watching ∙ at.watching });
          refused_is = refused ∙ ap (λ (l : List (List ℕ)). before.refused || list_any is_refusal l) (sym lines);
          written = subst (λ (l : List (List ℕ)). Appends old new (text_of_lines l)) (sym lines) written;
        };
  }

  -- it ended before any answer was made
  pub waits_batch : (how : Ending) (old : Option (List ℕ)) → ¬ IsOfFiles how → after.completed ≡ before.completed →
      ((state : State) → Keeps before.engine before.pending state → StandsFor after.engine.version state.collection) → Halts limits batch how ⊤ before after old old
  waits_batch how old ours count stands = λ state at read. record {
    taken = 0;
    completed = let same = count in omega (arith, same);
    stopped = stopped_before limits state batch after.engine.version how ⊤ after.held old (stands state at.keeps) (all_held _ state.files after.held (held ∙ at.files)) (λ kept. held ∙ at.files) (λ failed. absurd (ours failed));
  }

  begun_part : (state : State) (i : ℕ) (old new : Option (List ℕ)) → i ≤ length batch →
      GetsPart old new (text_of_lines (answers limits state (take (i + 1) batch))) → GetsPart old new (text_of_lines (answers limits state (take (i + begun (drop i batch)) batch)))
  begun_part state i old new within part = elim (cases_Bool (ltb i (length batch))) [
    | inl t ↦ let one : begun (drop i batch) ≡ 1 = one_begun i asks batch are (ltb-true i (length batch) t) in
        subst (λ (n : ℕ). GetsPart old new (text_of_lines (answers limits state (take (i + n) batch)))) (sym one) part
    | inr f ↦ let over : length batch ≤ i = ltb-false i (length batch) f in
        let all : take (i + 1) batch ≡ take (i + begun (drop i batch)) batch = take_all (i + 1) batch (omega (arith, over)) ∙ sym (take_all (i + begun (drop i batch)) batch (omega (arith, over))) in
        subst (λ (l : List Line). GetsPart old new (text_of_lines (answers limits state l))) all part
  ]

  -- it ended once some of its answers were put
  pub halts_batch : (founds : List Found) (how : Ending) (old new : Option (List ℕ)) → ¬ IsAllWritten how → ¬ IsOfFiles how → length founds ≡ length asks → (before.completed ≤ after.completed) × (after.completed ≤ before.completed + length founds) →
      ((state : State) → Keeps before.engine before.pending state → Keeps after.engine after.pending state) →
      ((state : State) → Keeps before.engine before.pending state → founds ≡ map (answer_in (text_of state.collection)) asks) →
      GetsPart old new (founds_text (take (after.completed - before.completed + 1) founds)) → Halts limits batch how ⊤ before after old new
  halts_batch founds how old new lost ours many counted keeps is part = λ state at read.
      let i : ℕ = after.completed - before.completed in
      let some : before.completed ≤ after.completed = counted.0 in
      let few : after.completed ≤ before.completed + length founds = counted.1 in
      let within : i ≤ length batch = let long = AllZip-long AsksLine asks batch are in omega (arith, few, long, many) in
      let left : state_after limits state (take i batch) ≡ state = batch_state limits state (take i asks) (take i batch) (asked_front i asks batch are) in
      let files : after.held ≡ Some (state_after limits state (take i batch)).files = held ∙ at.files ∙ ap (λ (s : State). Some s.files) (sym left) in
      record {
        taken = i;
        completed = omega (arith, some);
        stopped = record {
          within = within;
          stands = subst (λ (s : State). StandsFor after.engine.version s.collection) (sym left) (keeps state at.keeps).stands;
          part = begun_part state i old new within (subst (λ (l : List (List ℕ)). GetsPart old new (text_of_lines l)) (sym (found_first limits state asks batch founds (i + 1) are (is state at.keeps))) part);
          all = λ due. absurd (lost due);
          files = all_held _ _ after.held files;
          exact = λ kept. files;
          named = λ failed. absurd (ours failed);
        };
      }
