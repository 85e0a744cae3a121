-- Beginnings of a script.
use Rattle.std.proofs.Common.{◌≡◌, ℕ, ◌+◌, ◌-◌, ◌≤◌, List, ◌++◌, length, take, drop, sym, ap, ◌∙◌, Option, length-append, subst, arith, take-add}
use Rattle.std.proofs.lemmas.List.{take-append-drop, length-drop}
use Rattle.std.proofs.Math.Seq.{take-append_seam}
use Rattle.script_lang.specs.Lines.{Line, text_of_lines}
use Rattle.script_answers.specs.States.{State}
use Rattle.script_answers.specs.Answers.{answers}
use Rattle.script_answers.specs.Stopped.{Ending, GetsPart, IsOfFiles}
use Rattle.script_answers.specs.inner.Service.{Halts, Serves, Stand}
use Rattle.script_answers.specs.declared.limits.Limits.{Limits}
use Rattle.script_answers.proofs.Scripts.{part_of_more}
use Rattle.script_answers.proofs.Stops.{stopped_after}

-- the lines that come next, and those after them
pub take_more : {T : Type 0} (n : ℕ) (all batch rest : List T) → drop n all ≡ batch ++ rest → take (n + length batch) all ≡ take n all ++ batch
take_more n all batch rest is = take-add n (length batch) all ∙ ap (λ l. take n all ++ take (length batch) l) is ∙ ap (λ l. take n all ++ l) (take-append_seam batch rest)

-- their places lie within
pub more_within : {T : Type 0} (n : ℕ) (all batch rest : List T) → n ≤ length all → drop n all ≡ batch ++ rest → n + length batch ≤ length all
more_within n all batch rest within is =
    let left : length all - n ≡ length batch + length rest = sym (length-drop n all) ∙ ap length is ∙ length-append batch rest in
    omega (arith, left, within)

-- a part of the answers to a beginning is one of all
pub part_of_all : (limits : Limits) (s : State) (all : List Line) (n : ℕ) (old new : Option (List ℕ)) → GetsPart old new (text_of_lines (answers limits s (take n all))) → GetsPart old new (text_of_lines (answers limits s all))
part_of_all limits s all n old new part =
    subst (λ (l : List Line). GetsPart old new (text_of_lines (answers limits s l))) (take-append-drop n all) (part_of_more limits s (take n all) (drop n all) old new part)

-- it ended once some lines were answered
pub halts_after : (limits : Limits) (xs : List Line) (how : Ending) (kept : Type 0) (before after : Stand) (old new : Option (List ℕ)) → ¬ IsOfFiles how → Serves limits xs before after old new → Halts limits xs how kept before after old new
halts_after limits xs how kept before after old new ours serves = λ state at read.
    let here = serves.served state at read in
    record {
      taken = length xs;
      completed = serves.completed;
      stopped = stopped_after limits state xs after.engine.version how kept after.held old new here.at.keeps.stands here.written here.at.files ours;
    }
