-- Some lines were answered, and then others.
use Rattle.std.proofs.Common.{◌≡◌, ℕ, ◌+◌, ◌||◌, Bool, true, false, List, [], ◌∷◌, ◌++◌, length, refl, sym, ap, ◌∙◌, append_assoc, append-nil, Option, length-append, subst, arith}
use Rattle.std.proofs.lemmas.Grind.{flat_map-append}
use Rattle.std.proofs.lemmas.List.Folds.{list_any-append}
use Rattle.std.proofs.KnownBytes.{Appends-trans, Appends-nil}
use Rattle.std.specs.List.{list_any}
use Rattle.std.specs.Io.KnownBytes.{Appends}
use Rattle.script_answers.proofs.Prelude.{answers, ending_of, fault_ending, is_refusal, names_kept_of, names_kept_of_line, names_of, names_of_line, of_files, of_write, stand_of, state_after, text_of_lines, AreAsked, Ask, Contents, Ending, FileError, Goes, Halts, IsAllWritten, IsAtStand, IsOfFiles, IsSureOfFiles, KeepsFiles, Limits, Line, Run, Served, Serves, Stand, State, Takes}
use Rattle.script_answers.specs.declared.run_fault.RunFault.{RunFault}
use Rattle.script_answers.specs.declared.task.Task.{Task}
use Rattle.outside.specs.declared.faults.WriteError.{WriteError}
use Rattle.outside.specs.declared.faults.WriteError.TheVariants.{Failed as WriteFailed, NoMemory as WriteNoMemory}
use Rattle.outside.specs.declared.faults.FileError.TheVariants.{Failed as FileFailed, NoMemory as FileNoMemory}
use Rattle.std.specs.Prelude.{flat_map, Result, Ok, Err, IsErrAnd, IsErrOf}
use Rattle.script_answers.proofs.Scripts.{all_answered-append, all_held, answers-append, none_apart, read_behind, read_front, state_after-append}
use Rattle.script_answers.proofs.Stops.{stopped_as, stopped_before, stopped_behind, stopped_more}
pub use Rattle.answer_text.proofs.PageLemmas.{or_assoc}

pub or_false : (a : Bool) → a ≡ (a || false)
or_false true = refl
or_false false = refl

module _ (limits : Limits) where
  -- no line was to be answered
  pub serves_none : (here : Stand) (old : Option (List ℕ)) → Serves limits [] here here old old
  serves_none here old = record {
    completed = omega arith;
    served = λ state at read. record { answered = tt; at = at; refused_is = or_false here.refused; written = Appends-nil old };
  }

  served_on : (state : State) (xs ys : List Line) (before mid after : Stand) (old middle new : Option (List ℕ)) → Served limits state xs before mid old middle →
      Served limits (state_after limits state xs) ys mid after middle new → Served limits state (xs ++ ys) before after old new
  served_on state xs ys before mid after old middle new first then =
      let lines = answers-append limits state xs ys first.answered in
      let later = answers limits (state_after limits state xs) ys in
      record {
        answered = all_answered-append limits state xs ys first.answered then.answered;
        at = subst (IsAtStand after) (sym (state_after-append limits state xs ys)) then.at;
        refused_is = then.refused_is ∙ or_assoc mid.refused before.refused (list_any is_refusal (answers limits state xs)) (list_any is_refusal later) first.refused_is
            ∙ ap (λ r. before.refused || r) (sym (list_any-append is_refusal (answers limits state xs) later) ∙ ap (list_any is_refusal) (sym lines));
        written = subst (Appends old new) (sym (ap text_of_lines lines ∙ flat_map-append _ (answers limits state xs) later)) (Appends-trans old middle new _ _ first.written then.written);
      }

  -- some lines were answered, and those after them
  pub serves_on : (xs ys : List Line) (before mid after : Stand) (old middle new : Option (List ℕ)) → Serves limits xs before mid old middle → Serves limits ys mid after middle new →
      Serves limits (xs ++ ys) before after old new
  serves_on xs ys before mid after old middle new first then = record {
    completed = let a = first.completed in let b = then.completed in let long = length-append xs ys in omega (arith, a, b, long);
    served = λ state at read.
        let here = first.served state at (read_front limits state xs ys read) in
        served_on state xs ys before mid after old middle new here (then.served (state_after limits state xs) here.at (read_behind limits state xs ys read));
  }

  -- some lines were answered, and it ended among those after them
  pub halts_on : (all xs ys : List Line) (how : Ending) (kept : Type 0) (before mid after : Stand) (old middle new : Option (List ℕ)) → all ≡ xs ++ ys → Serves limits xs before mid old middle →
      Halts limits ys how kept mid after middle new → Halts limits all how kept before after old new
  halts_on all xs ys how kept before mid after old middle new whole first then = subst (λ (l : List Line). Halts limits l how kept before after old new) (sym whole) (λ state at read.
      let here = first.served state at (read_front limits state xs ys read) in
      let next = then (state_after limits state xs) here.at (read_behind limits state xs ys read) in
      record {
        taken = length xs + next.taken;
        completed = let a = first.completed in let b = next.completed in omega (arith, a, b);
        stopped = stopped_behind limits state xs ys next.taken after.engine.version how kept after.held old middle new here.answered here.written next.stopped;
      })

  -- it ended among the first of some lines
  pub halts_more : (all xs ys : List Line) (how : Ending) (kept : Type 0) (before after : Stand) (old new : Option (List ℕ)) → all ≡ xs ++ ys → Halts limits xs how kept before after old new →
      Halts limits all how kept before after old new
  halts_more all xs ys how kept before after old new whole halts = subst (λ (l : List Line). Halts limits l how kept before after old new) (sym whole) (λ state at read.
      let here = halts state at (read_front limits state xs ys read) in
      record { taken = here.taken; completed = here.completed; stopped = stopped_more limits state xs ys here.taken after.engine.version how kept after.held old new here.stopped })

  -- it ended where each keep succeeded if these did
  pub halts_as : (xs : List Line) (how : Ending) (kept kept' : Type 0) (before after : Stand) (old new : Option (List ℕ)) → (kept' → kept) → Halts limits xs how kept before after old new → Halts limits xs how kept' before after old new
  halts_as xs how kept kept' before after old new so halts = λ state at read.
      let here = halts state at read in
      record { taken = here.taken; completed = here.completed; stopped = stopped_as limits state xs here.taken after.engine.version how kept kept' after.held old new so here.stopped }

  -- it ended before any of some lines
  pub halts_here : (xs : List Line) (how : Ending) (kept : Type 0) (here : Stand) (old : Option (List ℕ)) → (IsOfFiles how → ⊥) → Halts limits xs how kept here here old old
  halts_here xs how kept here old ours = λ state at read. record {
    taken = 0;
    completed = omega arith;
    stopped = stopped_before limits state xs here.engine.version how kept here.held old at.keeps.stands (all_held _ state.files here.held at.files) (λ kept. at.files) (λ failed. absurd (ours failed));
  }

  -- no line has come
  pub goes_none : (all : List Line) (asks : List Ask) (here : Stand) (old : Option (List ℕ)) → asks ≡ [] → Goes limits all all asks here here old old
  goes_none all asks here old none = record { taken = []; waiting = []; whole = refl; are = subst (λ (a : List Ask). AreAsked a []) (sym none) tt; serves = serves_none here old }

  -- the query of a line waits with those before it
  pub goes_waits : (waiting rest : List Line) (line : Line) (asks : List Ask) (here : Stand) (old : Option (List ℕ)) → AreAsked asks (waiting ++ line ∷ []) → Goes limits (waiting ++ line ∷ rest) rest asks here here old old
  goes_waits waiting rest line asks here old are = record { taken = []; waiting = waiting ++ line ∷ []; whole = sym (append_assoc waiting (line ∷ []) rest); are = are; serves = serves_none here old }

  -- a line was served with those before it, and no query waits
  pub goes_served : (waiting rest : List Line) (line : Line) (before after : Stand) (old new : Option (List ℕ)) → Serves limits (waiting ++ line ∷ []) before after old new → Goes limits (waiting ++ line ∷ rest) rest [] before after old new
  goes_served waiting rest line before after old new serves = record { taken = waiting ++ line ∷ []; waiting = []; whole = sym (append_assoc waiting (line ∷ []) rest); are = tt; serves = serves }

  -- a line more
  pub goes_on : (all rest rest' : List Line) (line : Line) (asks asks' : List Ask) (before mid after : Stand) (old middle new : Option (List ℕ)) → rest ≡ line ∷ rest' → Goes limits all rest asks before mid old middle →
      ((waiting : List Line) → AreAsked asks waiting → Goes limits (waiting ++ line ∷ rest') rest' asks' mid after middle new) → Goes limits all rest' asks' before after old new
  goes_on all rest rest' line asks asks' before mid after old middle new is goes step =
      let next = step goes.waiting goes.are in
      record {
        taken = goes.taken ++ next.taken;
        waiting = next.waiting;
        whole = goes.whole ∙ ap (λ (l : List Line). goes.taken ++ (goes.waiting ++ l)) is ∙ ap (λ (l : List Line). goes.taken ++ l) next.whole ∙ sym (append_assoc goes.taken next.taken (next.waiting ++ rest'));
        are = next.are;
        serves = serves_on goes.taken next.taken before mid after old middle new goes.serves next.serves;
      }

  -- it ended among the lines that were not served yet
  pub goes_halts : (all rest : List Line) (asks : List Ask) (how : Ending) (kept : Type 0) (before mid after : Stand) (old middle new : Option (List ℕ)) → Goes limits all rest asks before mid old middle →
      ((waiting : List Line) → AreAsked asks waiting → Halts limits (waiting ++ rest) how kept mid after middle new) → Halts limits all how kept before after old new
  goes_halts all rest asks how kept before mid after old middle new goes step =
      halts_on all goes.taken (goes.waiting ++ rest) how kept before mid after old middle new goes.whole goes.serves (step goes.waiting goes.are)

  -- no line is to come, and the queries that wait are answered
  pub goes_all : (all rest : List Line) (asks : List Ask) (before mid after : Stand) (old middle new : Option (List ℕ)) → rest ≡ [] → Goes limits all rest asks before mid old middle →
      ((waiting : List Line) → AreAsked asks waiting → Serves limits waiting mid after middle new) → Serves limits all before after old new
  goes_all all rest asks before mid after old middle new none goes step =
      subst (λ (l : List Line). Serves limits l before after old new) (sym (goes.whole ∙ ap (λ (l : List Line). goes.taken ++ (goes.waiting ++ l)) none ∙ ap (λ (l : List Line). goes.taken ++ l) (append-nil goes.waiting)))
      (serves_on goes.taken goes.waiting before mid after old middle new goes.serves (step goes.waiting goes.are))

-- how a call ended, by its fault
pub ending_is : {T : Type 0} (r : Result T RunFault) (fault : RunFault) → IsErrAnd r (λ e. e ≡ fault) → ending_of r ≡ fault_ending fault
ending_is (Ok v) fault is = absurd is
ending_is (Err e) fault is = ap fault_ending is

-- a write that failed, or for which there was no memory
pub lost_write : (fault : WriteError) → IsAllWritten (fault_ending (of_write fault)) → ⊥
lost_write WriteFailed due = due
lost_write WriteNoMemory due = due

pub no_files : (fault : WriteError) → IsOfFiles (fault_ending (of_write fault)) → ⊥
no_files WriteFailed due = due
no_files WriteNoMemory due = due

-- only a load or a keep that failed is a fault of the files
pub named_fault : {T : Type 0} {names : List (List ℕ)} (fault : FileError) → (IsErrOf {T = T} (Err fault) FileFailed → names ≡ [] → ⊥) → IsOfFiles (fault_ending (of_files fault)) → names ≡ [] → ⊥
named_fault FileFailed named failed = named refl
named_fault FileNoMemory named failed = absurd failed

-- if no line has a name, the next one has none
none_next : (f : Line → List (List ℕ)) (all taken waiting rest : List Line) (line : Line) → all ≡ taken ++ (waiting ++ line ∷ rest) → flat_map f all ≡ [] → f line ≡ []
none_next f all taken waiting rest line is none =
    let later = (none_apart f taken (waiting ++ line ∷ rest) (ap (flat_map f) (sym is) ∙ none)).1 in
    sym (append-nil (f line)) ∙ (none_apart f (line ∷ []) rest (none_apart f waiting (line ∷ rest) later).1).0

-- what some lines leave of the files, and then the next of these lines
pub keeps_on : {T U F : Type 0} (f f' f'' : F) (h h' h'' : Option Contents) (n n' n'' : ℕ) (limits : Limits) (all rest rest' : List Line) (line : Line) (asks : List Ask) (before mid : Stand) (old middle : Option (List ℕ))
    (names kept : List (List ℕ)) (r : Result T RunFault) (r' : Result U RunFault) → rest ≡ line ∷ rest' → Goes limits all rest asks before mid old middle → names_of_line line ≡ names → names_kept_of_line line ≡ kept →
    KeepsFiles {T = Unit} (names_of all) (names_kept_of all) (f' ≡ f) (h' ≡ h) (n' ≡ n) (Ok tt) → KeepsFiles names kept (f'' ≡ f') (h'' ≡ h') (n'' ≡ n') r → (IsSureOfFiles r' → IsSureOfFiles r) →
    KeepsFiles (names_of all) (names_kept_of all) (f'' ≡ f) (h'' ≡ h) (n'' ≡ n) r'
keeps_on f f' f'' h h' h'' n n' n'' limits all rest rest' line asks before mid old middle names kept r r' is goes names_are kept_are so_far step sure =
    let whole = goes.whole ∙ ap (λ (l : List Line). goes.taken ++ (goes.waiting ++ l)) is in
    record {
      quiet = λ none. step.quiet (sym names_are ∙ none_next names_of_line all goes.taken goes.waiting rest' line whole none) ∙ so_far.quiet none;
      unsaved = λ none. step.unsaved (sym kept_are ∙ none_next names_kept_of_line all goes.taken goes.waiting rest' line whole none) ∙ so_far.unsaved none;
      sure = λ due. step.sure (sure due) ∙ so_far.sure tt;
    }

-- what was sure of the fault is sure of the result
pub sure_as : {T : Type 0} (r : Result T RunFault) (fault : RunFault) → IsErrAnd r (λ e. e ≡ fault) → IsSureOfFiles r → IsSureOfFiles {T = T} (Err fault)
sure_as {T} (Ok v) fault is sure = absurd is
sure_as {T} (Err e) fault is sure = subst (λ (f : RunFault). IsSureOfFiles {T = T} (Err f)) is sure

module _ (limits : Limits) (asks_for : Line → Type 0) (before after : Run) where
  -- the run ended at a line
  pub ends_at : {T : Type 0} (kept : Type 0) (r : Result T RunFault) (fault : RunFault) → IsErrAnd r (λ e. e ≡ fault) → ((waiting rest : List Line) (line : Line) → AreAsked before.asks waiting → asks_for line →
      Halts limits (waiting ++ line ∷ rest) (fault_ending fault) kept (stand_of before) (stand_of after) before.written after.written) → Takes limits asks_for kept before after r
  ends_at kept (Ok v) fault is halts = absurd is
  ends_at kept (Err e) fault is halts = record { goes = tt; halts = λ waiting rest line are asks. rw is (halts waiting rest line are asks); serving = tt; each = tt }

  -- it took a line, or ended there, where each keep succeeded if these did
  pub takes_as : {T : Type 0} (kept kept' : Type 0) (r : Result T RunFault) → (kept' → kept) → Takes limits asks_for kept before after r → Takes limits asks_for kept' before after r
  takes_as kept kept' (Ok v) so takes = record { goes = takes.goes; halts = tt; serving = takes.serving; each = takes.each }
  takes_as kept kept' (Err e) so takes = record {
    goes = tt;
    halts = λ waiting rest line are asks. halts_as limits (waiting ++ line ∷ rest) _ kept kept' _ _ _ _ so (takes.halts waiting rest line are asks);
    serving = tt;
    each = tt;
  }

-- for which it was asked is said in another way
pub takes_for : {T : Type 0} (limits : Limits) (kept : Type 0) (before after : Run) (r : Result T RunFault) (asks_for : Task → Line → Type 0) (task known : Task) → task ≡ known → Takes limits (asks_for known) kept before after r →
    Takes limits (asks_for task) kept before after r
takes_for limits kept before after r asks_for task known is takes = subst (λ (t : Task). Takes limits (asks_for t) kept before after r) (sym is) takes
