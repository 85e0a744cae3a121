-- A line that asks no query, and a stop within it.
use Rattle.std.proofs.Common.{◌≡◌, ℕ, ◌+◌, ◌||◌, inl, Bool, true, false, inr, List, [], ◌∷◌, ◌++◌, refl, sym, ap, ◌∙◌, Option, Some, append-nil, subst, arith}
use Rattle.std.specs.Prelude.{if◌then◌else◌}
use Rattle.std.specs.List.{list_any}
use Rattle.std.specs.Option.{option_map}
use Rattle.std.specs.Io.KnownBytes.{Appends}
use Rattle.std.proofs.KnownBytes.{Appends-nil}
use Rattle.std.proofs.lemmas.Bool.{cases_Bool}
use Rattle.std.proofs.lemmas.Grind.{flat_map-append}
use Rattle.script_answers.proofs.Prelude.{action_kept, action_names, action_reply, answer, answer_lines, completes, edits, is_change, is_refusal, merges, names_kept_of_line, names_of_line, since, telling_where, text_of_lines, told_reply, told_since, unchanged, watching_of, Account, Action, Answer, Collection, Contents, Does, Ending, EngineContent, GetsPart, Halted, Halts, HoldsBut, IsActionOf, IsAllWritten, IsAt, IsAtStand, IsBefore, IsNothing, IsOfFiles, IsReadByAction, Keeps, Limits, Line, Reply, Served, Serves, Stand, StandsFor, State, Unmade, VersionContent, WatchListContent}
use Rattle.script_answers.proofs.TellingLemmas.{told_is}
use Rattle.script_answers.proofs.Service.{or_false}
use Rattle.script_answers.proofs.Stops.{stopped_before, stopped_part}

-- what is reported changes no state
after_telling : (b : Bool) (state : State) (reply : Reply) → (telling_where b state reply).after ≡ reply.after
after_telling true state reply = refl
after_telling false state reply = refl

-- how a run stands once an action was done, and all lines of its answer
pub record Done (limits : Limits) (state : State) (action : Action) (now : Stand) (all : List (List ℕ)) : Type 0 where
  pub reply : Reply
  pub is : told_reply limits state action ≡ Some reply
  pub at : IsAtStand now reply.after
  pub lines : reply.lines ≡ all

pub done_of : (limits : Limits) (state : State) (action : Action) (now : Stand) (given : Answer) → (d : Does (action_reply limits state action) state now.engine now.pending now.held now.watches given) →
    Done limits state action now (telling_where (edits action) state d.gives.reply).lines
done_of limits state action now given d =
    let same = after_telling (edits action) state d.gives.reply in
    record {
      reply = telling_where (edits action) state d.gives.reply;
      is = ap (option_map (telling_where (edits action) state)) d.gives.is;
      at = record {
        files = d.gives.files ∙ ap (λ (s : State). Some s.files) (sym same);
        keeps = subst (Keeps now.engine now.pending) (sym same) d.gives.follows.keeps;
        watching = d.watching ∙ ap (λ (s : State). s.watches) (sym same);
      };
      lines = refl;
    }

-- with what an edit reported after the lines of its answer
pub done_told : (limits : Limits) (state : State) (action : Action) (now : Stand) (old : EngineContent) (watches : WatchListContent) (before : Option Account) (given : Answer) → Keeps old false state → watching_of watches ≡ state.watches →
    IsBefore action old watches before → Does (action_reply limits state action) state now.engine now.pending now.held now.watches given →
    Done limits state action now (answer_lines now.engine.version given ++ told_since (since given before) now.watches now.engine.version)
done_told limits state action now old watches before given keeps watching prior d =
    subst (Done limits state action now) (told_is limits state action old now.engine watches now.watches before now.pending now.held given keeps watching d prior) (done_of limits state action now given d)

-- the text of an answer, with that of what was reported after it
pub text_put : (out : List ℕ) (version : VersionContent) (given : Answer) (o prior : Option Account) (watches : WatchListContent) → out ≡ text_of_lines (answer_lines version given) → o ≡ prior →
    out ++ text_of_lines (told_since o watches version) ≡ text_of_lines (answer_lines version given ++ told_since prior watches version)
text_put out version given o prior watches first same =
    ap (λ (l : List ℕ). l ++ text_of_lines (told_since o watches version)) first
    ∙ ap (λ (p : Option Account). text_of_lines (answer_lines version given) ++ text_of_lines (told_since p watches version)) same
    ∙ sym (flat_map-append _ (answer_lines version given) (told_since prior watches version))

-- an action was done once no merge was pending
pub does_behind : (limits : Limits) (action : Action) (before : Stand) (old engine : EngineContent) (pending : Bool) (held : Option Contents) (watches : WatchListContent) (given : Answer) →
    ((state : State) → Keeps before.engine before.pending state → Keeps old false state) →
    ((state : State) → IsAt before.held old false state → watching_of before.watches ≡ state.watches → IsReadByAction state action → Does (action_reply limits state action) state engine (merges action) held watches given) →
    pending ≡ merges action → (state : State) → IsAtStand before state → IsReadByAction state action → Does (action_reply limits state action) state engine pending held watches given
does_behind limits action before old engine pending held watches given keeps gives merging state at read =
    subst (λ (b : Bool). Does (action_reply limits state action) state engine b held watches given) (sym merging)
    (gives state (record { files = at.files; keeps = keeps state at.keeps }) at.watching read)

-- and what it changed is reported
pub done_behind : (limits : Limits) (action : Action) (before now : Stand) (old : EngineContent) (given : Answer) (prior : Option Account) → ((state : State) → Keeps before.engine before.pending state → Keeps old false state) →
    IsBefore action old before.watches prior → ((state : State) → IsAtStand before state → IsReadByAction state action → Does (action_reply limits state action) state now.engine now.pending now.held now.watches given) →
    (state : State) → IsAtStand before state → IsReadByAction state action → Done limits state action now (answer_lines now.engine.version given ++ told_since (since given prior) now.watches now.engine.version)
done_behind limits action before now old given prior keeps is does state at read = done_told limits state action now old before.watches prior given (keeps state at.keeps) at.watching is (does state at read)

module _ (limits : Limits) where
  -- a line was answered and its answer written
  served_line : (state : State) (line : Line) (reply : Reply) (before now : Stand) (old new : Option (List ℕ)) → answer limits state line ≡ Some reply → IsAtStand now reply.after →
      now.refused ≡ (before.refused || list_any is_refusal reply.lines) → Appends old new (text_of_lines reply.lines) → Served limits state (line ∷ []) before now old new
  served_line state line reply before now old new is at refused written =
      let all = append-nil reply.lines in
      record {
        answered = (rw is refl, tt);
        at = rw is at;
        refused_is = rw is (refused ∙ ap (λ (l : List (List ℕ)). before.refused || list_any is_refusal l) (sym all));
        written = rw is (subst (λ (l : List (List ℕ)). Appends old new (text_of_lines l)) (sym all) written);
      }

  -- an empty line
  pub serves_nothing : (line : Line) (before : Stand) (old : Option (List ℕ)) → IsNothing line → Serves limits (line ∷ []) before (record before { completed = before.completed + 1 }) old old
  serves_nothing line before old nothing = record {
    completed = refl;
    served = λ state at read. served_line state line (unchanged state []) before (record before { completed = before.completed + 1 }) old old (nothing.reply_is limits state) (record { files = at.files; keeps = at.keeps; watching = at.watching }) (or_false before.refused) (Appends-nil old);
  }

  -- what a line asks for was done, and its answer written
  pub serves_action : (action : Action) (line : Line) (all : List (List ℕ)) (before now : Stand) (old new : Option (List ℕ)) → IsActionOf action line → now.completed ≡ before.completed + 1 →
      ((state : State) → IsAtStand before state → IsReadByAction state action → Done limits state action now all) →
      now.refused ≡ (before.refused || list_any is_refusal all) → Appends old new (text_of_lines all) → Serves limits (line ∷ []) before now old new
  serves_action action line all before now old new is count done refused written = record {
    completed = count;
    served = λ state at read.
        let d = done state at (is.reads state read.0) in
        served_line state line d.reply before now old new (is.reply_is limits state ∙ d.is) d.at
        (refused ∙ ap (λ (l : List (List ℕ)). before.refused || list_any is_refusal l) (sym d.lines))
        (subst (λ (l : List (List ℕ)). Appends old new (text_of_lines l)) (sym d.lines) written);
  }

  -- it ended before the change
  pub halts_unmade : (action : Action) (line : Line) (how : Ending) (kept : Type 0) (before now : Stand) (old : Option (List ℕ)) → IsActionOf action line → now.completed ≡ before.completed →
      ((state : State) → IsAtStand before state → IsReadByAction state action → Unmade (action_kept action) kept state now.engine now.held) → (IsOfFiles how → action_names action ≡ [] → ⊥) → Halts limits (line ∷ []) how kept before now old old
  halts_unmade action line how kept before now old is count unmade named = λ state at read.
      let u = unmade state at (is.reads state read.0) in
      record {
        taken = 0;
        completed = let same = count in omega (arith, same);
        stopped = stopped_before limits state (line ∷ []) now.engine.version how kept now.held old u.stands
            (subst (λ (l : List (List ℕ)). HoldsBut l state.files now.held) (sym (append-nil (names_kept_of_line line) ∙ is.kept_are)) u.files) u.exact
            (λ failed none. named failed (sym is.names_are ∙ sym (append-nil (names_of_line line)) ∙ none));
      }

  -- it ended once the line was completed, and of its answer a part is written
  pub halted_made : (state : State) (action : Action) (line : Line) (all : List (List ℕ)) (how : Ending) (kept : Type 0) (before now : Stand) (old new : Option (List ℕ)) → IsActionOf action line → now.completed ≡ before.completed + 1 →
      Done limits state action now all → (IsAllWritten how → ⊥) → (IsOfFiles how → ⊥) → GetsPart old new (text_of_lines all) → Halted limits state (line ∷ []) how kept before now old new
  halted_made state action line all how kept before now old new is count d lost ours part =
      let told = is.reply_is limits state ∙ d.is in
      record {
        taken = 1;
        completed = count;
        stopped = stopped_part limits state (line ∷ []) now.engine.version how kept now.held old new (rw told d.at.keeps.stands)
            (rw told (subst (λ (l : List (List ℕ)). GetsPart old new (text_of_lines l)) (sym (append-nil d.reply.lines ∙ d.lines)) part)) (λ due. absurd (lost due)) (rw told d.at.files) ours;
      }

  -- it ended while the answer was made: the line is completed if a change was made
  pub halts_unsaid : (action : Action) (line : Line) (given : Answer) (how : Ending) (kept : Type 0) (before now : Stand) (old : Option (List ℕ)) → IsActionOf action line → now.completed ≡ before.completed + completes given →
      ((state : State) → IsAtStand before state → IsReadByAction state action → Does (action_reply limits state action) state now.engine now.pending now.held now.watches given) → (IsAllWritten how → ⊥) → (IsOfFiles how → ⊥) →
      Halts limits (line ∷ []) how kept before now old old
  halts_unsaid action line given how kept before now old is count does lost ours = elim (cases_Bool (is_change given)) [
    | inl changed ↦ λ state at read.
        let d = does state at (is.reads state read.0) in
        halted_made state action line _ how kept before now old old is (count ∙ ap (λ (b : Bool). before.completed + (if b then 1 else 0)) changed) (done_of limits state action now given d) lost ours
        (record { part = []; rest = _; whole = refl; written = Appends-nil old })
    | inr still ↦ halts_unmade action line how kept before now old is (let same = count ∙ ap (λ (b : Bool). before.completed + (if b then 1 else 0)) still in omega (arith, same))
        (λ state at read. stays still state at (does state at read)) (λ failed none. ours failed)
  ]
    where
      stays : is_change given ≡ false → (state : State) → IsAtStand before state → Does (action_reply limits state action) state now.engine now.pending now.held now.watches given → Unmade (action_kept action) kept state now.engine now.held
      stays still state at d =
          let g = d.gives in
          let same = g.follows.still still in
          let files : now.held ≡ Some state.files = g.files ∙ ap (λ (f : Contents). Some f) same.1 in
          record {
            stands = subst (λ (c : Collection). StandsFor now.engine.version c) same.0 g.follows.keeps.stands;
            files = record { contents = state.files; is = files; same = λ name. inl refl };
            exact = λ all_kept. files;
          }
