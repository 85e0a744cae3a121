-- If it is known what the source has left and what the files hold, and of what the lines open it is said rightly what it is an image of.
use Rattle.std.proofs.Common.{◌≡◌, ℕ, ◌+◌, ◌||◌, inl, Bool, false, List, [], length, drop, append-nil, refl, sym, ap, ◌∙◌, subst, Option, Some, None, IsSome, IfSome, arith}
use Rattle.outside.specs.Contents.{Contents}
use Rattle.collection.specs.Engines.{EngineContent}
use Rattle.live_version.specs.Contents.{VersionContent}
use Rattle.script_lang.specs.Lines.{Line, lines, text_of_lines}
use Rattle.script_answers.specs.States.{Images, IsFresh, Keeps, State, opening}
use Rattle.script_answers.specs.Answers.{answers, output_by, state_after, AreRead}
use Rattle.query_run.specs.Runs.{WhereTold, WhereMade, WhereMadeBy, HasAnswered, StopsAfter, IsLeftBy, within, made_opening, made_summary}
use Rattle.script_answers.specs.Stopped.{Ending, GetsPart, IsOfFiles, IsStopped, begun}
use Rattle.standing_query.specs.Watches.{watch_list}
use Rattle.script_answers.specs.inner.Service.{Halts, IsAtStand, Serves, Stand, watching_of}
use Rattle.script_answers.proofs.Stops.{stopped_after}
use Rattle.query_run.specs.inner.Streams.{ServesWithin}
use Rattle.live_version.specs.StandsFor.{StandsFor}
use Rattle.script_lang.specs.Answers.{is_refusal}
use Rattle.std.specs.List.{list_any}
use Rattle.query_run.specs.Statuses.{IsFinished, IsMadeEnd}
use Rattle.query_run.specs.declared.status.Status.{Status}
use Rattle.query_run.specs.declared.status.Status.TheVariants.{Done, DoneWithRefusals, Usage, ReadFault, WriteFault, FileFault, NoMemory, ScriptTooLong}
use Rattle.script_answers.specs.declared.limits.Limits.{Limits}
use Rattle.command_words.specs.declared.options.Made.{Made}
use Rattle.command_words.specs.declared.options.Options.{Options}
use Rattle.query_run.proofs.WholeScripts.{fresh_keeps}
use Rattle.script_answers.proofs.Scripts.{part_of_more, read_front}
use Rattle.query_run.proofs.Beginnings.{part_of_all}
use Rattle.std.proofs.KnownBytes.{Appends-nil}

-- at a script, contents and readings that are known
pub told : (limits : Limits) (first : ℕ) (left : Option (List ℕ)) (held : Option Contents) (P : State → List ℕ → Type 0) →
    ((script : List ℕ) (contents : Contents) (images : Images) → left ≡ Some script → held ≡ Some contents → P (opening first contents images) script) → WhereTold limits (Some first) left held P
told limits first None held P h = tt
told limits first (Some script) None P h = tt
told limits first (Some script) (Some contents) P h = λ images read. h script contents images refl refl

-- from one to another
pub told_as : (limits : Limits) (first : ℕ) (left : Option (List ℕ)) (held : Option Contents) (P Q : State → List ℕ → Type 0) →
    ((start : State) (script : List ℕ) → P start script → Q start script) → WhereTold limits (Some first) left held P → WhereTold limits (Some first) left held Q
told_as limits first None held P Q h p = tt
told_as limits first (Some script) None P Q h p = tt
told_as limits first (Some script) (Some contents) P Q h p = λ images read. h (opening first contents images) script (p images read)

-- the same, and what the lines open is read rightly
pub told_read : (limits : Limits) (first : ℕ) (left : Option (List ℕ)) (held : Option Contents) (P : State → List ℕ → Type 0) →
    ((script : List ℕ) (contents : Contents) (images : Images) → left ≡ Some script → held ≡ Some contents → AreRead limits (opening first contents images) (lines limits.line script) → P (opening first contents images) script) →
    WhereTold limits (Some first) left held P
told_read limits first None held P h = tt
told_read limits first (Some script) None P h = tt
told_read limits first (Some script) (Some contents) P h = λ images read. h script contents images refl refl read

-- what is known if the script is
at_script : (left : Option (List ℕ)) (P : List ℕ → Type 0) (script : List ℕ) → left ≡ Some script → IfSome left P → P script
at_script None P script is p = absurd (cc is)
at_script (Some other) P script is p = let same : other ≡ script = cc is in subst P same p

module _ (limits : Limits) (before : Stand) (first : ℕ) (left : Option (List ℕ)) (fresh : IsFresh before.engine before.completed) (is_first : before.engine.version.first ≡ first) (idle : before.pending ≡ false) (unwatched : before.watches ≡ watch_list [] 0) where
  -- the run is at the state before the first line
  begins : (contents : Contents) (images : Images) → before.held ≡ Some contents → IsAtStand before (opening first contents images)
  begins contents images held = record {
    files = held;
    keeps = subst (λ (n : ℕ). Keeps before.engine before.pending (opening n contents images)) is_first
        (subst (λ (w : Bool). Keeps before.engine w (opening before.engine.version.first contents images)) (sym idle) (fresh_keeps before.engine before.completed contents images fresh));
    watching = ap watching_of unwatched;
  }

  -- a run that ended among its lines has stopped there
  pub told_halts : (how : Ending) (kept : Type 0) (now : Stand) (old new : Option (List ℕ)) → IfSome left (λ script. Halts limits (lines limits.line script) how kept before now old new) →
      WhereTold limits (Some first) left before.held (λ start script. IsStopped limits start (lines limits.line script) now.completed now.engine.version how kept now.held old new)
  told_halts how kept now old new halts = told_read limits first left before.held (λ start script. IsStopped limits start (lines limits.line script) now.completed now.engine.version how kept now.held old new)
      (λ script contents images is held read.
      let here = at_script left (λ (t : List ℕ). Halts limits (lines limits.line t) how kept before now old new) script is halts (opening first contents images) (begins contents images held) read in
      let count : here.taken ≡ now.completed = let c = here.completed in let none = fresh.none in omega (arith, c, none) in
      subst (λ (n : ℕ). IsStopped limits (opening first contents images) (lines limits.line script) n now.engine.version how kept now.held old new) count here.stopped)

  -- of a run that served all lines; an engine that keeps all that this one keeps has stopped there, too
  pub told_serves : (how : Ending) (kept : Type 0) (now : Stand) (engine : EngineContent) (old new : Option (List ℕ)) → (IsOfFiles how → ⊥) → ((state : State) → Keeps now.engine now.pending state → StandsFor engine.version state.collection) →
      IfSome left (λ script. Serves limits (lines limits.line script) before now old new) →
      WhereTold limits (Some first) left before.held (λ start script. IsStopped limits start (lines limits.line script) now.completed engine.version how kept now.held old new)
  told_serves how kept now engine old new ours stands serves = told_read limits first left before.held (λ start script. IsStopped limits start (lines limits.line script) now.completed engine.version how kept now.held old new)
      (λ script contents images is held read.
      let all = at_script left (λ (t : List ℕ). Serves limits (lines limits.line t) before now old new) script is serves in
      let here = all.served (opening first contents images) (begins contents images held) read in
      let count : length (lines limits.line script) ≡ now.completed = let c = all.completed in let none = fresh.none in omega (arith, c, none) in
      subst (λ (n : ℕ). IsStopped limits (opening first contents images) (lines limits.line script) n engine.version how kept now.held old new) count
      (stopped_after limits (opening first contents images) (lines limits.line script) engine.version how kept now.held old new (stands (state_after limits (opening first contents images) (lines limits.line script)) here.at.keeps)
      here.written here.at.files ours))

  -- its lines are answered
  pub told_answered : (now : Stand) (old new : Option (List ℕ)) → before.refused ≡ false → IfSome left (λ script. Serves limits (lines limits.line script) before now old new) →
      WhereTold limits (Some first) left before.held (λ start script. HasAnswered limits start script now.refused now.held old new)
  told_answered now old new clean serves = told_read limits first left before.held (λ start script. HasAnswered limits start script now.refused now.held old new)
      (λ script contents images is held read.
      let here = (at_script left (λ (t : List ℕ). Serves limits (lines limits.line t) before now old new) script is serves).served (opening first contents images) (begins contents images held) read in
      record {
        all = here.answered;
        written = here.written;
        refusal_is = here.refused_is ∙ ap (λ (r : Bool). r || list_any is_refusal (answers limits (opening first contents images) (lines limits.line script))) clean;
        files = here.at.files;
      })

  -- and an engine that keeps all that this one keeps, with no merge pending, is left
  pub told_left : (now : Stand) (engine : EngineContent) (old new : Option (List ℕ)) → ((state : State) → Keeps now.engine now.pending state → Keeps engine false state) → IfSome left (λ script. Serves limits (lines limits.line script) before now old new) →
      WhereTold limits (Some first) left before.held (λ start script. IsLeftBy limits start script engine now.completed)
  told_left now engine old new keeps serves = told_read limits first left before.held (λ start script. IsLeftBy limits start script engine now.completed)
      (λ script contents images is held read.
      let all = at_script left (λ (t : List ℕ). Serves limits (lines limits.line t) before now old new) script is serves in
      let here = all.served (opening first contents images) (begins contents images held) read in
      record {
        keeps = keeps (state_after limits (opening first contents images) (lines limits.line script)) here.at.keeps;
        each = let c = all.completed in let none = fresh.none in omega (arith, c, none);
      })

  -- of a script that was too long a part of the output within the limit is written
  pub told_within : (now : Stand) (old new : Option (List ℕ)) → IfSome left (λ script. ServesWithin limits script before now old new) →
      WhereTold limits (Some first) left before.held (λ start script. GetsPart old new (output_by limits start (within limits.script script)))
  told_within now old new serves = told_read limits first left before.held (λ start script. GetsPart old new (output_by limits start (within limits.script script)))
      (λ script contents images is held read.
      let start = opening first contents images in
      let part = at_script left (λ (t : List ℕ). ServesWithin limits t before now old new) script is serves in
      let all = read_front limits start part.served part.later (subst (AreRead limits start) part.first read) in
      let here = part.serves.served start (begins contents images held) all in
      subst (λ (l : List Line). GetsPart old new (text_of_lines (answers limits start l))) (sym part.whole)
      (part_of_more limits start part.served part.rest old new (record { part = text_of_lines (answers limits start part.served); rest = []; whole = sym (append-nil _); written = here.written })))

-- nothing is a part of each text
pub part_before : (limits : Limits) (first : ℕ) (left : Option (List ℕ)) (held : Option Contents) (sink : Option (List ℕ)) (text : State → List ℕ → List ℕ) →
    WhereTold limits (Some first) left held (λ start script. GetsPart sink sink (text start script))
part_before limits first left held sink text = told limits first left held (λ start script. GetsPart sink sink (text start script)) (λ script contents images is_left is_held.
    record { part = []; rest = text (opening first contents images) script; whole = refl; written = Appends-nil sink })

pub nothing_of : (limits : Limits) (first : Option ℕ) (left : Option (List ℕ)) (held : Option Contents) (sink : Option (List ℕ)) (text : State → List ℕ → List ℕ) →
    WhereTold limits first left held (λ start script. GetsPart sink sink (text start script))
nothing_of limits None left held sink text = tt
nothing_of limits (Some first) left held sink text = part_before limits first left held sink text

-- no line is completed, nothing was written, and the files are as they were
pub none_stopped : (limits : Limits) (first : Option ℕ) (how : Ending) (ours : IsOfFiles how → ⊥) (kept : Type 0) (left : Option (List ℕ)) (held : Option Contents) (sink : Option (List ℕ)) →
    WhereTold limits first left held (λ start script. StopsAfter limits start (lines limits.line script) 0 how kept held sink sink)
none_stopped limits None how ours kept left held sink = tt
none_stopped limits (Some first) how ours kept left held sink = told limits first left held (λ start script. StopsAfter limits start (lines limits.line script) 0 how kept held sink sink) (λ script contents images is_left is_held.
    record {
      within = omega arith;
      part = record { part = []; rest = _; whole = refl; written = Appends-nil sink };
      all = λ due. Appends-nil sink;
      files = record { contents = contents; is = is_held; same = λ name. inl refl };
      exact = λ all_kept. is_held;
      named = λ failed. absurd (ours failed);
    })

-- a stop of an engine is one of what it reads and writes
pub stops_after : (limits : Limits) (first : ℕ) (how : Ending) (kept : Type 0) (left : Option (List ℕ)) (held held' : Option Contents) (old new : Option (List ℕ)) (completed : ℕ) (version : VersionContent) →
    WhereTold limits (Some first) left held (λ start script. IsStopped limits start (lines limits.line script) completed version how kept held' old new) →
    WhereTold limits (Some first) left held (λ start script. StopsAfter limits start (lines limits.line script) completed how kept held' old new)
stops_after limits first how kept left held held' old new completed version = told_as limits first left held
    (λ start script. IsStopped limits start (lines limits.line script) completed version how kept held' old new) (λ start script. StopsAfter limits start (lines limits.line script) completed how kept held' old new)
    (λ start script stop. record { within = stop.within; part = stop.part; all = stop.all; files = stop.files; exact = stop.exact; named = stop.named })

-- a stop within a script is a part of its output
pub part_stopped : (limits : Limits) (start : State) (script : List ℕ) (completed : ℕ) (version : VersionContent) (how : Ending) (kept : Type 0) (held : Option Contents) (old new : Option (List ℕ)) →
    IsStopped limits start (lines limits.line script) completed version how kept held old new → GetsPart old new (output_by limits start script)
part_stopped limits start script completed version how kept held old new stop = part_of_all limits start (lines limits.line script) (completed + begun (drop completed (lines limits.line script))) old new stop.part

-- nothing is a part of the summary of a made run
made_before : (first : ℕ) (made : Option Made) (sink : Option (List ℕ)) → IfSome made (λ (m : Made). WhereMade first m (λ start. GetsPart sink sink (made_summary m start)))
made_before first None sink = tt
made_before first (Some made) sink = λ images read. record { part = []; rest = made_summary made (made_opening first made images); whole = refl; written = Appends-nil sink }

pub nothing_of_made : (options : Option Options) (sink : Option (List ℕ)) → WhereMadeBy options (λ made start. GetsPart sink sink (made_summary made start))
nothing_of_made None sink = tt
nothing_of_made (Some options) sink = made_before options.first options.made sink

-- what is as it was is so at each script
pub kept_at : {X : Type 0} (left : Option (List ℕ)) (P : List ℕ → Type 0) (x : X) → IfSome left (λ script. P script → x ≡ x)
kept_at None P x = tt
kept_at (Some script) P x = λ p. refl

-- a made run whose sink did not fail answered all, or is out of memory
pub made_finishes : (s : Status) (Failed : Type 0) → IsMadeEnd s → (s ≡ WriteFault → Failed) → (Failed → ⊥) → IsFinished s
made_finishes Done Failed is cause calm = tt
made_finishes DoneWithRefusals Failed is cause calm = tt
made_finishes NoMemory Failed is cause calm = tt
made_finishes WriteFault Failed is cause calm = absurd (calm (cause refl))
made_finishes Usage Failed is cause calm = absurd is
made_finishes ReadFault Failed is cause calm = absurd is
made_finishes FileFault Failed is cause calm = absurd is
made_finishes ScriptTooLong Failed is cause calm = absurd is

-- whatever the words ask for
pub made_at : (options : Option Options) (Calm : Type 0) (s : Status) → (Calm → IsFinished s) → IfSome options (λ (o : Options). IsSome o.made → Calm → IsFinished s)
made_at None Calm s h = tt
made_at (Some options) Calm s h = λ made calm. h calm

-- a stop is a part of the output of the script, if the script is known
pub told_part : (limits : Limits) (first : ℕ) (how : Ending) (kept : Type 0) (left : Option (List ℕ)) (held held' : Option Contents) (old new : Option (List ℕ)) (completed : ℕ) (engine : EngineContent) →
    WhereTold limits (Some first) left held (λ start script. IsStopped limits start (lines limits.line script) completed engine.version how kept held' old new) →
    WhereTold limits (Some first) left held (λ start script. GetsPart old new (output_by limits start script))
told_part limits first how kept left held held' old new completed engine = told_as limits first left held
    (λ start script. IsStopped limits start (lines limits.line script) completed engine.version how kept held' old new) (λ start script. GetsPart old new (output_by limits start script))
    (λ start script stop. part_stopped limits start script completed engine.version how kept held' old new stop)
