-- What is counted and kept when a call of a line ends.
use Rattle.std.proofs.Common.{◌≡◌, ℕ, ◌+◌, ◌≤◌, Bool, true, false, List, [], ◌∷◌, ◌++◌, length, take, drop, length-append, Result, Ok, Err, IsErrOf, OnOk, refl, sym, ap, ◌∙◌, subst, arith}
use Rattle.std.proofs.lemmas.List.{append-nil, drop_all, take_all}
use Rattle.std.specs.Result.{IsErrAnd}
use Rattle.outside.specs.declared.faults.WriteError.{WriteError}
use Rattle.outside.specs.declared.faults.WriteError.TheVariants.{Failed as WriteFailed, NoMemory as WriteNoMemory}
use Rattle.script_answers.proofs.Prelude.{merges_pending, of_files, of_write, Ask, CanBeSaved, Counts, EngineContent, FileError, IsServing, IsSureOfFiles, Leaves, LeavesSink, VersionContent}
use Rattle.outside.specs.declared.faults.FileError.TheVariants.{Failed as FileFailed, NoMemory as FileNoMemory}
use Rattle.outside.specs.Causes.{CountsFileFault, CountsWriteFault, HasFileCause, HasWriteCause}
use Rattle.live_version.specs.StandsFor.{Keeps as StandsOn}
use Rattle.collection.specs.declared.engine.Opened.{Opened}
use Rattle.script_answers.specs.declared.progress.Progress.{Progress}
use Rattle.query_lanes.specs.Merges.{IsMergedWhere}
use Rattle.script_answers.specs.declared.run_fault.RunFault.{RunFault}
use Rattle.script_answers.specs.declared.run_fault.RunFault.TheVariants.{Write, Files, NoMemory}
use Rattle.script_answers.proofs.Service.{sure_as}

-- the error of a result that is known to be one
pub err_of : {T : Type 0} (r : Result T RunFault) (fault wanted : RunFault) → IsErrAnd r (λ e. e ≡ fault) → IsErrOf r wanted → fault ≡ wanted
err_of (Ok v) fault wanted is of = absurd is
err_of (Err e) fault wanted is of = let same : e ≡ wanted = cc of in sym is ∙ same

of_err : {T : Type 0} (r : Result T RunFault) (fault : RunFault) → IsErrAnd r (λ e. e ≡ fault) → IsErrOf r fault
of_err (Ok v) fault is = absurd is
of_err (Err e) fault is = ap Err is

-- a count that is unchanged, if nothing failed
pub still : {P : Type 0} (before now : ℕ) → now ≡ before → (P → ⊥) → Counts before now P
still before now same none = record { later = omega (arith, same); rose = λ p. absurd (none p); same = λ no. same }

pub calm_done : (before now : ℕ) (wanted : RunFault) → now ≡ before → Counts before now (IsErrOf {T = Unit} (Ok tt) wanted)
calm_done before now wanted same = still before now same (λ of. cc of)

pub calm : {T : Type 0} (before now : ℕ) (r : Result T RunFault) (fault wanted : RunFault) → now ≡ before → IsErrAnd r (λ e. e ≡ fault) → (fault ≡ wanted → ⊥) → Counts before now (IsErrOf r wanted)
calm before now r fault wanted same is other = still before now same (λ of. other (err_of r fault wanted is of))

pub not_write : (fault : FileError) → of_files fault ≡ Write → ⊥
not_write FileFailed same = cc same
not_write FileNoMemory same = cc same

pub not_files : (fault : WriteError) → of_write fault ≡ Files → ⊥
not_files WriteFailed same = cc same
not_files WriteNoMemory same = cc same

-- a fault of the sink, or out of memory there
pub sink_ended : {T U : Type 0} (before mid now : ℕ) (r : Result T RunFault) (fault : WriteError) → mid ≡ before → IsErrAnd r (λ e. e ≡ of_write fault) → CountsWriteFault {T = U} mid now (Err fault) → HasWriteCause {T = U} mid now (Err fault) →
    Counts before now (IsErrOf r Write)
sink_ended {T} before mid now r WriteFailed same is counts cause =
    subst (λ (n : ℕ). Counts n now (IsErrOf r Write)) same (record { later = cause.later; rose = λ of. counts; same = λ no. absurd (no (of_err r Write is)) })
sink_ended before mid now r WriteNoMemory same is counts cause = calm before now r NoMemory Write (counts ∙ same) is (λ same. cc same)

-- a fault of the files, or out of memory there
pub files_ended : {T U : Type 0} (before now : ℕ) (r : Result T RunFault) (fault : FileError) → IsErrAnd r (λ e. e ≡ of_files fault) → CountsFileFault {T = U} before now (Err fault) → HasFileCause {T = U} before now (Err fault) →
    Counts before now (IsErrOf r Files)
files_ended before now r FileFailed is counts cause = record { later = cause.later; rose = λ of. counts; same = λ no. absurd (no (of_err r Files is)) }
files_ended before now r FileNoMemory is counts cause = calm before now r NoMemory Files counts is (λ same. cc same)

-- what was counted of a call is counted of the one that hands its error on
pub counts_as : {T U : Type 0} (before mid now : ℕ) (r : Result T RunFault) (fault wanted : RunFault) → mid ≡ before → IsErrAnd r (λ e. e ≡ fault) → Counts mid now (IsErrOf {T = U} (Err fault) wanted) → Counts before now (IsErrOf r wanted)
counts_as {T} {U} before mid now r fault wanted same is counts =
    subst (λ (n : ℕ). Counts n now (IsErrOf r wanted)) same (record {
      later = counts.later;
      rose = λ of. counts.rose (ap Err (err_of r fault wanted is of));
      same = λ no. counts.same (λ of. no (let at : fault ≡ wanted = cc of in subst (IsErrOf r) at (of_err r fault is)));
    })

-- the count of a call is that of the whole, if it was left before
pub counts_from : {P : Type 0} (before mid now : ℕ) → mid ≡ before → Counts mid now P → Counts before now P
counts_from {P} before mid now same = subst (λ (n : ℕ). Counts n now P) same

-- what is so at success, and so is something more
pub on_ok_both : {T E : Type 0} (P Q : Type 0) (r : Result T E) → OnOk r P → OnOk r Q → OnOk r (P × Q)
on_ok_both P Q (Ok v) p q = (p, q)
on_ok_both P Q (Err e) p q = tt

-- a call that succeeded left the count
pub left : {T : Type 0} (before now : ℕ) (v : T) (wanted : RunFault) → Counts before now (IsErrOf (Ok v) wanted) → now ≡ before
left before now v wanted counts = counts.same (λ of. cc of)

-- a fault of the files, or being out of memory there, says of no file that it was kept
pub unsure : {T : Type 0} (r : Result T RunFault) (fault : FileError) → IsErrAnd r (λ e. e ≡ of_files fault) → IsSureOfFiles r → ⊥
unsure {T} r FileFailed is sure = sure_as r Files is sure
unsure {T} r FileNoMemory is sure = sure_as r NoMemory is sure

-- ---- what a call leaves when it ends

-- out of memory, if it asks no file
pub short_sink : {T : Type 0} (before now : ℕ) (r : Result T RunFault) → IsErrAnd r (λ e. e ≡ NoMemory) → now ≡ before → LeavesSink before now r
short_sink before now r is same = record { ours = λ of. cc (err_of r NoMemory Files is of); sink = calm before now r NoMemory Write same is (λ same. cc same) }

-- of success
pub done_sink : (before now : ℕ) → now ≡ before → LeavesSink {T = Unit} before now (Ok tt)
done_sink before now same = record { ours = λ of. cc of; sink = calm_done before now Write same }

-- what a call left is what the one leaves that hands its error on
pub sink_as : {T U : Type 0} (before now : ℕ) (r : Result T RunFault) (fault : RunFault) → IsErrAnd r (λ e. e ≡ fault) → LeavesSink {T = U} before now (Err fault) → LeavesSink before now r
sink_as before now r fault is leaves = record { ours = λ of. leaves.ours (ap Err (err_of r fault Files is of)); sink = counts_as before before now r fault Write refl is leaves.sink }

module _ {U C A : Type 0} (names kept : List (List ℕ)) (sink sink' faults faults' : ℕ) (quiet : names ≡ [] → U) (unsaved : kept ≡ [] → C) where
  -- of success
  pub done_left : A → sink' ≡ sink → faults' ≡ faults → Leaves {T = Unit} names kept U C A sink sink' faults faults' (Ok tt)
  done_left all same calm_files = record { files = record { quiet = quiet; unsaved = unsaved; sure = λ due. all }; sink = calm_done sink sink' Write same; faults = calm_done faults faults' Files calm_files }

  -- if out of memory
  pub short_left : {T : Type 0} (r : Result T RunFault) → IsErrAnd r (λ e. e ≡ NoMemory) → sink' ≡ sink → faults' ≡ faults → Leaves names kept U C A sink sink' faults faults' r
  short_left r is same calm_files = record {
    files = record { quiet = quiet; unsaved = unsaved; sure = λ due. absurd (sure_as r NoMemory is due) };
    sink = calm sink sink' r NoMemory Write same is (λ same. cc same);
    faults = calm faults faults' r NoMemory Files calm_files is (λ same. cc same);
  }

  -- of a fault of the files
  pub files_left : {T V : Type 0} (r : Result T RunFault) (fault : FileError) → IsErrAnd r (λ e. e ≡ of_files fault) → sink' ≡ sink → CountsFileFault {T = V} faults faults' (Err fault) → HasFileCause {T = V} faults faults' (Err fault) →
      Leaves names kept U C A sink sink' faults faults' r
  files_left r fault is same counts cause = record {
    files = record { quiet = quiet; unsaved = unsaved; sure = λ due. absurd (unsure r fault is due) };
    sink = calm sink sink' r (of_files fault) Write same is (not_write fault);
    faults = files_ended faults faults' r fault is counts cause;
  }

  -- of a fault of the sink, which counted none until then
  pub sink_left : {T V : Type 0} (mid : ℕ) (r : Result T RunFault) (fault : WriteError) → IsErrAnd r (λ e. e ≡ of_write fault) → A → mid ≡ sink → CountsWriteFault {T = V} mid sink' (Err fault) → HasWriteCause {T = V} mid sink' (Err fault) →
      faults' ≡ faults → Leaves names kept U C A sink sink' faults faults' r
  sink_left mid r fault is all same counts cause calm_files = record {
    files = record { quiet = quiet; unsaved = unsaved; sure = λ due. all };
    sink = sink_ended sink mid sink' r fault same is counts cause;
    faults = calm faults faults' r (of_write fault) Files calm_files is (not_files fault);
  }

-- versions are no more than lines
pub numbered : (new mid old lines : ℕ) (merging pending asked : Bool) → merging ≡ asked → new + merges_pending asked ≤ mid + 1 → mid ≤ old + merges_pending pending → old + merges_pending pending ≤ lines → new + merges_pending merging ≤ lines + 1
numbered new mid old lines merging pending asked same step merged numbers = subst (λ (b : Bool). new + merges_pending b ≤ lines + 1) (sym same) (omega (arith, step, merged, numbers))

-- a merge that was made or not
pub merged_number : (pending : Bool) (old new : EngineContent) → IsMergedWhere pending old new → new.version.number ≤ old.version.number + merges_pending pending
merged_number true old new merged = let one = merged.1.change.number in omega (arith, one)
merged_number false old new same = let number = ap (λ (e : EngineContent). e.version.number) same in omega (arith, number)

pub savable_still : (old new : VersionContent) → StandsOn old new → CanBeSaved old → CanBeSaved new
savable_still old new keeps can = (can.0, record { stands = keeps can.0 can.1.stands; sound = can.1.sound; short = can.1.short })

-- a row that was lent and given back with as many members
pub whole_row : {A : Type 0} (new old : List A) (n : ℕ) → n ≡ length old → length new ≡ length old → take n (new ++ drop (length new) old) ≡ new
whole_row new old n is same =
    ap (λ l. take n (new ++ l)) (drop_all (length new) old (omega (arith, same))) ∙ ap (take n) (append-nil new) ∙ take_all n new (omega (arith, same, is))

-- one query more waits
pub serving_more : (opened : Opened) (before after : Progress) (old new : List Ask) (ask : Ask) → new ≡ old ++ ask ∷ [] → after ≡ record before { asked = before.asked + 1 } → IsServing opened before (length old) → IsServing opened after (length new)
serving_more opened before after old new ask pushed is serving =
    let long : length new ≡ length old + 1 = omega (arith, ap length pushed, length-append old (ask ∷ [])) in
    let asked = serving.asked in
    subst (λ (p : Progress). IsServing opened p (length new)) (sym is) (record {
      savable = serving.savable;
      numbers = serving.numbers;
      asked = omega (arith, long, asked);
      lanes = serving.lanes;
      of = serving.of;
      watches = serving.watches;
      numbered = serving.numbered;
    })

-- an empty line more
pub serving_empty : (before after : Opened) (progress : Progress) → after ≡ record before { lines = before.lines + 1 } → IsServing before progress 0 → IsServing after progress 0
serving_empty before after progress is serving =
    let numbers = serving.numbers in
    let asked = serving.asked in
    let numbered = serving.numbered in
    subst (λ (o : Opened). IsServing o progress 0) (sym is) (record {
      savable = serving.savable;
      numbers = omega (arith, numbers);
      asked = omega (arith, asked);
      lanes = serving.lanes;
      of = serving.of;
      watches = serving.watches;
      numbered = omega (arith, numbered);
    })

pub one_longer : {A : Type 0} (old new : List A) (x : A) → new ≡ old ++ x ∷ [] → length new ≡ length old + 1
one_longer old new x pushed = omega (arith, ap length pushed, length-append old (x ∷ []))

-- and the lines that a batch completed
pub within_done : (new old lines many done : ℕ) → new ≤ old → old ≤ lines → done ≡ lines + many → new + 0 ≤ done
within_done new old lines many done step le is = omega arith

pub asked_done : (asked lines waiting many done : ℕ) → many ≡ waiting → done ≡ lines + many → asked ≤ lines + waiting → asked ≤ done + 0
asked_done asked lines waiting many done same is le = omega arith

pub numbered_done : (next lines many done : ℕ) → next ≤ lines → done ≡ lines + many → next ≤ done
numbered_done next lines many done le is = omega arith
