-- From what ended a run over a source to the status that reports it.
use Rattle.std.proofs.Common.{◌≡◌, ℕ, ◌+◌, ◌≤◌, ◌<◌, Bool, true, false, List, length, refl, sym, ap, ◌∙◌, subst, arith, Option, None, Some, IfSome, IsSomeAnd}
use Rattle.std.specs.Prelude.{Result, Ok, Err, OnOk, IsErrOf}
use Rattle.std.specs.Io.KnownBytes.{IsAtEnd}
use Rattle.outside.specs.Causes.{Rose}
use Rattle.outside.specs.Contents.{Contents}
use Rattle.script_lang.specs.Lines.{lines}
use Rattle.script_answers.specs.Stopped.{IsStopped}
use Rattle.script_answers.specs.inner.Service.{Counts}
use Rattle.script_answers.specs.declared.limits.Limits.{Limits}
use Rattle.live_version.specs.Contents.{VersionContent}
use Rattle.query_run.specs.Runs.{HasAnswered, IsAnsweredBy, TakesAtMost, WhereTold}
use Rattle.query_run.specs.Statuses.{IsAllAnswered, IsCutOff, IsFinished, IsSureOfFiles, ending_of as status_ending, most_taken}
use Rattle.query_run.specs.inner.Streams.{HasRead, IsSure, ending_of, status_of}
use Rattle.query_run.specs.declared.status.Status.{Status}
use Rattle.query_run.specs.declared.status.Status.TheVariants.{Done, DoneWithRefusals, FileFault, ReadFault, ScriptTooLong, Usage, WriteFault}
use Rattle.query_run.specs.declared.stream_fault.StreamFault.{StreamFault}
use Rattle.query_run.specs.declared.stream_fault.StreamFault.TheVariants.{Read, TooLong, Write, Files, NoMemory}
use Rattle.query_run.proofs.StreamLemmas.{takes_all}
use Rattle.query_run.proofs.WholeScripts.{not_more}

-- The status says what ended the run.

pub never_usage : {T : Type 0} (r : Result T StreamFault) (refused : Bool) → status_of r refused ≡ Usage → ⊥
never_usage (Ok v) false is = cc is
never_usage (Ok v) true is = cc is
never_usage (Err Read) refused is = cc is
never_usage (Err TooLong) refused is = cc is
never_usage (Err Write) refused is = cc is
never_usage (Err Files) refused is = cc is
never_usage (Err NoMemory) refused is = cc is

-- what holds if all was answered holds at the status that says so
answered : {T : Type 0} {P : Type 0} (r : Result T StreamFault) (refused : Bool) → OnOk r P → IsAllAnswered (status_of r refused) → P
answered (Ok v) refused p is = p
answered (Err Read) refused p is = absurd is
answered (Err TooLong) refused p is = absurd is
answered (Err Write) refused p is = absurd is
answered (Err Files) refused p is = absurd is
answered (Err NoMemory) refused p is = absurd is

pub at_answered : {T : Type 0} {P : Type 0} (r : Result T StreamFault) (refused : Bool) (s : Status) → s ≡ status_of r refused → OnOk r P → IsAllAnswered s → P
at_answered r refused s told p is = answered r refused p (subst IsAllAnswered told is)

-- and there the status says whether an answer is a refusal
pub at_done : {T : Type 0} (P : Bool → Type 0) (r : Result T StreamFault) (refused : Bool) → OnOk r (P refused) → status_of r refused ≡ Done → P false
at_done P (Ok v) false p is = p
at_done P (Ok v) true p is = absurd (cc is)
at_done P (Err Read) refused p is = absurd (cc is)
at_done P (Err TooLong) refused p is = absurd (cc is)
at_done P (Err Write) refused p is = absurd (cc is)
at_done P (Err Files) refused p is = absurd (cc is)
at_done P (Err NoMemory) refused p is = absurd (cc is)

pub at_refusals : {T : Type 0} (P : Bool → Type 0) (r : Result T StreamFault) (refused : Bool) → OnOk r (P refused) → status_of r refused ≡ DoneWithRefusals → P true
at_refusals P (Ok v) false p is = absurd (cc is)
at_refusals P (Ok v) true p is = p
at_refusals P (Err Read) refused p is = absurd (cc is)
at_refusals P (Err TooLong) refused p is = absurd (cc is)
at_refusals P (Err Write) refused p is = absurd (cc is)
at_refusals P (Err Files) refused p is = absurd (cc is)
at_refusals P (Err NoMemory) refused p is = absurd (cc is)

same_ending : {T : Type 0} (r : Result T StreamFault) (refused : Bool) → status_ending (status_of r refused) ≡ ending_of r
same_ending (Ok v) false = refl
same_ending (Ok v) true = refl
same_ending (Err Read) refused = refl
same_ending (Err TooLong) refused = refl
same_ending (Err Write) refused = refl
same_ending (Err Files) refused = refl
same_ending (Err NoMemory) refused = refl

sure : {T : Type 0} (r : Result T StreamFault) (refused : Bool) → IsSureOfFiles (status_of r refused) → IsSure r
sure (Ok v) refused is = tt
sure (Err Read) refused is = tt
sure (Err TooLong) refused is = tt
sure (Err Write) refused is = tt
sure (Err Files) refused is = absurd is
sure (Err NoMemory) refused is = absurd is

pub at_sure : {T : Type 0} (r : Result T StreamFault) (refused : Bool) (s : Status) → s ≡ status_of r refused → IsSureOfFiles s → IsSure r
at_sure r refused s told is = sure r refused (subst IsSureOfFiles told is)

pub read_failed : {T : Type 0} (r : Result T StreamFault) (refused : Bool) → status_of r refused ≡ ReadFault → IsErrOf r Read
read_failed (Ok v) false is = absurd (cc is)
read_failed (Ok v) true is = absurd (cc is)
read_failed (Err Read) refused is = refl
read_failed (Err TooLong) refused is = absurd (cc is)
read_failed (Err Write) refused is = absurd (cc is)
read_failed (Err Files) refused is = absurd (cc is)
read_failed (Err NoMemory) refused is = absurd (cc is)

pub too_long : {T : Type 0} (r : Result T StreamFault) (refused : Bool) → status_of r refused ≡ ScriptTooLong → IsErrOf r TooLong
too_long (Ok v) false is = absurd (cc is)
too_long (Ok v) true is = absurd (cc is)
too_long (Err Read) refused is = absurd (cc is)
too_long (Err TooLong) refused is = refl
too_long (Err Write) refused is = absurd (cc is)
too_long (Err Files) refused is = absurd (cc is)
too_long (Err NoMemory) refused is = absurd (cc is)

pub write_failed : {T : Type 0} (r : Result T StreamFault) (refused : Bool) → status_of r refused ≡ WriteFault → IsErrOf r Write
write_failed (Ok v) false is = absurd (cc is)
write_failed (Ok v) true is = absurd (cc is)
write_failed (Err Read) refused is = absurd (cc is)
write_failed (Err TooLong) refused is = absurd (cc is)
write_failed (Err Write) refused is = refl
write_failed (Err Files) refused is = absurd (cc is)
write_failed (Err NoMemory) refused is = absurd (cc is)

pub files_failed : {T : Type 0} (r : Result T StreamFault) (refused : Bool) → status_of r refused ≡ FileFault → IsErrOf r Files
files_failed (Ok v) false is = absurd (cc is)
files_failed (Ok v) true is = absurd (cc is)
files_failed (Err Read) refused is = absurd (cc is)
files_failed (Err TooLong) refused is = absurd (cc is)
files_failed (Err Write) refused is = absurd (cc is)
files_failed (Err Files) refused is = refl
files_failed (Err NoMemory) refused is = absurd (cc is)

-- What follows from it.

-- all lines of a script that was read to its end are answered
pub answered_by : (limits : Limits) (first : ℕ) (left left' : Option (List ℕ)) (held held' : Option Contents) (refusal : Bool) (old new : Option (List ℕ)) → IfSome left (λ script. length script ≤ limits.script) → IsAtEnd left' →
    WhereTold limits (Some first) left held (λ start script. HasAnswered limits start script refusal held' old new) →
    WhereTold limits (Some first) left held (λ start script. IsAnsweredBy limits start script refusal left' held' old new)
answered_by limits first None left' held held' refusal old new short end answered = tt
answered_by limits first (Some script) left' None held' refusal old new short end answered = tt
answered_by limits first (Some script) left' (Some contents) held' refusal old new short end answered = λ images read. record { short = short; read = end; answered = answered images read }

-- no more was taken than the status allows
took : {T : Type 0} (r : Result T StreamFault) (refused : Bool) (most : ℕ) (left left' : Option (List ℕ)) (before now : ℕ) → HasRead most left left' before now r → TakesAtMost (most_taken most (status_of r refused)) left left'
took (Ok v) false most left left' before now read = read.took (λ of. cc of)
took (Ok v) true most left left' before now read = read.took (λ of. cc of)
took (Err Read) refused most left left' before now read = read.took (λ of. cc of)
took (Err TooLong) refused most left left' before now read = takes_all (most + 1) left left' (read.too_long refl)
took (Err Write) refused most left left' before now read = read.took (λ of. cc of)
took (Err Files) refused most left left' before now read = read.took (λ of. cc of)
took (Err NoMemory) refused most left left' before now read = read.took (λ of. cc of)

pub takes_told : {T : Type 0} (r : Result T StreamFault) (refused : Bool) (s : Status) → s ≡ status_of r refused → (most : ℕ) (left left' : Option (List ℕ)) (before now : ℕ) → HasRead most left left' before now r → TakesAtMost (most_taken most s) left left'
takes_told r refused s told most left left' before now read = subst (λ (x : Status). TakesAtMost (most_taken most x) left left') (sym told) (took r refused most left left' before now read)

-- a run that has stopped has stopped with its status
pub stopped_told : {T : Type 0} (r : Result T StreamFault) (refused : Bool) (s : Status) → s ≡ status_of r refused → (limits : Limits) (first completed : ℕ) (version : VersionContent) (kept : Type 0) (left : Option (List ℕ)) (held held' : Option Contents) (old new : Option (List ℕ)) →
    WhereTold limits (Some first) left held (λ start script. IsStopped limits start (lines limits.line script) completed version (ending_of r) kept held' old new) →
    WhereTold limits (Some first) left held (λ start script. IsStopped limits start (lines limits.line script) completed version (status_ending s) kept held' old new)
stopped_told r refused s told limits first completed version kept left held held' old new =
    subst (λ how. WhereTold limits (Some first) left held (λ start script. IsStopped limits start (lines limits.line script) completed version how kept held' old new)) (sym (ap status_ending told ∙ same_ending r refused))

-- if no object failed and the script is within the limit
finished : {T : Type 0} (r : Result T StreamFault) (refused : Bool) (most : ℕ) (left left' : Option (List ℕ)) (source source' sink sink' files files' : ℕ) →
    HasRead most left left' source source' r → Counts sink sink' (IsErrOf r Write) → Counts files files' (IsErrOf r Files) → (Rose source source' → ⊥) → (Rose sink sink' → ⊥) → (Rose files files' → ⊥) →
    IsSomeAnd left (λ script. length script ≤ most) → IsFinished (status_of r refused)
finished (Ok v) false most left left' source source' sink sink' files files' read wrote kept a b c short = tt
finished (Ok v) true most left left' source source' sink sink' files files' read wrote kept a b c short = tt
finished (Err Read) refused most left left' source source' sink sink' files files' read wrote kept a b c short = absurd (a (read.faults.rose refl))
finished (Err TooLong) refused most left left' source source' sink sink' files files' read wrote kept a b c short = absurd (not_more most left left' short (read.too_long refl))
finished (Err Write) refused most left left' source source' sink sink' files files' read wrote kept a b c short = absurd (b (wrote.rose refl))
finished (Err Files) refused most left left' source source' sink sink' files files' read wrote kept a b c short = absurd (c (kept.rose refl))
finished (Err NoMemory) refused most left left' source source' sink sink' files files' read wrote kept a b c short = tt

pub finishes : {T : Type 0} (r : Result T StreamFault) (refused : Bool) (s : Status) → s ≡ status_of r refused → (most : ℕ) (left left' : Option (List ℕ)) (source source' sink sink' files files' : ℕ) →
    HasRead most left left' source source' r → Counts sink sink' (IsErrOf r Write) → Counts files files' (IsErrOf r Files) → (Rose source source' → ⊥) → (Rose sink sink' → ⊥) → (Rose files files' → ⊥) →
    IsSomeAnd left (λ script. length script ≤ most) → IsFinished s
finishes r refused s told most left left' source source' sink sink' files files' read wrote kept a b c script = subst IsFinished (sym told) (finished r refused most left left' source source' sink sink' files files' read wrote kept a b c script)

-- a script that is longer is not within the limit
not_within : (most : ℕ) (left : Option (List ℕ)) → IfSome left (λ script. length script ≤ most) → IsSomeAnd left (λ script. most < length script) → ⊥
not_within most None short longer = longer
not_within most (Some script) short longer = omega (arith, short, longer)

-- and if it is longer
cut : {T : Type 0} (r : Result T StreamFault) (refused : Bool) (most : ℕ) (left left' : Option (List ℕ)) (source source' sink sink' files files' : ℕ) →
    HasRead most left left' source source' r → Counts sink sink' (IsErrOf r Write) → Counts files files' (IsErrOf r Files) → (Rose source source' → ⊥) → (Rose sink sink' → ⊥) → (Rose files files' → ⊥) →
    IsSomeAnd left (λ script. most < length script) → IsCutOff (status_of r refused)
cut (Ok v) refused most left left' source source' sink sink' files files' read wrote kept a b c longer = absurd (not_within most left read.short longer)
cut (Err Read) refused most left left' source source' sink sink' files files' read wrote kept a b c longer = absurd (a (read.faults.rose refl))
cut (Err TooLong) refused most left left' source source' sink sink' files files' read wrote kept a b c longer = tt
cut (Err Write) refused most left left' source source' sink sink' files files' read wrote kept a b c longer = absurd (b (wrote.rose refl))
cut (Err Files) refused most left left' source source' sink sink' files files' read wrote kept a b c longer = absurd (c (kept.rose refl))
cut (Err NoMemory) refused most left left' source source' sink sink' files files' read wrote kept a b c longer = tt

pub cut_off : {T : Type 0} (r : Result T StreamFault) (refused : Bool) (s : Status) → s ≡ status_of r refused → (most : ℕ) (left left' : Option (List ℕ)) (source source' sink sink' files files' : ℕ) →
    HasRead most left left' source source' r → Counts sink sink' (IsErrOf r Write) → Counts files files' (IsErrOf r Files) → (Rose source source' → ⊥) → (Rose sink sink' → ⊥) → (Rose files files' → ⊥) →
    IsSomeAnd left (λ script. most < length script) → IsCutOff s
cut_off r refused s told most left left' source source' sink sink' files files' read wrote kept a b c script = subst IsCutOff (sym told) (cut r refused most left left' source source' sink sink' files files' read wrote kept a b c script)

-- an object that the status does not name has no new fault
pub source_calm : {T : Type 0} (r : Result T StreamFault) (refused : Bool) (before now : ℕ) → Counts before now (IsErrOf r Read) → (status_of r refused ≡ ReadFault → ⊥) → now ≡ before
source_calm {T} r refused before now counts calm = counts.same (λ of. calm (ap (λ (x : Result T StreamFault). status_of x refused) of))

pub sink_calm : {T : Type 0} (r : Result T StreamFault) (refused : Bool) (before now : ℕ) → Counts before now (IsErrOf r Write) → (status_of r refused ≡ WriteFault → ⊥) → now ≡ before
sink_calm {T} r refused before now counts calm = counts.same (λ of. calm (ap (λ (x : Result T StreamFault). status_of x refused) of))

pub files_calm : {T : Type 0} (r : Result T StreamFault) (refused : Bool) (before now : ℕ) → Counts before now (IsErrOf r Files) → (status_of r refused ≡ FileFault → ⊥) → now ≡ before
files_calm {T} r refused before now counts calm = counts.same (λ of. calm (ap (λ (x : Result T StreamFault). status_of x refused) of))
