-- What is counted when a call that puts an answer ends.
use Rattle.std.proofs.Common.{◌≡◌, ℕ, Result, Ok, Err, refl, sym, ap, ◌∙◌, subst, arith}
use Rattle.std.specs.Result.{IsErrAnd}
use Rattle.outside.specs.Causes.{CountsWriteFault, HasWriteCause, Rose}
use Rattle.outside.specs.declared.faults.WriteError.{WriteError}
use Rattle.outside.specs.declared.faults.WriteError.TheVariants.{Failed as WriteFailed, NoMemory as WriteNoMemory}

-- all went well
pub cause_done : {T : Type 0} (value : T) (old new : ℕ) → new ≡ old → HasWriteCause old new (Ok value)
cause_done value old new same = record { later = omega (arith, same); failed = λ of. absurd (cc of) }

-- there was no memory, and nothing failed before
pub cause_memory : {T : Type 0} (r : Result T WriteError) (old new : ℕ) → new ≡ old → IsErrAnd r (λ e. e ≡ WriteNoMemory) → HasWriteCause old new r
cause_memory (Ok value) old new same is = absurd is
cause_memory (Err e) old new same is = record { later = omega (arith, same); failed = λ of. absurd (cc (of, is)) }

pub counts_memory : {T : Type 0} (r : Result T WriteError) (old new : ℕ) → new ≡ old → IsErrAnd r (λ e. e ≡ WriteNoMemory) → CountsWriteFault old new r
counts_memory (Ok value) old new same is = absurd is
counts_memory (Err WriteNoMemory) old new same is = same
counts_memory (Err WriteFailed) old new same is = absurd (cc is)

-- the error of a result
the_error : {T : Type 0} (r : Result T WriteError) (e fault : WriteError) → r ≡ Err e → r ≡ Err fault → e ≡ fault
the_error r e fault one other = cc

-- a call answered its error, and nothing failed before
pub cause_passed : {T U : Type 0} (r : Result T WriteError) (fault : WriteError) (old mid new : ℕ) → mid ≡ old → IsErrAnd r (λ e. e ≡ fault) → HasWriteCause {T = U} mid new (Err fault)
    → HasWriteCause old new r
cause_passed (Ok value) fault old mid new same is cause = absurd is
cause_passed (Err e) fault old mid new same is cause = record {
  later = omega (arith, same, cause.later);
  failed = λ of. subst (λ (n : ℕ). Rose n new) same (cause.failed (ap Err (sym is ∙ the_error (Err e) e WriteFailed refl of)));
}

pub counts_passed : {T : Type 0} (U : Type 0) (r : Result T WriteError) (fault : WriteError) (old mid new : ℕ) → mid ≡ old → IsErrAnd r (λ e. e ≡ fault) → CountsWriteFault {T = U} mid new (Err fault)
    → CountsWriteFault old new r
counts_passed U (Ok value) fault old mid new same is counts = absurd is
counts_passed U (Err WriteNoMemory) WriteNoMemory old mid new same is counts = counts ∙ same
counts_passed U (Err WriteNoMemory) WriteFailed old mid new same is counts = absurd (cc is)
counts_passed U (Err WriteFailed) WriteNoMemory old mid new same is counts = absurd (cc is)
counts_passed U (Err WriteFailed) WriteFailed old mid new same is counts = subst (λ (n : ℕ). Rose n new) same counts
