-- If clap takes the words, and if it does not.
use Rattle.std.proofs.Common.{◌≡◌, ◌∙◌, ◌∷◌, List, [], true, false, cond, Option, Some, None, IfOk, IsNone, Result, Ok, Err, inl, inr, refl, sym, ap, true≢false}
use Rattle.clap.specs.Faults.{fault_of, is_simple_and_free}
use Rattle.clap.specs.Kinds.{HasKind, Kinds}
use Rattle.clap.specs.Values.{kind_of}
use Rattle.clap.specs.Simple.{is_simple, matches_of}
use Rattle.clap.specs.Walk.{Row, Text}
use Rattle.clap.specs.declared.error.Error.{Error}
use Rattle.clap.specs.declared.error.kind.ErrorKind.{ErrorKind}
use Rattle.clap.specs.declared.error.kind.ErrorKind.TheVariants.{OutOfMemory}
use Rattle.grep_words.specs.Program.{program}
use Rattle.grep_words.specs.Grammar.{is_clear, task_in, task_of}
use Rattle.grep_words.specs.declared.task.Task.{Task}

-- clap reports the matches of such a command, and its faults
pub is_simple_program : is_simple program ≡ true
is_simple_program = refl

-- and no argument has a rule on another
pub is_free_program : is_simple_and_free program ≡ true
is_free_program = refl

-- if clap finds no fault, the words ask for what the matches do
pub taken_is : (words : List Text) (rows : List Row) → rows ≡ matches_of program words → fault_of program words ≡ [] → task_in rows ≡ task_of words
taken_is words rows are clear = ap task_in are ∙ sym (open_where (fault_of program words) clear)
  where
    open_where : (kinds : Kinds) → kinds ≡ [] → cond (is_clear kinds) (task_in (matches_of program words)) None ≡ task_in (matches_of program words)
    open_where [] none = refl
    open_where (k ∷ ks) none = absurd (true≢false (sym (ap is_clear none)))

-- if it finds one, they ask for nothing
pub not_taken : (words : List Text) (e : Error) (kinds : Kinds) → kinds ≡ fault_of program words → HasKind kinds e → ¬ (kind_of e ≡ OutOfMemory) → task_of words ≡ None
not_taken words e kinds is (inl memory) other = absurd (other memory)
not_taken words e [] is (inr among) other = absurd among
not_taken words e (k ∷ ks) is (inr among) other = ap (λ kinds. cond (is_clear kinds) (task_in (matches_of program words)) None) (sym is)

-- an answer is one thing and another that is the same
pub on_ok : {T E : Type 0} (r : Result T E) (x y : T) → x ≡ y → IfOk r (λ t. t ≡ x) → IfOk r (λ t. t ≡ y)
on_ok (Ok t) x y is h = h ∙ is
on_ok (Err e) x y is h = tt

-- none is one thing
is_none : (o : Option Task) → IsNone o → o ≡ None
is_none None none = refl
is_none (Some x) none = absurd (true≢false none)

-- a refusal is right if the words ask for nothing, unless an allocation failed
pub refusal_is : {E : Type 0} (r : Result (Option Task) E) (words : List Text) (k : ErrorKind) → (¬ (k ≡ OutOfMemory) → task_of words ≡ None) →
    IfOk r (λ task. IsNone task × ¬ (k ≡ OutOfMemory)) → IfOk r (λ task. task ≡ task_of words)
refusal_is (Ok task) words k nothing h = is_none task h.0 ∙ sym (nothing h.1)
refusal_is (Err e) words k nothing h = tt
