-- What is known of a phrase that repeats one word.
use Rattle.std.proofs.Common.{◌≡◌, ℕ, ◌<◌, true, List, [], ◌∷◌, Option, Some, None, IfSome, is_some, get_or, set, inl, inr, sym, ap, ◌∙◌, subst}
use Rattle.std.proofs.lemmas.Bool.{cases_Bool}
use Rattle.gcl_model.specs.Limits.{address_end}
use Rattle.gcl_model.specs.Extents.{Extent}
use Rattle.gcl_model.specs.Texts.{Text}
use Rattle.gcl_model.specs.Access.{first_start}
use Rattle.gcl_model.specs.Forms.{phrase}
use Rattle.gcl_model.specs.Meaning.{concordance}
use Rattle.phrase_walk.specs.Starts.{IsRow, is_one_word}
use Rattle.phrase_walk.proofs.Members.{found_row}
use Rattle.gcl_eval.specs.KnownAnswers.{KnowsRun, right_before, starts_before}
use Rattle.gcl_eval.specs.declared.known.Known.{Known}

-- the row that is known to start right before an address is a row
pub run_row : (text : Text) (tokens : List (List ℕ)) (last : Option Known) (k : ℕ) (row : Extent) → KnowsRun text tokens last → right_before last k ≡ Some row → IsRow text tokens row
run_row text tokens None k row knows is = absurd cc
run_row text tokens (Some known) k row knows is =
    elim (cases_Bool (starts_before known.answer k)) [
      | inl t ↦ let found : known.answer ≡ Some row = rw t at is in found_row text tokens known.at row (sym found ∙ knows.answer.found)
      | inr f ↦ let none : None ≡ Some row = rw f at is in absurd cc
    ]

-- if something is known, it is of such a phrase
pub known_run : (text : Text) (tokens : List (List ℕ)) (last : Option Known) → KnowsRun text tokens last → is_some last ≡ true → is_one_word tokens ≡ true
known_run text tokens None knows is = absurd cc
known_run text tokens (Some known) knows is = knows.one_word

-- the answer that is kept in the first place is one
pub run_is_kept : (text : Text) (tokens : List (List ℕ)) (known : List (Option Known)) (now : Known) (k : ℕ) (o : Option Extent) → is_one_word tokens ≡ true → now.at ≡ k → now.answer ≡ o →
    o ≡ first_start (concordance text (phrase tokens)) k → IfSome o (λ a. a.end < address_end) → KnowsRun text tokens (get_or (set known 0 (Some now)) 0 None)
run_is_kept text tokens [] now k o one at answer is within = tt
run_is_kept text tokens (x ∷ xs) now k o one at answer is within =
    record {
      one_word = one;
      answer = record {
        found = answer ∙ is ∙ sym (ap (λ n. first_start (concordance text (phrase tokens)) n) at);
        within = subst (λ p. IfSome p (λ a. a.end < address_end)) (sym answer) within;
      };
    }
