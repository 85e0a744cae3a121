-- The replies to what lines ask for, by what an engine does.
use Rattle.std.proofs.Common.{◌≡◌, ℕ, Bool, true, false, refl, sym, None, subst}
use Rattle.script_answers.proofs.Prelude.{del_reply, file_with_id, files_of, has_file, refusal_lines, unchanged, EngineContent, Follows, Keeps, Reply, StandsFor, State, VersionContent}
use Rattle.live_version.proofs.PartLaws.{has_files}
use Rattle.script_lang.specs.declared.refusals.Refusal.TheVariants.{NoFile}
use Rattle.answer_text.specs.declared.answer.Answer.TheVariants.{Refused}
use Rattle.script_lang.specs.declared.refusals.Refusal.{Refusal}

-- no surviving file has the id
pub not_there : (v : VersionContent) (state : State) (id : ℕ) → StandsFor v state.collection → file_with_id id (files_of v.slots) ≡ None → del_reply state id ≡ unchanged state (refusal_lines (NoFile id))
not_there v state id stands none = by_case (has_file state.collection id) refl
  where
    by_case : (b : Bool) → has_file state.collection id ≡ b → del_reply state id ≡ unchanged state (refusal_lines (NoFile id))
    by_case false is = rw is refl
    by_case true is = let some = (has_files v state.collection id stands).1 is in absurd (cc (rw none at some))

-- a refusal, which changes nothing
pub refused_follows : (reply : Reply) (state : State) (refusal : Refusal) (before after : EngineContent) → reply ≡ unchanged state (refusal_lines refusal) →
    Keeps before false state → after ≡ before → Follows reply state after false (Refused refusal)
refused_follows reply state refusal before after is keeps same =
    subst (λ (r : Reply). Follows r state after false (Refused refusal)) (sym is)
    (record { keeps = subst (λ (e : EngineContent). Keeps e false state) (sym same) keeps; lines = refl; still = λ no. (refl, refl) })
