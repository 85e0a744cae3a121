-- Batches: the queries of lines, their answers, and what becomes of the engine.
use Rattle.std.proofs.Common.{◌≡◌, ℕ, ◌<◌, zero, suc, Bool, true, false, List, [], ◌∷◌, ◌++◌, length, take, drop, arith, Option, Some, None, IsSome, refl, sym, ap, ◌∙◌, subst}
use Rattle.std.specs.Prelude.{flat_map, if◌then◌else◌}
use Rattle.gcl_model.specs.Extents.{Extent}
use Rattle.script_answers.proofs.Prelude.{after_reply, answer, answers, ask_lines, asked_lines, begun, command_asking, found_in, found_lines, is_query, lines_by, query_lines, refusal_lines, reply, state_after, text_of, unchanged, with_later, AllAnswered, AreAsked, Ask, AsksLine, EngineContent, Keeps, Limits, Line, Reply, State, Text}
use Rattle.gcl_model.specs.Forms.{Form}
use Rattle.gcl_model.specs.Wide.{wide}
use Rattle.gcl_parser.specs.declared.fault.QueryFault.{QueryFault}
use Rattle.gcl_parser.specs.Grammar.{IsQueryWithin}
use Rattle.gcl_parser.specs.Refusal.{refused}
use Rattle.gcl_parser.specs.QueryForm.{query_form}
use Rattle.gcl_parser.proofs.QueryForms.{query_forms_are_of_queries}
use Rattle.script_lang.specs.declared.refusals.Refusal.TheVariants.{Query}
use Rattle.query_lanes.specs.declared.asks.Asked.{Asked}
use Rattle.query_lanes.specs.declared.asks.Asked.TheVariants.{All, First, Number}
use Rattle.query_lanes.specs.Merges.{IsMergedWhere}
use Rattle.script_answers.proofs.TaskLemmas.{of_asking, of_query}

lines_found : (asked : Asked) (list : List Extent) → found_lines (found_in asked list) ≡ asked_lines asked list
lines_found All list = refl
lines_found (First most) list = refl
lines_found Number list = refl

-- the lines of a query that is not refused are those of the one form that it stands for
pub lines_of_form : (asked : Asked) (query : List ℕ) (form : Form) (text : Text) → refused query ≡ None → IsQueryWithin query form
    → found_lines (found_in asked (wide text form)) ≡ query_lines asked text query
lines_of_form asked query form text none within =
    let found : query_form query ≡ Some form = (query_forms_are_of_queries query form).1 within in
    lines_found asked (wide text form) ∙ sym (ap (λ fault. lines_by asked text fault (query_form query)) none ∙ ap (lines_by asked text None) found)

-- and of one that is refused its fault
pub lines_of_fault : (asked : Asked) (query : List ℕ) (wrong : QueryFault) (text : Text) → refused query ≡ Some wrong → refusal_lines (Query wrong) ≡ query_lines asked text query
lines_of_fault asked query wrong text is = sym (ap (λ fault. lines_by asked text fault (query_form query)) is)

pub no_fault : (fault : Option QueryFault) → ((wrong : QueryFault) → fault ≡ Some wrong → ⊥) → fault ≡ None
no_fault None none = refl
no_fault (Some wrong) none = absurd (none wrong refl)

-- while a batch is answered the engine keeps the state, with the merge made if it was pending
pub merged_keeps : (pending : Bool) (old new : EngineContent) (state : State) → IsMergedWhere pending old new → Keeps old pending state → Keeps new false state
merged_keeps true old new state merged keeps = record {
  stands = merged.1.change.stands state.collection keeps.stands;
  slots = keeps.slots ∙ sym (merged.1.change.ranges state.collection keeps.stands);
}
merged_keeps false old new state merged keeps = subst (λ (e : EngineContent). Keeps e false state) (sym merged) keeps

asked_reply : (limits : Limits) (state : State) (asked : Asked) (query : List ℕ) → reply limits state (command_asking asked query) ≡ Some (unchanged state (query_lines asked (text_of state.collection) query))
asked_reply limits state All query = refl
asked_reply limits state (First most) query = refl
asked_reply limits state Number query = refl

-- the answer to a line that asks a query is that to the query, and changes nothing
pub batch_answers : (limits : Limits) (state : State) (ask : Ask) (line : Line) → AsksLine ask line
    → answer limits state line ≡ Some (unchanged state (ask_lines (text_of state.collection) ask))
batch_answers limits state ask line is =
    of_query _ (reply limits state) ask line is ∙ asked_reply limits state ask.asked is.asks.query ∙ ap (λ l. Some (unchanged state l)) (sym (is.asks.lines_are (text_of state.collection)))

-- a batch changes nothing
pub batch_state : (limits : Limits) (state : State) (asks : List Ask) (batch : List Line) → AreAsked asks batch → state_after limits state batch ≡ state
batch_state limits state [] [] are = refl
batch_state limits state [] (line ∷ batch) are = absurd are
batch_state limits state (ask ∷ asks) [] are = absurd are
batch_state limits state (ask ∷ asks) (line ∷ batch) are =
    ap (λ (o : Option Reply). state_after limits (after_reply state o) batch) (batch_answers limits state ask line are.0) ∙ batch_state limits state asks batch are.1

-- its answers are those to its queries, one after the other
pub batch_lines : (limits : Limits) (state : State) (asks : List Ask) (batch : List Line) → AreAsked asks batch
    → answers limits state batch ≡ flat_map (ask_lines (text_of state.collection)) asks
batch_lines limits state [] [] are = refl
batch_lines limits state [] (line ∷ batch) are = absurd are
batch_lines limits state (ask ∷ asks) [] are = absurd are
batch_lines limits state (ask ∷ asks) (line ∷ batch) are =
    ap (λ (o : Option Reply). with_later o (answers limits (after_reply state o) batch)) (batch_answers limits state ask line are.0)
    ∙ ap (λ l. ask_lines (text_of state.collection) ask ++ l) (batch_lines limits state asks batch are.1)

-- each of its lines is answered
pub batch_answered : (limits : Limits) (state : State) (asks : List Ask) (batch : List Line) → AreAsked asks batch → AllAnswered limits state batch
batch_answered limits state [] [] are = tt
batch_answered limits state [] (line ∷ batch) are = absurd are
batch_answered limits state (ask ∷ asks) [] are = absurd are
batch_answered limits state (ask ∷ asks) (line ∷ batch) are =
    let is = batch_answers limits state ask line are.0 in
    (subst IsSome (sym is) refl, subst (λ (o : Option Reply). AllAnswered limits (after_reply state o) batch) (sym is) (batch_answered limits state asks batch are.1))

-- a query more
pub asked_more : (asks : List Ask) (batch : List Line) (ask : Ask) (line : Line) → AreAsked asks batch → AsksLine ask line → AreAsked (asks ++ ask ∷ []) (batch ++ line ∷ [])
asked_more [] [] ask line are is = (is, tt)
asked_more [] (other ∷ batch) ask line are is = absurd are
asked_more (other ∷ asks) [] ask line are is = absurd are
asked_more (other ∷ asks) (first ∷ batch) ask line are is = (are.0, asked_more asks batch ask line are.1 is)

-- the front of a batch
pub asked_front : (n : ℕ) (asks : List Ask) (batch : List Line) → AreAsked asks batch → AreAsked (take n asks) (take n batch)
asked_front zero asks batch are = tt
asked_front (suc n) [] [] are = tt
asked_front (suc n) [] (line ∷ batch) are = absurd are
asked_front (suc n) (ask ∷ asks) [] are = absurd are
asked_front (suc n) (ask ∷ asks) (line ∷ batch) are = (are.0, asked_front n asks batch are.1)

-- of the lines of a batch that are left the first may be answered in part
pub one_begun : (i : ℕ) (asks : List Ask) (batch : List Line) → AreAsked asks batch → i < length batch → begun (drop i batch) ≡ 1
one_begun i [] [] are lt = absurd (omega (arith, lt))
one_begun i [] (line ∷ batch) are lt = absurd are
one_begun i (ask ∷ asks) [] are lt = absurd are
one_begun zero (ask ∷ asks) (line ∷ batch) are lt =
    ap (λ (b : Bool). if b then 1 else 0) (of_query false is_query ask line are.0 ∙ of_asking (λ command. is_query command ≡ true) ask.asked are.0.asks.query refl (λ most. refl) refl)
one_begun (suc i) (ask ∷ asks) (line ∷ batch) are lt = one_begun i asks batch are.1 (omega (arith, lt))
