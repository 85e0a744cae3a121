use Rattle.std.proofs.Common.{◌≡◌, ℕ, List, [], ◌∷◌, false, Result, Ok, Err, IfOk, OnOk, refl, sym, ap, ◌∙◌, subst, arith, rules}
use Rattle.script_answers.proofs.Prelude.{action_kept, action_names, merges, unchanged, unwatch_reply, Action, Answer, CanBeSaved, EngineContent, IsLocal, IsReadByAction, StepsOn, WatchListContent}
use Rattle.script_answers.specs.inner.Telling.{ActsOn}
use Rattle.std.proofs.lemmas.Result.{IfOk-weaker}
use Rattle.answer_text.specs.declared.action.Action.TheVariants.{Add, Delete, ListFiles, Merge, CountSlots, Save, Open, Watch, Unwatch, Refuse}
use Rattle.script_answers.proofs.WatchReplies.{does_attend, does_other, listed, slots_counted}
use Rattle.script_answers.proofs.acting.act.Goals as goal

-- an action with a name asks for it
asked_name : (action other : Action) (name : List ℕ) → action ≡ other → action_names other ≡ name ∷ [] → action_names action ≡ [] → ⊥
asked_name action other name same is none = let clash : name ∷ [] ≡ [] = sym is ∙ ap action_names (sym same) ∙ none in cc clash

kept_name : (action other : Action) (name : List ℕ) → action ≡ other → action_kept other ≡ name ∷ [] → action_kept action ≡ [] → ⊥
kept_name action other name same is none = let clash : name ∷ [] ≡ [] = sym is ∙ ap action_kept (sym same) ∙ none in cc clash

-- an edit acts on the engine alone
acts_on : (action other : Action) (old new : EngineContent) (watches : WatchListContent) (answer : Answer) → action ≡ other → merges other ≡ false → StepsOn old new false → IsLocal answer old.version new.version
    → ActsOn old new (merges action) watches watches answer
acts_on action other old new watches answer same none steps local = record {
  steps = subst (StepsOn old new) (sym (ap merges same ∙ none)) steps;
  watches_on = record { well_formed = λ all. all; next = omega arith };
  local = local;
}

acts : {E : Type 0} (result : Result Answer E) (action other : Action) (old new : EngineContent) (watches : WatchListContent) → action ≡ other → merges other ≡ false → OnOk result (StepsOn old new false)
    → IfOk result (λ answer. IsLocal answer old.version new.version) → IfOk result (ActsOn old new (merges action) watches watches)
acts (Ok answer) action other old new watches same none steps local = acts_on action other old new watches answer same none steps local
acts (Err e) action other old new watches same none steps local = tt

on_ok : {T E : Type 0} {P : Type 0} (result : Result T E) → P → OnOk result P
on_ok (Ok value) p = p
on_ok (Err e) p = tt

-- a line that publishes nothing
no_steps : (engine : EngineContent) → CanBeSaved engine.version → StepsOn engine engine false
no_steps engine can = record { number = omega arith; savable = can; publisher = refl }

pub returns-in-Add-clause-gives : goal.returns-in-Add-clause-gives
returns-in-Add-clause-gives g c =
    IfOk-weaker c.add.result _ _ (λ answer gives state at watching read.
    does_other c.args.setting.now.limits c.args.action.now (Add c.in-Add.name) state _ _ c.args.watches.now c.args.watches.now answer c.in-Add.is refl watching refl (search rules)) c.add.ensures.gives

pub returns-in-Save-clause-gives : goal.returns-in-Save-clause-gives
returns-in-Save-clause-gives g c =
    IfOk-weaker c.save.result _ _ (λ answer gives state at watching read.
    does_other c.args.setting.now.limits c.args.action.now (Save c.in-Save.name) state _ _ c.args.watches.now c.args.watches.now answer c.in-Save.is refl watching refl (search rules)) c.save.ensures.gives

pub returns-in-Open-clause-gives : goal.returns-in-Open-clause-gives
returns-in-Open-clause-gives g c =
    IfOk-weaker c.open.result _ _ (λ answer gives state at watching read.
    let reads : IsReadByAction state (Open c.in-Open.name) = subst (λ (a : Action). IsReadByAction state a) c.in-Open.is read in
    does_other c.args.setting.now.limits c.args.action.now (Open c.in-Open.name) state _ _ c.args.watches.now c.args.watches.now answer c.in-Open.is refl watching refl (search rules)) c.open.ensures.gives

pub returns-in-ListFiles-clause-gives : goal.returns-in-ListFiles-clause-gives
returns-in-ListFiles-clause-gives g c = λ state at watching read.
    does_other c.args.setting.now.limits c.args.action.now ListFiles state c.args.engine.now (g.F.Files.held c.args.files.now) c.args.watches.now c.args.watches.now _ c.in-ListFiles.is refl watching refl (record { reply = unchanged state _; is = refl; follows = record { keeps = at.keeps; lines = listed state c.args.engine.now at.keeps; still = λ same. (refl, refl) }; files = at.files })

pub returns-in-Merge-clause-gives : goal.returns-in-Merge-clause-gives
returns-in-Merge-clause-gives g c = λ state at watching read.
    does_other c.args.setting.now.limits c.args.action.now Merge state c.args.engine.now (g.F.Files.held c.args.files.now) c.args.watches.now c.args.watches.now _ c.in-Merge.is refl watching refl (search rules)

pub returns-in-CountSlots-clause-gives : goal.returns-in-CountSlots-clause-gives
returns-in-CountSlots-clause-gives g c = λ state at watching read.
    does_other c.args.setting.now.limits c.args.action.now CountSlots state c.args.engine.now (g.F.Files.held c.args.files.now) c.args.watches.now c.args.watches.now _ c.in-CountSlots.is refl watching refl (record { reply = unchanged state _; is = refl; follows = record { keeps = at.keeps; lines = slots_counted state c.args.engine.now _ at.keeps (search rules); still = λ same. (refl, refl) }; files = at.files })

pub returns-in-Refuse-clause-gives : goal.returns-in-Refuse-clause-gives
returns-in-Refuse-clause-gives g c = λ state at watching read.
    does_other c.args.setting.now.limits c.args.action.now (Refuse c.in-Refuse.refusal) state c.args.engine.now (g.F.Files.held c.args.files.now) c.args.watches.now c.args.watches.now _ c.in-Refuse.is refl watching refl (search rules)

pub returns-in_ok-answer-in-Delete-clause-gives : goal.returns-in_ok-answer-in-Delete-clause-gives
returns-in_ok-answer-in-Delete-clause-gives g c = λ state at watching read.
    does_other c.args.setting.now.limits c.args.action.now (Delete c.in-Delete.id) state _ _ c.args.watches.now c.args.watches.now _ c.in-Delete.is refl watching refl (search rules)

pub returns-in_ok-answer-in-Watch-clause-gives : goal.returns-in_ok-answer-in-Watch-clause-gives
returns-in_ok-answer-in-Watch-clause-gives g c = λ state at watching read.
    does_attend c.args.setting.now.limits c.args.action.now (Watch c.in-Watch.query) _ state _ _ _ _ c.in-Watch.is refl refl at.keeps at.files (search rules)

pub returns-in-Unwatch-clause-gives : goal.returns-in-Unwatch-clause-gives
returns-in-Unwatch-clause-gives g c = λ state at watching read.
    does_attend c.args.setting.now.limits c.args.action.now (Unwatch c.in-Unwatch.number) (unwatch_reply state c.in-Unwatch.number) state _ _ _ _ c.in-Unwatch.is refl refl at.keeps at.files (c.unwatch.ensures.is state watching)

pub returns-in-Add-clause-quiet : goal.returns-in-Add-clause-quiet
returns-in-Add-clause-quiet g c = λ none. absurd (asked_name c.args.action.now (Add c.in-Add.name) _ c.in-Add.is refl none)

pub returns-in-Add-clause-named : goal.returns-in-Add-clause-named
returns-in-Add-clause-named g c = λ failed none. asked_name c.args.action.now (Add c.in-Add.name) _ c.in-Add.is refl none

pub returns-in-Add-clause-steps : goal.returns-in-Add-clause-steps
returns-in-Add-clause-steps g c = acts c.add.result c.args.action.now (Add c.in-Add.name) c.args.engine.now c.add.new.engine c.args.watches.now c.in-Add.is refl c.add.ensures.steps c.add.ensures.local

pub returns-in-Save-clause-quiet : goal.returns-in-Save-clause-quiet
returns-in-Save-clause-quiet g c = λ none. absurd (asked_name c.args.action.now (Save c.in-Save.name) _ c.in-Save.is refl none)

pub returns-in-Save-clause-named : goal.returns-in-Save-clause-named
returns-in-Save-clause-named g c = λ failed none. asked_name c.args.action.now (Save c.in-Save.name) _ c.in-Save.is refl none

pub returns-in-Save-clause-unsaved : goal.returns-in-Save-clause-unsaved
returns-in-Save-clause-unsaved g c = λ none. absurd (kept_name c.args.action.now (Save c.in-Save.name) _ c.in-Save.is refl none)

pub returns-in-Open-clause-named : goal.returns-in-Open-clause-named
returns-in-Open-clause-named g c = λ failed none. asked_name c.args.action.now (Open c.in-Open.name) _ c.in-Open.is refl none

pub returns-in-Open-clause-steps : goal.returns-in-Open-clause-steps
returns-in-Open-clause-steps g c = acts c.open.result c.args.action.now (Open c.in-Open.name) c.args.engine.now c.open.new.engine c.args.watches.now c.in-Open.is refl c.open.ensures.steps c.open.ensures.local

pub returns-in-Open-clause-quiet : goal.returns-in-Open-clause-quiet
returns-in-Open-clause-quiet g c = λ none. absurd (asked_name c.args.action.now (Open c.in-Open.name) _ c.in-Open.is refl none)

pub returns-in_ok-answer-in-Delete-clause-steps : goal.returns-in_ok-answer-in-Delete-clause-steps
returns-in_ok-answer-in-Delete-clause-steps g c = acts_on c.args.action.now (Delete c.in-Delete.id) c.args.engine.now c.delete.new.engine c.args.watches.now _ c.in-Delete.is refl c.in_ok-answer-in-Delete.ensures.steps c.in_ok-answer-in-Delete.ensures.local

pub returns-in-Save-clause-steps : goal.returns-in-Save-clause-steps
returns-in-Save-clause-steps g c = acts c.save.result c.args.action.now (Save c.in-Save.name) c.args.engine.now c.args.engine.now c.args.watches.now c.in-Save.is refl (on_ok c.save.result (no_steps c.args.engine.now c.requires.ready.savable)) c.save.ensures.local
