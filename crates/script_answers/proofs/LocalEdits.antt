-- Between which addresses an edit changes the text.
use Rattle.std.proofs.Common.{◌≡◌, Bool, true, false, ℕ, ◌+◌, ◌-◌, List, Option, Some, None, sym, subst, arith}
use Rattle.std.specs.Prelude.{IfSome, if◌then◌else◌}
use Rattle.gcl_locality.specs.Agreement.{AgreeOutside}
use Rattle.script_answers.proofs.Prelude.{file_with_id, files_of, is_change, last_of, since, version_text, width_of, Account, Action, Answer, CanBeSaved, EngineContent, IsBefore, IsLocal, VersionContent, WatchListContent}
use Rattle.address_space.specs.Runs.{FileEntry}
use Rattle.collection.specs.Changes.{DeletesFileFrom, IsAdd}
use Rattle.collection.specs.declared.engine.Added.{Added}
use Rattle.collection.proofs.EngineLemmas.{last_is}
use Rattle.change_search.specs.Laws.{AddsAgree, DeletesAgree}

-- an add changes it at the addresses that the file got
pub added_local : AddsAgree → (old new : EngineContent) (name : List ℕ) (tokens : List (List ℕ)) (added : Added) → CanBeSaved old.version → IsAdd old new name tokens added →
    AgreeOutside (version_text old.version) (version_text new.version) added.first added.last
added_local agree old new name tokens added can is =
    let last : old.version.next + width_of tokens - 1 ≡ added.last = omega (arith, is.last) in
    let here = agree old.version new.version can.0 name tokens can.1.stands is.change in
    subst (λ (n : ℕ). AgreeOutside (version_text old.version) (version_text new.version) n added.last) (sym is.first)
    (subst (λ (n : ℕ). AgreeOutside (version_text old.version) (version_text new.version) old.version.next n) last here)

-- a deletion at those of the file that is gone
pub deleted_local : DeletesAgree → (v w : VersionContent) (id : ℕ) → CanBeSaved v → DeletesFileFrom v w id → (file : FileEntry) → file_with_id id (files_of v.slots) ≡ Some file →
    AgreeOutside (version_text v) (version_text w) file.base (file.base + file.len - 1)
deleted_local agree v w id can deletes file found = agree v w can.0 id file can.1.stands can.1.sound deletes found

-- what is local of an engine's version is so of that of a pass before it
pub local_since : (action : Action) (old : EngineContent) (watches : WatchListContent) (before : Option Account) (given : Answer) (now : VersionContent) → IsBefore action old watches before → IsLocal given old.version now →
    IfSome (since given before) (λ pass. IsLocal given (last_of pass.history) now)
local_since action old watches before given now prior local = by_before (is_change given) before prior
  where
    by_before : (b : Bool) (o : Option Account) → IsBefore action old watches o → IfSome (if b then o else None) (λ pass. IsLocal given (last_of pass.history) now)
    by_before false o prior = tt
    by_before true None prior = tt
    by_before true (Some pass) prior = subst (λ (v : VersionContent). IsLocal given v now) (sym (last_is pass.history old.version prior.1.1)) local
