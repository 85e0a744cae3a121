-- What an action asks for, what its answer says, and where the texts before and after it may differ.
use Rattle.std.specs.Prelude.{◌≡◌, ◌⊎◌, ℕ, ◌+◌, ◌-◌, ⊤, IfSome, Bool, true, false, List, [], ◌∷◌, Option, None, Some, if◌then◌else◌}
use Rattle.gcl_model.specs.Texts.{Text}
use Rattle.address_space.specs.Runs.{FileEntry}
use Rattle.gcl_locality.specs.Agreement.{AgreeOutside}
use Rattle.live_version.specs.Changes.{file_with_id}
use Rattle.live_version.specs.Contents.{VersionContent, files_of, version_text}
use Rattle.manifest_publish.specs.Accounts.{Account, EndsWith}
use Rattle.collection.specs.Engines.{EngineContent}
use Rattle.script_lang.specs.Answers.{file_line, gone_line, merging_line, opened_line, saved_line, shards_line, watch_line, unwatched_line}
use Rattle.standing_query.specs.Watches.{WatchListContent}
use Rattle.answer_text.specs.Texts.{listing_lines, refusal_lines}
use Rattle.answer_text.specs.declared.action.Action.{Action}
use Rattle.answer_text.specs.declared.action.Action.TheVariants.{Add, Delete, Open, Merge}
use Rattle.answer_text.specs.declared.answer.Answer.{Answer}
use Rattle.answer_text.specs.declared.answer.Answer.TheVariants.{Added, Gone, Files, Merging, Slots, Saved, Opened, Watching, Unwatched, Refused}

-- whether it may change the collection: then the watches report what changed
abbrev pub edits : Action → Bool
edits (Add name) = true
edits (Delete id) = true
edits (Open name) = true
edits _ = false

-- whether a merge is pending after it
abbrev pub merges : Action → Bool
merges Merge = true
merges _ = false

-- the lines of an answer; those of a list of files are of the files of this version
abbrev pub answer_lines : VersionContent → Answer → List (List ℕ)
answer_lines version (Added id first last) = file_line id first last ∷ []
answer_lines version (Gone id) = gone_line id ∷ []
answer_lines version Files = listing_lines (files_of version.slots)
answer_lines version Merging = merging_line ∷ []
answer_lines version (Slots count) = shards_line count ∷ []
answer_lines version (Saved bytes) = saved_line bytes ∷ []
answer_lines version (Opened files) = opened_line files ∷ []
answer_lines version (Watching number) = watch_line number ∷ []
answer_lines version (Unwatched number) = unwatched_line number ∷ []
answer_lines version (Refused refusal) = refusal_lines refusal

-- it says that the collection or a file was changed: such a line is completed once that is done
abbrev pub is_change : Answer → Bool
is_change (Added id first last) = true
is_change (Gone id) = true
is_change (Saved bytes) = true
is_change (Opened files) = true
is_change _ = false

-- Before an action there is a pass of the engine's version if it may change what is watched, and only if it may change the collection
abbrev pub IsBefore : Action → EngineContent → WatchListContent → Option Account → Type 0
IsBefore action engine watches None = (edits action ≡ false) ⊎ (watches.live ≡ [])
IsBefore action engine watches (Some pass) = (edits action ≡ true) × EndsWith pass.history engine.version

-- that pass, if the answer says that something was changed
abbrev pub since : Answer → Option Account → Option Account
since given before = if is_change given then before else None

-- The texts of two versions are the same at all addresses except those that a file got, or that the file which is gone had
abbrev pub IsLocal : Answer → VersionContent → VersionContent → Type 0
IsLocal (Added id first last) old new = AgreeOutside (version_text old) (version_text new) first last
IsLocal (Gone id) old new =
    (file : FileEntry) → file_with_id id (files_of old.slots) ≡ Some file → AgreeOutside (version_text old) (version_text new) file.base (file.base + file.len - 1)
IsLocal _ old new = ⊤

-- if it is known that two texts differ only between two addresses, they do
abbrev pub AgreeApart : Option (ℕ × ℕ) → Text → Text → Type 0
AgreeApart range old new = IfSome range (λ r. AgreeOutside old new r.0 r.1)
