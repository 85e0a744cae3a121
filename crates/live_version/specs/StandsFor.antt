-- The collection that a version stands for, and what changes do to it.
use Rattle.std.specs.Prelude.{◌≡◌, ℕ, List, map}
use Rattle.gcl_model.specs.Collections.{Collection, File, width_of, words_of, with_file, without_file}
use Rattle.address_space.specs.Runs.{FileEntry}
use Rattle.index_shard.specs.Tables.{ShardContent}
use Rattle.live_version.specs.Contents.{SlotContent, VersionContent, files_of, live_of}
use Rattle.live_version.specs.Changes.{HasTokens}

-- what is kept of a file besides its words
abbrev pub entry_of : File → FileEntry
entry_of file = record { id = file.id; base = file.base; len = width_of file.tokens; name = file.name }

-- the numbers agree, the records are those of the collection's files, and the live words are its words at their addresses
pub record StandsFor (v : VersionContent) (c : Collection) : Type 0 where
  pub first : v.first ≡ c.first
  pub next : v.next ≡ c.next
  pub next_id : v.next_id ≡ c.next_id
  pub dels : v.dels ≡ c.dels
  pub files : files_of v.slots ≡ map entry_of c.files
  pub words : live_of v.slots ≡ words_of c

-- the slots have the files and the words of the collection
pub record HoldFilesOf (slots : List SlotContent) (c : Collection) : Type 0 where
  pub files : files_of slots ≡ map entry_of c.files
  pub words : live_of slots ≡ words_of c

-- the second version stands for what the first stands for
abbrev pub Keeps : VersionContent → VersionContent → Type 0
Keeps v w = (c : Collection) → StandsFor v c → StandsFor w c

-- it stands for that with one file more
abbrev pub AddsFile : VersionContent → FileEntry → ShardContent → VersionContent → Type 0
AddsFile v file shard w = (c : Collection) (tokens : List (List ℕ)) → StandsFor v c → HasTokens file shard tokens → StandsFor w (with_file c file.name tokens)

-- it stands for that without the file of this id
abbrev pub DeletesFile : VersionContent → ℕ → VersionContent → Type 0
DeletesFile v id w = (c : Collection) → StandsFor v c → StandsFor w (without_file c id)

-- the version stands for each collection that has its numbers and the files and words of the slots
abbrev pub Opens : List SlotContent → VersionContent → Type 0
Opens slots w = (c : Collection) → c.first ≡ w.first → c.next ≡ w.next → c.next_id ≡ w.next_id → c.dels ≡ w.dels → HoldFilesOf slots c → StandsFor w c
