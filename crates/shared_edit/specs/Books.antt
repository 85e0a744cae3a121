-- What contracts see of the value under the lock, what is always true of it, and what each call makes of it.
use Rattle.std.specs.Prelude.{◌≡◌, ℕ, ◌+◌, ◌*◌, ◌<◌, ◌≤◌, List, [], ◌∷◌, ◌++◌, length, None}
use Rattle.gcl_model.specs.Collections.{empty_from, width_of}
use Rattle.gcl_model.specs.Limits.{address_end}
use Rattle.gcl_model.specs.Tokens.{tokens_of}
use Rattle.live_version.specs.Changes.{file_with_id}
use Rattle.live_version.specs.Contents.{files_of}
use Rattle.live_version.specs.StandsFor.{StandsFor}
use Rattle.manifest_publish.specs.Accounts.{Account, ReceiptContent}
use Rattle.collection.specs.Changes.{IsAdd, IsDelete}
use Rattle.collection.specs.Engines.{EngineContent, published}
use Rattle.collection.specs.declared.engine.Added.{Added}
use Rattle.shared_edit.specs.declared.entry.Edit.TheVariants.{Add, Del}
use Rattle.shared_edit.specs.declared.entry.EditReply.TheVariants.{Added as WasAdded, Spent, Gone, NotLive}
use Rattle.shared_edit.specs.declared.entry.Entry.{Entry}
use Rattle.shared_edit.specs.Histories.{IsHistory, end_of, count_of, is_added, is_gone, is_refused}

-- the engine, the journal, and how many adds and deletions were accepted and how many edits were refused
pub record BookContent : Type 0 where
  pub engine : EngineContent
  pub journal : List Entry
  pub added : ℕ
  pub gone : ℕ
  pub refused : ℕ

-- what contracts see of a book
abbrev pub book_content : EngineContent → List Entry → ℕ → ℕ → ℕ → BookContent
book_content engine journal added gone refused = record { engine = engine; journal = journal; added = added; gone = gone; refused = refused }

-- the journal is a history of one thread, and the engine stands for the collection at its end
pub record IsJournalOf (engine : EngineContent) (journal : List Entry) : Type 0 where
  pub history : IsHistory (empty_from engine.version.first) journal
  pub stands : StandsFor engine.version (end_of (empty_from engine.version.first) journal)

-- The book's journal is such a history, and the totals count its replies. No version's number comes near the largest number
pub record IsBook (b : BookContent) : Type 0 where
  pub journal : IsJournalOf b.engine b.journal
  pub added : b.added ≡ count_of is_added b.journal
  pub gone : b.gone ≡ count_of is_gone b.journal
  pub refused : b.refused ≡ count_of is_refused b.journal
  pub numbers : b.engine.version.number + length b.engine.version.slots ≤ 2 * b.engine.version.next_id + b.engine.version.dels

-- the entry of an accepted add
abbrev pub added_entry : ℕ → List ℕ → List ℕ → Added → Entry
added_entry editor name bytes added = record { editor = editor; edit = Add name bytes; reply = WasAdded added.id.0 added.first added.last }

-- the entry of an add that was refused
abbrev pub spent_entry : ℕ → List ℕ → List ℕ → ℕ → Entry
spent_entry editor name bytes next = record { editor = editor; edit = Add name bytes; reply = Spent next (width_of (tokens_of bytes)) }

-- the entry of an accepted deletion
abbrev pub gone_entry : ℕ → ℕ → Entry
gone_entry editor id = record { editor = editor; edit = Del id; reply = Gone }

-- the entry of a deletion that was refused
abbrev pub not_live_entry : ℕ → ℕ → Entry
not_live_entry editor id = record { editor = editor; edit = Del id; reply = NotLive id }

-- the engine added the file, and exactly that entry was filed
pub record FilesAdd (old new : BookContent) (editor : ℕ) (name bytes : List ℕ) (added : Added) : Type 0 where
  pub add : IsAdd old.engine new.engine name (tokens_of bytes) added
  pub book : new ≡ book_content new.engine (old.journal ++ added_entry editor name bytes added ∷ []) (old.added + 1) old.gone old.refused

-- the file needs more addresses than there are, as the engine's pass shows, and exactly that entry was filed
pub record FilesSpent (old new : BookContent) (editor : ℕ) (name bytes : List ℕ) (need : ℕ) (seen : Account) : Type 0 where
  pub needed : need ≡ width_of (tokens_of bytes)
  pub seen_is : seen ≡ published old.engine
  pub past : address_end < old.engine.version.next + need
  pub book : new ≡ book_content old.engine (old.journal ++ spent_entry editor name bytes old.engine.version.next ∷ []) old.added old.gone (old.refused + 1)

-- the engine deleted the file, and exactly that entry was filed
pub record FilesGone (old new : BookContent) (editor id : ℕ) (receipt : ReceiptContent) : Type 0 where
  pub delete : IsDelete old.engine new.engine id receipt
  pub book : new ≡ book_content new.engine (old.journal ++ gone_entry editor id ∷ []) old.added (old.gone + 1) old.refused

-- no surviving file has the id, as the engine's pass shows, and exactly that entry was filed
pub record FilesNotLive (old new : BookContent) (editor id : ℕ) (seen : Account) : Type 0 where
  pub seen_is : seen ≡ published old.engine
  pub none : file_with_id id (files_of old.engine.version.slots) ≡ None
  pub book : new ≡ book_content old.engine (old.journal ++ not_live_entry editor id ∷ []) old.added old.gone (old.refused + 1)

-- what contracts see of what was closed
pub record ClosedContent : Type 0 where
  pub engine : EngineContent
  pub journal : List Entry

-- an engine and a journal
abbrev pub closed_content : EngineContent → List Entry → ClosedContent
closed_content engine journal = record { engine = engine; journal = journal }

-- The journal is a history of one thread, and the engine stands for the collection at its end. As many files survive as were added and not
-- deleted, an id was given for each accepted add, and each reply is of one of three kinds
pub record IsClosed (closed : ClosedContent) : Type 0 where
  pub journal : IsJournalOf closed.engine closed.journal
  pub files : length (files_of closed.engine.version.slots) + count_of is_gone closed.journal ≡ count_of is_added closed.journal
  pub added : closed.engine.version.next_id ≡ count_of is_added closed.journal
  pub gone : closed.engine.version.dels ≡ count_of is_gone closed.journal
  pub replies : length closed.journal ≡ count_of is_added closed.journal + count_of is_gone closed.journal + count_of is_refused closed.journal
