-- The terms that were read so far, for this crate alone.
use Rattle.std.specs.Prelude.{◌≡◌, ℕ, ◌^◌, ◌<◌, true, List, [], ◌∷◌, ◌++◌, length, map, Option}
use Rattle.std.specs.List.{AllByRecursion}
use Rattle.std.specs.Option.{option_map, IfSome}
use Rattle.gcl_model.specs.Slots.{SlotRange, ranges_spanned}
use Rattle.address_space.specs.Runs.{FileEntry, range_of}
use Rattle.live_version.specs.Contents.{LiesIn, VersionContent, files_of, is_of_files, live_of, ranges_of}
use Rattle.index_shard.specs.Tables.{TermEntry, ComesBefore, AreApart, IsShard, last_entry, words_of}
use Rattle.image_file.specs.declared.format.Format.{Format}
use Rattle.image_file.specs.Fields.{eight_bytes, term_bytes}
use Rattle.image_read.specs.declared.places.Role.{Role}
use Rattle.image_read.specs.Reading.{AreEntries, AreTermBytes, HasRole, IsEntry, IsTextFront, SeenContent, is_covered, is_seen}

-- the files lie in the range
abbrev pub IsRangeOf : SlotRange → List FileEntry → Type 0
IsRangeOf range files = AllByRecursion (LiesIn range) files

-- the last term of a table
abbrev pub last_term : List TermEntry → Option (List ℕ)
last_term terms = option_map (λ (e : TermEntry). e.term) (last_entry terms)

-- the term may come after the last one
abbrev pub MayFollow : Option (List ℕ) → List ℕ → Type 0
MayFollow last term = IfSome last (λ l. ComesBefore l term)

-- the bytes begin with a term that may come after the last one
pub record IsTermFront (format : Format) (last : Option (List ℕ)) (whole term : List ℕ) (as_role : Role) (rest : List ℕ) : Type 0 where
  pub text : IsTextFront format whole term rest
  pub role : HasRole term as_role
  pub follows : MayFollow last term

-- the bytes begin with no term that may come after the last one
abbrev pub HasNoTerm : Format → Option (List ℕ) → List ℕ → Type 0
HasNoTerm format last bytes = (text : List ℕ) (role : Role) (rest : List ℕ) → IsTermFront format last bytes text role rest → ⊥

-- the table is of the files, and its words are those that were seen
pub record HoldsTerms (format : Format) (first next : ℕ) (places : SeenContent) (table : List TermEntry) : Type 0 where
  pub entries : AreEntries format first next places.files table
  pub seen : (q : ℕ) → is_of_files places.files q ≡ true → is_seen places q ≡ is_covered table q

-- one more term, which the bytes begin with
pub record IsPut (format : Format) (first : ℕ) (before after : List TermEntry) (whole term rest : List ℕ) (e : TermEntry) : Type 0 where
  pub table : after ≡ before ++ e ∷ []
  pub text : e.term ≡ term
  pub bytes : whole ≡ term_bytes format first e ++ rest

-- the table has one more term at its end, with this text, and the bytes begin with it
abbrev pub PutsTerm : Format → ℕ → (before after : List TermEntry) → (bytes text rest : List ℕ) → Type 0
PutsTerm format first before after bytes text rest = (e : TermEntry) × IsPut format first before after bytes text rest e

-- the bytes begin with this term, which the table may have next
pub record IsNextTerm (format : Format) (first next : ℕ) (files : List FileEntry) (table : List TermEntry) (whole : List ℕ) (e : TermEntry) (rest : List ℕ) : Type 0 where
  pub entry : IsEntry format first next files e
  pub follows : MayFollow (last_term table) e.term
  pub apart : AllByRecursion (λ d. AreApart d.addresses e.addresses) table
  pub bytes : whole ≡ term_bytes format first e ++ rest

-- the bytes begin with no term that the table may have next
abbrev pub HasNoNextTerm : Format → (first next : ℕ) → List FileEntry → List TermEntry → List ℕ → Type 0
HasNoNextTerm format first next files table bytes = (e : TermEntry) (rest : List ℕ) → IsNextTerm format first next files table bytes e rest → ⊥

-- the bytes are the number of the terms, and these
pub record AreReadTerms (format : Format) (first next : ℕ) (files : List FileEntry) (whole : List ℕ) (table : List TermEntry) : Type 0 where
  pub few : length table < 2 ^ 64
  pub terms : (rest : List ℕ) × (whole ≡ eight_bytes (length table) ++ rest) × AreTermBytes format first next (length table) files rest table

-- the version has these numbers and files, and the words of the terms that the bytes say
pub record IsReadAs (format : Format) (start end ids : ℕ) (entries : List FileEntry) (whole : List ℕ) (v : VersionContent) (table : List TermEntry) : Type 0 where
  pub terms : AreReadTerms format start end entries whole table
  pub first : v.first ≡ start
  pub next : v.next ≡ end
  pub next_id : v.next_id ≡ ids
  pub number : v.number ≡ 0
  pub edition : v.edition ≡ 0
  pub dels : v.dels ≡ 0
  pub files : files_of v.slots ≡ entries
  pub shard : (range : SlotRange) → ranges_of v.slots ≡ range ∷ [] → IsShard (record { range = range; table = table })
  pub words : (range : SlotRange) → ranges_of v.slots ≡ range ∷ [] → live_of v.slots ≡ words_of (record { range = range; table = table })
  pub ranges : ranges_of v.slots ≡ ranges_spanned (map range_of entries)

-- the same with some terms
abbrev pub IsReadFrom : Format → (first next next_id : ℕ) → List FileEntry → List ℕ → VersionContent → Type 0
IsReadFrom format first next next_id files bytes v = (table : List TermEntry) × IsReadAs format first next next_id files bytes v table
