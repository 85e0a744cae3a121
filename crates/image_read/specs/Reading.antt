-- How an image is read, for this crate alone.
use Rattle.std.specs.Prelude.{◌≡◌, ℕ, ◌+◌, ◌-◌, ◌*◌, ◌^◌, ◌<◌, ◌≤◌, Bool, true, false, ◌||◌, ◌==◌, bytes_eq, nat_le, List, [], ◌∷◌, ◌++◌, length, flat_map, find, get_or, Option, Some, if◌then◌else◌}
use Rattle.std.specs.List.{AllByRecursion, list_any}
use Rattle.std.specs.Option.{option_map}
use Rattle.gcl_model.specs.Collections.{FitsHole, IsToken, file_start, file_end}
use Rattle.gcl_model.specs.Names.{is_name}
use Rattle.byteorder.specs.Endian.{little_bytes}
use Rattle.posting_code.specs.Numbers.{spelling, number_end}
use Rattle.posting_code.specs.Packed.{packed_from}
use Rattle.posting_code.specs.Postings.{RiseWithin}
use Rattle.address_space.specs.Runs.{FileEntry, IsFileRun}
use Rattle.index_shard.specs.Tables.{TermEntry, AreApart, has_address}
use Rattle.live_version.specs.Contents.{is_of_file, is_of_files}
use Rattle.image_file.specs.declared.format.Format.{Format}
use Rattle.image_file.specs.declared.format.Format.TheVariants.{One, Two}
use Rattle.image_file.specs.Fields.{eight_bytes, long_text, short_text, long_file, short_file, mark, term_bytes}
use Rattle.image_file.specs.Images.{end_of, most_term, TermsRise}
use Rattle.image_file.specs.Written.{FitsLong, FitsShort}
use Rattle.image_read.specs.declared.places.Role.{Role}
use Rattle.image_read.specs.declared.places.Role.TheVariants.{Start, Inner, End}
use Rattle.image_read.specs.declared.places.Stretch.{Stretch}
use Rattle.image_read.specs.Stretches.{stretches_from}

-- bytes begin with a text of `len` bytes
pub record IsText (len : ℕ) (whole text rest : List ℕ) : Type 0 where
  pub bytes : whole ≡ text ++ rest
  pub long : length text ≡ len

-- bytes begin with a number of n bytes
pub record IsFixed (n : ℕ) (whole : List ℕ) (value : ℕ) (rest : List ℕ) : Type 0 where
  pub small : value < 256 ^ n
  pub bytes : whole ≡ little_bytes n value ++ rest

-- bytes begin with a packed number
pub record IsPacked (whole : List ℕ) (value : ℕ) (rest : List ℕ) : Type 0 where
  pub small : value < number_end
  pub bytes : whole ≡ spelling value ++ rest

-- bytes begin with no packed number
abbrev pub HasNoPacked : List ℕ → Type 0
HasNoPacked bytes = (n : ℕ) (rest : List ℕ) → n < number_end → bytes ≡ spelling n ++ rest → ⊥

-- the numbers at the front of an image, and what comes after them
pub record IsHead (format : Format) (first next next_id count : ℕ) (whole rest : List ℕ) : Type 0 where
  pub bytes : whole ≡ mark format ++ (eight_bytes first ++ (eight_bytes next ++ (eight_bytes next_id ++ (eight_bytes count ++ rest))))
  pub ordered : first ≤ next
  pub in_range : next ≤ end_of format
  pub ids : 2 * next_id ≤ next - first
  pub few : count < 2 ^ 64

-- the bytes begin with the numbers of no collection
abbrev pub HasNoHead : List ℕ → Type 0
HasNoHead bytes = (format : Format) (first next next_id count : ℕ) (rest : List ℕ) → IsHead format first next next_id count bytes rest → ⊥

-- the bytes begin with the mark of no version
abbrev pub HasNoMark : List ℕ → Type 0
HasNoMark bytes = (format : Format) (rest : List ℕ) → bytes ≡ mark format ++ rest → ⊥

-- one file, after an id and an address
abbrev pub file_bytes : Format → ℕ → ℕ → FileEntry → List ℕ
file_bytes One id at file = long_file file
file_bytes Two id at file = short_file id at file

-- each number of the file has room in its field
abbrev pub FitsFields : Format → ℕ → ℕ → FileEntry → Type 0
FitsFields One id at file = FitsLong file
FitsFields Two id at file = FitsShort id at file

-- the bytes begin with one file
pub record IsFileFront (format : Format) (id at : ℕ) (whole : List ℕ) (file : FileEntry) (rest : List ℕ) : Type 0 where
  pub fits : FitsFields format id at file
  pub bytes : whole ≡ file_bytes format id at file ++ rest

-- the bytes begin with no file
abbrev pub HasNoFile : Format → ℕ → ℕ → List ℕ → Type 0
HasNoFile format id at bytes = (file : FileEntry) (rest : List ℕ) → IsFileFront format id at bytes file rest → ⊥

-- files, after an id and an address
abbrev pub files_from : Format → ℕ → ℕ → List FileEntry → List ℕ
files_from format id at [] = []
files_from format id at (file ∷ files) = file_bytes format id at file ++ files_from format (file.id + 1) (file.base + file.len) files

-- the file may come next, if ids are below next_id and addresses below next
pub record IsNextFile (next next_id least at : ℕ) (file : FileEntry) : Type 0 where
  pub id : least ≤ file.id
  pub small : file.id < next_id
  pub base : at ≤ file.base
  pub len : 2 ≤ file.len
  pub end : file.base + file.len ≤ next
  pub hole : FitsHole (file.base - at) (file.id - least)
  pub named : is_name file.name ≡ true

-- the files starting at an id and an address lead to these
abbrev pub AreFilesUpTo : (next next_id : ℕ) → ℕ → ℕ → List FileEntry → ℕ → ℕ → Type 0
AreFilesUpTo next next_id id at [] last_id last = (id ≡ last_id) × (at ≡ last)
AreFilesUpTo next next_id id at (file ∷ files) last_id last = IsNextFile next next_id id at file × AreFilesUpTo next next_id (file.id + 1) (file.base + file.len) files last_id last

-- the files starting at an id and an address fill what there is
abbrev pub AreAllFiles : (next next_id : ℕ) → ℕ → ℕ → List FileEntry → Type 0
AreAllFiles next next_id id at [] = (at ≤ next) × (id ≤ next_id) × FitsHole (next - at) (next_id - id)
AreAllFiles next next_id id at (file ∷ files) = IsNextFile next next_id id at file × AreAllFiles next next_id (file.id + 1) (file.base + file.len) files

-- the bytes begin with all files
pub record IsFilesFront (format : Format) (first next next_id number : ℕ) (whole : List ℕ) (files : List FileEntry) (rest : List ℕ) : Type 0 where
  pub all : AreAllFiles next next_id 0 first files
  pub count : length files ≡ number
  pub bytes : whole ≡ files_from format 0 first files ++ rest

-- the bytes do not begin with the files of an image with these numbers
abbrev pub HasNoFiles : Format → (first next next_id count : ℕ) → List ℕ → Type 0
HasNoFiles format first next next_id count bytes = (files : List FileEntry) (rest : List ℕ) → IsFilesFront format first next next_id count bytes files rest → ⊥

-- the bytes of a text: `b` is 01 00 00 00 62 in version 1, and 01 62 in version 2
abbrev pub text_bytes : Format → List ℕ → List ℕ
text_bytes One text = long_text text
text_bytes Two text = short_text text

-- the bytes of a number of addresses: 1 is 01 00 00 00 00 00 00 00 in version 1, and 00 in version 2
abbrev pub count_bytes : Format → ℕ → List ℕ
count_bytes One n = eight_bytes n
count_bytes Two n = spelling (n - 1)

-- the bytes begin with a text
pub record IsTextFront (format : Format) (whole text rest : List ℕ) : Type 0 where
  pub short : length text < most_term format
  pub bytes : whole ≡ text_bytes format text ++ rest

-- the bytes begin with no text that can be a term
abbrev pub HasNoText : Format → List ℕ → Type 0
HasNoText format bytes = (text rest : List ℕ) → IsTextFront format bytes text rest → ⊥

-- a number of addresses has room in its field below this
abbrev pub count_end : Format → ℕ
count_end One = 2 ^ 64
count_end Two = number_end + 1

-- the bytes begin with a number of addresses
pub record IsCountFront (format : Format) (whole : List ℕ) (n : ℕ) (rest : List ℕ) : Type 0 where
  pub some : 0 < n
  pub small : n < count_end format
  pub bytes : whole ≡ count_bytes format n ++ rest

-- the bytes begin with the number of addresses of no term
abbrev pub HasNoCount : Format → List ℕ → Type 0
HasNoCount format bytes = (n : ℕ) (rest : List ℕ) → n ≤ number_end → IsCountFront format bytes n rest → ⊥

-- what a term stands for: `<file!>` for the start of a file, `</file!>` for its end
abbrev pub role_of : List ℕ → Role
role_of term = if bytes_eq term file_start then Start else if bytes_eq term file_end then End else Inner

-- what an address of a file is to hold
abbrev pub role_of_file : ℕ → FileEntry → Role
role_of_file p file = if p == file.base then Start else if p + 1 == file.base + file.len then End else Inner

-- what an address of some files is to hold, if one of them has it
abbrev pub role_in : List FileEntry → ℕ → Option Role
role_in files p = option_map (role_of_file p) (find (is_of_file p) files)

-- the term has this role: it is `<file!>`, `</file!>` or else a token
pub record HasRole (term : List ℕ) (wanted : Role) : Type 0 where
  pub role : role_of term ≡ wanted
  pub token : wanted ≡ Inner → IsToken term

-- the addresses of a role rise, and each is one of its places in the files
pub record FillRole (first next : ℕ) (files : List FileEntry) (role : Role) (addresses : List ℕ) : Type 0 where
  pub rising : RiseWithin first next addresses
  pub roles : AllByRecursion (λ p. role_in files p ≡ Some role) addresses

-- a term that the files can have
pub record IsEntry (format : Format) (first next : ℕ) (files : List FileEntry) (e : TermEntry) : Type 0 where
  pub short : length e.term < most_term format
  pub some : 0 < length e.addresses
  pub token : role_of e.term ≡ Inner → IsToken e.term
  pub fills : FillRole first next files (role_of e.term) e.addresses

-- no address is under two terms
abbrev pub TermsApart : List TermEntry → Type 0
TermsApart [] = Unit {0}
TermsApart (e ∷ es) = AllByRecursion (λ d. AreApart e.addresses d.addresses) es × TermsApart es

-- whether the address is under a term
abbrev pub is_covered : List TermEntry → ℕ → Bool
is_covered terms p = list_any (λ e. has_address e.addresses p) terms

-- terms that the files can have, with no address under two of them
pub record AreEntries (format : Format) (first next : ℕ) (files : List FileEntry) (terms : List TermEntry) : Type 0 where
  pub rising : TermsRise terms
  pub apart : TermsApart terms
  pub each : AllByRecursion (IsEntry format first next files) terms

-- the files, and for each of their addresses in turn whether a word was seen there
pub record SeenContent : Type 0 where
  pub files : List FileEntry
  pub seen : List Bool

-- how many addresses files have
abbrev pub widths : List FileEntry → ℕ
widths [] = 0
widths (file ∷ files) = file.len + widths files

-- how many addresses of the files come before an address of one of them
abbrev pub rank : List FileEntry → ℕ → ℕ
rank [] p = 0
rank (file ∷ files) p = if is_of_file p file then p - file.base else file.len + rank files p

-- whether the file ends at an address or before it
abbrev pub ends_by : ℕ → FileEntry → Bool
ends_by p file = nat_le (file.base + file.len) p

-- the address is one of this role in the files, it has this rank, and there is a mark for it
pub record IsRankOf (files : List FileEntry) (seen : List Bool) (p : ℕ) (role : Role) (at : ℕ) : Type 0 where
  pub place : role_in files p ≡ Some role
  pub ranked : at ≡ rank files p
  pub marked : at < length seen

-- the address is one of a token in the files, and `at` addresses of them come before it
pub record IsTokenAt (files : List FileEntry) (p at : ℕ) : Type 0 where
  pub token : role_in files p ≡ Some Inner
  pub ranked : at ≡ rank files p

-- between the ends of the stretch are tokens of the files
abbrev pub IsNear : List FileEntry → Stretch → Type 0
IsNear files near = (p : ℕ) → near.first < p → p < near.last → IsTokenAt files p (near.before + (p - near.first))

-- the stretches are those of the files, there is a mark for each address, of which there are fewer than 2^64, and one stretch is near
pub record IsPlaces (files : List FileEntry) (stretches : List Stretch) (seen : List Bool) (near : Stretch) : Type 0 where
  pub run : IsFileRun files
  pub each : stretches ≡ stretches_from 0 files
  pub marks : length seen ≡ widths files
  pub small : widths files < 2 ^ 64
  pub tokens : IsNear files near

-- whether a word was seen at an address of the files
abbrev pub is_seen : SeenContent → ℕ → Bool
is_seen places p = get_or places.seen (rank places.files p) false

-- a word was seen at this address and at no further one
pub record Sees (before after : SeenContent) (address : ℕ) : Type 0 where
  pub files : after.files ≡ before.files
  pub seen : (q : ℕ) → is_of_files before.files q ≡ true → is_seen after q ≡ ((q == address) || is_seen before q)

-- the bytes begin with the difference of an address of a role from the one before: no word was seen there, and now one is
pub record IsNextAddress (bound next : ℕ) (start now : SeenContent) (role : Role) (before : ℕ) (whole : List ℕ) (p : ℕ) (rest : List ℕ) : Type 0 where
  pub from : bound ≤ p
  pub below : p < next
  pub place : role_in start.files p ≡ Some role
  pub fresh : is_seen start p ≡ false
  pub sees : Sees start now p
  pub bytes : whole ≡ spelling (p - before) ++ rest

-- the bytes begin with no such difference
abbrev pub HasNoNextAddress : (bound next : ℕ) → SeenContent → Role → ℕ → List ℕ → Type 0
HasNoNextAddress bound next start role before whole = (p : ℕ) (rest : List ℕ) → bound ≤ p → p < next → role_in start.files p ≡ Some role → is_seen start p ≡ false → whole ≡ spelling (p - before) ++ rest → ⊥

-- the bytes begin with the addresses of a role, of which no word was seen yet
pub record IsAddressesFront (format : Format) (first next : ℕ) (places : SeenContent) (role : Role) (whole : List ℕ) (addresses rest : List ℕ) : Type 0 where
  pub some : 0 < length addresses
  pub fills : FillRole first next places.files role addresses
  pub unseen : AllByRecursion (λ p. is_seen places p ≡ false) addresses
  pub bytes : whole ≡ count_bytes format (length addresses) ++ (packed_from first addresses ++ rest)

-- the bytes begin with no addresses of a role of which no word was seen yet
abbrev pub HasNoAddresses : Format → (first next : ℕ) → SeenContent → Role → List ℕ → Type 0
HasNoAddresses format first next places role bytes = (addresses rest : List ℕ) → IsAddressesFront format first next places role bytes addresses rest → ⊥

-- the words at some addresses were seen
pub record SeesAll (before after : SeenContent) (addresses : List ℕ) : Type 0 where
  pub files : after.files ≡ before.files
  pub seen : (q : ℕ) → is_of_files before.files q ≡ true → is_seen after q ≡ (has_address addresses q || is_seen before q)

-- and each address of the files is under one
pub record AreAllEntries (format : Format) (first next : ℕ) (files : List FileEntry) (terms : List TermEntry) : Type 0 where
  pub entries : AreEntries format first next files terms
  pub covered : (p : ℕ) → is_of_files files p ≡ true → is_covered terms p ≡ true

-- the bytes are all terms of the files, and nothing after them
pub record AreTermBytes (format : Format) (first next number : ℕ) (files : List FileEntry) (whole : List ℕ) (terms : List TermEntry) : Type 0 where
  pub all : AreAllEntries format first next files terms
  pub count : length terms ≡ number
  pub bytes : whole ≡ flat_map (term_bytes format first) terms

-- the bytes are not the number of some terms and these, with each address of the files under one
abbrev pub HasNoTerms : Format → (first next : ℕ) → List FileEntry → List ℕ → Type 0
HasNoTerms format first next files bytes = (terms : List TermEntry) → length terms < 2 ^ 64 → (rest : List ℕ) → bytes ≡ eight_bytes (length terms) ++ rest → AreTermBytes format first next (length terms) files rest terms → ⊥
