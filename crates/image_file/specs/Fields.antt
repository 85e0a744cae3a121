-- The bytes of an image, field by field, in both versions of the format.
use Rattle.std.specs.Prelude.{ℕ, ◌+◌, ◌-◌, List, [], ◌∷◌, ◌++◌, length, flat_map, codes}
use Rattle.byteorder.specs.Endian.{little_bytes}
use Rattle.posting_code.specs.Numbers.{spelling}
use Rattle.posting_code.specs.Packed.{packed_from}
use Rattle.address_space.specs.Runs.{FileEntry}
use Rattle.index_shard.specs.Tables.{TermEntry}
use Rattle.image_file.specs.declared.format.Format.{Format}
use Rattle.image_file.specs.declared.format.Format.TheVariants.{One, Two}

-- what an image has to say: the numbers of a collection, its files without their words, and the addresses of each term
pub record Fields : Type 0 where
  pub first : ℕ
  pub next : ℕ
  pub next_id : ℕ
  pub files : List FileEntry
  pub terms : List TermEntry

-- a number in eight bytes, the lowest first: 10 is 0a 00 00 00 00 00 00 00
abbrev pub eight_bytes : ℕ → List ℕ
eight_bytes n = little_bytes 8 n

-- a length in four bytes, and then that many bytes: "b" is 01 00 00 00 62
abbrev pub long_text : List ℕ → List ℕ
long_text bytes = little_bytes 4 (length bytes) ++ bytes

-- a packed length, and then that many bytes: "b" is 01 62
abbrev pub short_text : List ℕ → List ℕ
short_text bytes = spelling (length bytes) ++ bytes

-- a file in version 1: its numbers as they are
abbrev pub long_file : FileEntry → List ℕ
long_file file = eight_bytes file.id ++ eight_bytes file.base ++ eight_bytes file.len ++ long_text file.name

-- a file in version 2: its numbers less the least that they may be, if the next file has at least this id and this address
abbrev pub short_file : ℕ → ℕ → FileEntry → List ℕ
short_file id at file = spelling (file.id - id) ++ spelling (file.base - at) ++ spelling (file.len - 2) ++ short_text file.name

-- files in version 2: the next has a later id, and comes after the last address
abbrev pub short_files : ℕ → ℕ → List FileEntry → List ℕ
short_files id at [] = []
short_files id at (file ∷ files) = short_file id at file ++ short_files (file.id + 1) (file.base + file.len) files

-- a term in version 1, with how many addresses it has, and these
abbrev pub long_term : ℕ → TermEntry → List ℕ
long_term first entry = long_text entry.term ++ eight_bytes (length entry.addresses) ++ packed_from first entry.addresses

-- a term in version 2, with how many addresses it has besides one, and all of them
abbrev pub short_term : ℕ → TermEntry → List ℕ
short_term first entry = short_text entry.term ++ spelling (length entry.addresses - 1) ++ packed_from first entry.addresses

-- what the image begins with
abbrev pub mark : Format → List ℕ
mark One = codes "GCLIMG01"
mark Two = codes "GCLIMG02"

-- all files, the first of which may have the id 0 and the address `first`
abbrev pub files_bytes : Format → ℕ → List FileEntry → List ℕ
files_bytes One first files = flat_map long_file files
files_bytes Two first files = short_files 0 first files

-- one term, with its addresses as differences, the first from the first address of all
abbrev pub term_bytes : Format → ℕ → TermEntry → List ℕ
term_bytes One first entry = long_term first entry
term_bytes Two first entry = short_term first entry

-- the numbers of the collection, and how many files are to come
abbrev pub head_bytes : Fields → List ℕ
head_bytes f = eight_bytes f.first ++ eight_bytes f.next ++ eight_bytes f.next_id ++ eight_bytes (length f.files)

-- the whole image: the mark, the numbers, the files, how many terms there are, and these
abbrev pub image_bytes : Format → Fields → List ℕ
image_bytes format f =
    mark format ++ head_bytes f ++ files_bytes format f.first f.files ++ eight_bytes (length f.terms) ++ flat_map (term_bytes format f.first) f.terms
