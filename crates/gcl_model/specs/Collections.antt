-- Collections of files at addresses, and the steps that change them.
use Rattle.std.specs.Prelude.{◌≡◌, ℕ, ◌+◌, ◌-◌, ◌*◌, ◌≤◌, Bool, true, not, ◌||◌, ◌==◌, nat_le, bytes_eq, List, [], ◌∷◌, ◌++◌, length, filter, flat_map, codes, Option, None, if◌then◌else◌}
use Rattle.std.specs.List.{AllByRecursion, list_any, slice_get}
use Rattle.std.specs.Option.{option_or}
use Rattle.gcl_model.specs.Texts.{Text, Word}
use Rattle.gcl_model.specs.Tokens.{tokens_of}
use Rattle.gcl_model.specs.Names.{is_name}
use Rattle.gcl_model.specs.Limits.{address_end}

-- a file: its number, its name, its first address, and its tokens without the two of its boundary
pub record File : Type 0 where
  pub id : ℕ
  pub name : List ℕ
  pub base : ℕ
  pub tokens : List (List ℕ)

-- the addresses given so far are those from first to next - 1, and the ids those below next_id; dels counts deletions
pub record Collection : Type 0 where
  pub first : ℕ
  pub next : ℕ
  pub next_id : ℕ
  pub dels : ℕ
  pub files : List File

-- the token before the first word of each file
abbrev pub file_start : List ℕ
file_start = codes "<file!>"

-- the token after the last word of each file
abbrev pub file_end : List ℕ
file_end = codes "</file!>"

-- one of the two tokens around a file: no text is cut into them, so a query spells them out
abbrev pub is_boundary : List ℕ → Bool
is_boundary token = bytes_eq token file_start || bytes_eq token file_end

-- the tokens of a file, between its boundary tokens
abbrev pub with_boundaries : List (List ℕ) → List (List ℕ)
with_boundaries tokens = file_start ∷ (tokens ++ file_end ∷ [])

-- how many addresses a file of these tokens has
abbrev pub width_of : List (List ℕ) → ℕ
width_of tokens = length tokens + 2

-- the tokens at consecutive addresses, starting at p
abbrev pub words_from : ℕ → List (List ℕ) → List Word
words_from p [] = []
words_from p (token ∷ tokens) = record { address = p; token = token } ∷ words_from (p + 1) tokens

-- the words of the surviving files, at their addresses
abbrev pub words_of : Collection → List Word
words_of c = flat_map (λ file. words_from file.base (with_boundaries file.tokens)) c.files

-- the text of a collection: its addresses, and the words of its surviving files
abbrev pub text_of : Collection → Text
text_of c = record { first = c.first; next = c.next; words = words_of c }

-- the token that a file has at address p: none before its base and after its last address
abbrev pub word_of_file : File → ℕ → Option (List ℕ)
word_of_file file p = if nat_le file.base p then slice_get (with_boundaries file.tokens) (p - file.base) else None

-- the token that the first of these files which has the address has there
abbrev pub word_of_files : List File → ℕ → Option (List ℕ)
word_of_files [] p = None
word_of_files (file ∷ files) p = option_or (word_of_file file p) (word_of_files files p)

-- the token at address p: that of the one file that covers it, and none if no file does
abbrev pub word_at : Collection → ℕ → Option (List ℕ)
word_at c p = word_of_files c.files p

-- a token that a file can hold: it is cut into itself alone
abbrev pub IsToken : List ℕ → Type 0
IsToken token = tokens_of token ≡ token ∷ []

-- the collection that begins at an address
abbrev pub empty_from : ℕ → Collection
empty_from first = record { first = first; next = first; next_id = 0; dels = 0; files = [] }

-- a file with this name and these tokens may be added: its addresses fit below the end of addresses
pub record CanAdd (c : Collection) (name : List ℕ) (tokens : List (List ℕ)) : Type 0 where
  pub fits : c.next + width_of tokens ≤ address_end
  pub named : is_name name ≡ true
  pub are_tokens : AllByRecursion IsToken tokens

-- a surviving file has this id
abbrev pub has_file : Collection → ℕ → Bool
has_file c id = list_any (λ file. file.id == id) c.files

-- after a file was added
abbrev pub with_file : Collection → List ℕ → List (List ℕ) → Collection
with_file c name tokens = record {
  first = c.first;
  next = c.next + width_of tokens;
  next_id = c.next_id + 1;
  dels = c.dels;
  files = c.files ++ record { id = c.next_id; name = name; base = c.next; tokens = tokens } ∷ [];
}

-- after the file with this id was deleted
abbrev pub without_file : Collection → ℕ → Collection
without_file c id = record {
  first = c.first;
  next = c.next;
  next_id = c.next_id;
  dels = c.dels + 1;
  files = filter (λ file. not (file.id == id)) c.files;
}

-- this many addresses may lie between two files with this many ids left out between them
abbrev pub FitsHole : ℕ → ℕ → Type 0
FitsHole addresses ids = (ids ≡ 0 → addresses ≡ 0) × (2 * ids ≤ addresses)

-- the files, starting at this address and this id, fill the collection up to its end
abbrev pub AreFilesFrom : Collection → ℕ → ℕ → List File → Type 0
AreFilesFrom c at id [] = (at ≤ c.next) × (id ≤ c.next_id) × FitsHole (c.next - at) (c.next_id - id)
AreFilesFrom c at id (file ∷ files) =
    (at ≤ file.base) × (id ≤ file.id) × FitsHole (file.base - at) (file.id - id) × (is_name file.name ≡ true) × AllByRecursion IsToken file.tokens
    × AreFilesFrom c (file.base + width_of file.tokens) (file.id + 1) files

-- the files have rising ids and rising addresses, and the holes between them are as wide as the missing ids need
pub record IsSound (c : Collection) : Type 0 where
  pub ordered : c.first ≤ c.next
  pub in_range : c.next ≤ address_end
  pub files : AreFilesFrom c c.first 0 c.files
