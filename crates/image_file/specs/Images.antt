-- Which bytes are an image of which collection.
use Rattle.std.specs.Prelude.{◌≡◌, ℕ, ◌^◌, ◌<◌, ◌≤◌, List, [], ◌∷◌, length, map}
use Rattle.std.specs.Ordering.{nat_cmp}
use Rattle.std.specs.declared.cmp.Ordering.{Ordering}
use Rattle.std.specs.declared.cmp.Ordering.TheVariants.{Less, Equal, Greater}
use Rattle.std.specs.Cmp.Lexicographic.{slice_cmp}
use Rattle.std.specs.List.{AllByRecursion}
use Rattle.posting_code.specs.Numbers.{number_end}
use Rattle.gcl_model.specs.Texts.{Word, places}
use Rattle.gcl_model.specs.Collections.{Collection, IsSound, words_of}
use Rattle.gcl_model.specs.Limits.{address_end}
use Rattle.index_shard.specs.Tables.{TermEntry, ComesBefore, postings_of}
use Rattle.live_version.specs.Contents.{VersionContent}
use Rattle.live_version.specs.StandsFor.{StandsFor, entry_of}
use Rattle.image_file.specs.declared.format.Format.{Format}
use Rattle.image_file.specs.declared.format.Format.TheVariants.{One, Two}
use Rattle.image_file.specs.Fields.{Fields, image_bytes}

-- the terms rise in byte order: "be", "not" do
abbrev pub TermsRise : List TermEntry → Type 0
TermsRise [] = Unit {0}
TermsRise (entry ∷ entries) = AllByRecursion (λ later. ComesBefore entry.term later.term) entries × TermsRise entries

-- each token of the words is a term once, in byte order, with the addresses that hold it
pub record AreTermsOf (words : List Word) (terms : List TermEntry) : Type 0 where
  pub rising : TermsRise terms
  pub some : AllByRecursion (λ entry. 0 < length entry.addresses) terms
  pub places : (token : List ℕ) → postings_of terms token ≡ places words token

-- a token put before the first of some others, in place of it, or after it
abbrev pub token_by : Ordering → List ℕ → List ℕ → (others behind : List (List ℕ)) → List (List ℕ)
token_by Less token first others behind = token ∷ first ∷ others
token_by Equal token first others behind = first ∷ others
token_by Greater token first others behind = first ∷ behind

-- a token among some that rise in byte order: "be" among "a" and "not" gives "a", "be", "not", and once more gives the same
abbrev pub with_token : List ℕ → List (List ℕ) → List (List ℕ)
with_token token [] = token ∷ []
with_token token (first ∷ others) = token_by (slice_cmp nat_cmp token first) token first others (with_token token others)

-- the tokens of some words in byte order, each once
abbrev pub tokens_in_order : List Word → List (List ℕ)
tokens_in_order [] = []
tokens_in_order (w ∷ words) = with_token w.token (tokens_in_order words)

-- a token with the addresses that hold it
abbrev pub term_of : List Word → List ℕ → TermEntry
term_of words token = record { term = token; addresses = places words token }

-- the terms of some words: each token once, in byte order, with the addresses that hold it
abbrev pub terms_of : List Word → List TermEntry
terms_of words = map (term_of words) (tokens_in_order words)

-- the addresses of a collection end here at the latest
abbrev pub end_of : Format → ℕ
end_of One = 2 ^ 48
end_of Two = address_end

-- a term has fewer bytes than this
abbrev pub most_term : Format → ℕ
most_term One = 2 ^ 32
most_term Two = number_end

-- every token is short enough
abbrev pub AreShort : Format → List TermEntry → Type 0
AreShort format terms = AllByRecursion (λ entry. length entry.term < most_term format) terms

-- what an image of the collection says, with these terms
abbrev pub fields_of : Collection → List TermEntry → Fields
fields_of c terms = record { first = c.first; next = c.next; next_id = c.next_id; files = map entry_of c.files; terms = terms }

-- the bytes are the image of the collection with these terms
pub record SpellsWith (format : Format) (image : List ℕ) (c : Collection) (table : List TermEntry) : Type 0 where
  pub terms : AreTermsOf (words_of c) table
  pub short : AreShort format table
  pub bytes : image ≡ image_bytes format (fields_of c table)

-- the bytes that a collection is saved as: its image in version 2, which says nothing of slots, merges and deletions
abbrev pub image_of : Collection → List ℕ
image_of c = image_bytes Two (fields_of c (terms_of (words_of c)))

-- a sound collection of which nothing was deleted, and whose addresses a version of the format can say
pub record CanBeSaid (format : Format) (c : Collection) : Type 0 where
  pub sound : IsSound c
  pub fresh : c.dels ≡ 0
  pub in_range : c.next ≤ end_of format

-- the bytes are an image of the collection in this version of the format
pub record Spells (format : Format) (bytes : List ℕ) (c : Collection) : Type 0 where
  pub said : CanBeSaid format c
  pub spelled : (terms : List TermEntry) × SpellsWith format bytes c terms

-- the same, with its deletions forgotten
abbrev pub forgotten : Collection → Collection
forgotten c = record c { dels = 0 }

-- no token of the words is too long to be written
abbrev pub HasShortTokens : Collection → Type 0
HasShortTokens c = AllByRecursion (λ w. length w.token < number_end) (words_of c)

-- the version stands for a sound collection without such a token
pub record IsSavedAs (v : VersionContent) (c : Collection) : Type 0 where
  pub stands : StandsFor v c
  pub sound : IsSound c
  pub short : HasShortTokens c

-- there is a collection as which the version can be saved
abbrev pub CanBeSaved : VersionContent → Type 0
CanBeSaved v = (c : Collection) × IsSavedAs v c
