-- For proofs only: a table of tokens with the addresses that hold each.
use Rattle.std.specs.Prelude.{◌≡◌, ℕ, ◌+◌, ◌<◌, ◌||◌, bytes_eq, if◌then◌else◌, List, [], ◌∷◌, ◌++◌, length, map, min}
use Rattle.std.specs.List.{AllByRecursion}
use Rattle.gcl_model.specs.Texts.{Word, places}
use Rattle.text_search.specs.Names.{is_named}

-- a token, and the addresses that hold it
pub record Entry : Type 0 where
  pub token : List ℕ
  pub places : List ℕ

-- the token with no address yet
abbrev pub new_entry : List ℕ → Entry
new_entry token = record { token = token; places = [] }

-- the tokens of a table
abbrev pub tokens_in : List Entry → List (List ℕ)
tokens_in entries = map (λ e. e.token) entries

-- these tokens with all their places among the words
abbrev pub filled : List Word → List (List ℕ) → List Entry
filled words names = map (λ name. record { token = name; places = places words name }) names

-- the address, added to those of its token
abbrev pub noted : List ℕ → ℕ → Entry → Entry
noted token address e = record { token = e.token; places = e.places ++ (if bytes_eq token e.token then address ∷ [] else []) }

-- the addresses of a token: none if the table does not have it
abbrev pub places_in : List Entry → List ℕ → List ℕ
places_in [] token = []
places_in (e ∷ entries) token = if bytes_eq token e.token then e.places else places_in entries token

-- no token has an address yet
abbrev pub AreEmpty : List Entry → Type 0
AreEmpty entries = AllByRecursion (λ e. e.places ≡ []) entries

-- the new names are the old names and these
abbrev pub Names : List (List ℕ) → List (List ℕ) → List (List ℕ) → Type 0
Names old new names = (token : List ℕ) → is_named new token ≡ (is_named old token || is_named names token)

-- which bucket a token is in, by its length
abbrev pub key_of : List ℕ → ℕ
key_of token = min (length token) 63

-- all entries, bucket by bucket
abbrev pub joined : List (List Entry) → List Entry
joined [] = []
joined (bucket ∷ buckets) = bucket ++ joined buckets

-- each bucket, starting with the one of this key, has only tokens with its key
abbrev pub AreKeyed : ℕ → List (List Entry) → Type 0
AreKeyed key [] = Unit {0}
AreKeyed key (bucket ∷ buckets) = AllByRecursion (λ token. key_of token ≡ key) (tokens_in bucket) × AreKeyed (key + 1) buckets

-- a table's buckets
pub record IsTable (buckets : List (List Entry)) : Type 0 where
  pub count : length buckets ≡ 64
  pub keyed : AreKeyed 0 buckets

-- each address is greater than all before it
abbrev pub AreClimbing : List ℕ → Type 0
AreClimbing [] = Unit {0}
AreClimbing (p ∷ ps) = AllByRecursion (λ q. p < q) ps × AreClimbing ps
