-- Laws of expansion.
use Rattle.std.specs.Prelude.{◌≡◌, ◌↔◌, ℕ, ◌&&◌, true, false, List, bytes_eq}
use Rattle.std.specs.List.{list_any}
use Rattle.gcl_model.specs.Texts.{Text, Word}
use Rattle.gcl_model.specs.Forms.{Form}
use Rattle.gcl_model.specs.Meaning.{concordance}
use Rattle.gcl_model.specs.WellFormed.{IsWellFormed}
use Rattle.gcl_model.specs.Wide.{begins_with, wide}
use Rattle.wide_terms.specs.Vocabulary.{RiseInBytes, matching_words}
use Rattle.wide_terms.specs.Expansion.{expansion, has_prefix_term}

-- the concordance list of the expansion is the wide list
abbrev pub ExpansionsAreWide : Type 0
ExpansionsAreWide = (text : Text) (form : Form) → concordance text (expansion text form) ≡ wide text form

-- the expansion of a well-formed expression is well formed
abbrev pub ExpansionsAreWellFormed : Type 0
ExpansionsAreWellFormed = (text : Text) (form : Form) → IsWellFormed form → IsWellFormed (expansion text form)

-- without a prefix term there is nothing to expand: the wide list is the concordance list
abbrev pub OthersStay : Type 0
OthersStay = (text : Text) (form : Form) → has_prefix_term form ≡ false → (expansion text form ≡ form) × (wide text form ≡ concordance text form)

-- the token is one of these
abbrev pub IsOneOf : List (List ℕ) → List ℕ → Type 0
IsOneOf tokens token = list_any (λ other. bytes_eq other token) tokens ≡ true

-- matching words rise, and they are the words of the text that begin with the prefix
pub record AreMatching (words : List Word) (prefix : List ℕ) (tokens : List (List ℕ)) : Type 0 where
  pub rising : RiseInBytes tokens
  pub exact : (token : List ℕ) → IsOneOf tokens token ↔ (list_any (λ w. bytes_eq w.token token && begins_with prefix token) words ≡ true)

abbrev pub MatchingWordsAreExact : Type 0
MatchingWordsAreExact = (words : List Word) (prefix : List ℕ) → AreMatching words prefix (matching_words words prefix)
