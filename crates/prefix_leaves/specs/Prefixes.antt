-- Prefix terms with their places.
use Rattle.std.specs.Prelude.{◌≡◌, ℕ, ◌+◌, Bool, true, List, [], ◌∷◌, map, bytes_eq, if◌then◌else◌}
use Rattle.std.specs.List.{list_any, list_all}
use Rattle.gcl_model.specs.Limits.{most_slots}
use Rattle.gcl_model.specs.Texts.{Text, places}
use Rattle.gcl_model.specs.Wide.{is_prefix_term}
use Rattle.live_version.specs.Contents.{VersionContent}
use Rattle.prefix_places.specs.Places.{PrefixContent, wide_places}
use Rattle.prefix_leaves.specs.Renaming.{are_alone, is_meant_by, renamed}

-- the prefix terms alone
abbrev pub tokens_of : List PrefixContent → List (List ℕ)
tokens_of prefixes = map (λ p. p.token) prefixes

-- one of them means the token
abbrev pub is_meant_by_one : List PrefixContent → List ℕ → Bool
is_meant_by_one prefixes token = list_any (λ p. is_meant_by token p.token) prefixes

-- the places of the prefix term with this token, and no places if there is none
abbrev pub places_among : List PrefixContent → List ℕ → List ℕ
places_among [] token = []
places_among (p ∷ prefixes) token = if bytes_eq p.token token then p.places else places_among prefixes token

-- no two prefix terms overlap, and each has the places of the words that it stands for
pub record AreOver (text : Text) (prefixes : List PrefixContent) : Type 0 where
  pub terms : list_all is_prefix_term (tokens_of prefixes) ≡ true
  pub alone : are_alone (tokens_of prefixes) ≡ true
  pub exact : map (λ p. p.places) prefixes ≡ map (λ p. wide_places text.words p.token) prefixes

-- each has the places that its token has in the renamed text; AreOver says the same with the words
abbrev pub HavePlaces : Text → List PrefixContent → Type 0
HavePlaces text prefixes = map (λ p. p.places) prefixes ≡ map (λ p. places (renamed (tokens_of prefixes) text).words p.token) prefixes

-- how many look-ups one access to a word or a prefix term may make: one for each slot and each deletion of the version, or one among the
-- places of the prefix term
abbrev pub wide_most : VersionContent → ℕ
wide_most v = most_slots + v.dels + 1
