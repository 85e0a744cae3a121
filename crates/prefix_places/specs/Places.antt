-- The places of a prefix term.
use Rattle.std.specs.Prelude.{ℕ, List, map, filter}
use Rattle.gcl_model.specs.Texts.{Word}
use Rattle.gcl_model.specs.Wide.{stands_for_word}

-- the addresses of the words for which the term stands, in the order of the list: of `t*` over `1 to, 2 be, 3 tea` they are 1 and 3
abbrev pub wide_places : List Word → List ℕ → List ℕ
wide_places words token = map (λ w. w.address) (filter (λ w. stands_for_word token w.token) words)

-- a prefix term with its `*`, as `to*`, and places that rise
pub record PrefixContent : Type 0 where
  pub token : List ℕ
  pub places : List ℕ
