-- For proofs alone: the first and the last of some words that are a token.
use Rattle.std.specs.Prelude.{ℕ, List, bytes_eq, find, Option}
use Rattle.std.specs.Option.{option_map}
use Rattle.gcl_model.specs.Access.{find_last}
use Rattle.gcl_model.specs.Texts.{Word}

-- the address of the first of the words that is the token
abbrev pub first_holder : List Word → List ℕ → Option ℕ
first_holder words token = option_map (λ w. w.address) (find (λ w. bytes_eq w.token token) words)

-- the address of the last one
abbrev pub last_holder : List Word → List ℕ → Option ℕ
last_holder words token = option_map (λ w. w.address) (find_last (λ w. bytes_eq w.token token) words)
