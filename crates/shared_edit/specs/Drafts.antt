-- What contracts see of a file that is to be added, before the lock is taken.
use Rattle.std.specs.Prelude.{◌≡◌, List, ℕ, Option, IfSome}
use Rattle.gcl_model.specs.Tokens.{tokens_of}

-- its name and its bytes
pub record DraftContent : Type 0 where
  pub name : List ℕ
  pub bytes : List ℕ

-- a draft of this name and these bytes
abbrev pub draft_content : List ℕ → List ℕ → DraftContent
draft_content name bytes = record { name = name; bytes = bytes }

-- the index that was made ahead, if there is one, is of the tokens of these bytes
abbrev pub IsDraft : List ℕ → Option (List (List ℕ)) → Type 0
IsDraft bytes index = IfSome index (λ tokens. tokens ≡ tokens_of bytes)
