-- What is loaded from a reader.
use Rattle.std.specs.Prelude.{◌≡◌, ℕ, List, Option, None, Some, ⊤}
use Rattle.std.specs.Option.{option_map}
use Rattle.outside.specs.Contents.{Contents}

-- the bytes that a reader has left, as the content under each name; None if they are not known
abbrev pub content_left : Option (List ℕ) → Option Contents
content_left left = option_map (λ bytes _. Some bytes) left

-- a file that was opened under a name has the whole content of that name left
pub record HasContent (contents : Contents) (name : List ℕ) (left : Option (List ℕ)) : Type 0 where
  pub bytes : List ℕ
  pub left_is : left ≡ Some bytes
  pub content_is : contents name ≡ Some bytes

-- the same, if the contents are known
abbrev pub Opens : Option Contents → List ℕ → Option (List ℕ) → Type 0
Opens None name left = ⊤
Opens (Some contents) name left = HasContent contents name left
