-- Sums of the members of terms that rise in byte order.
use Rattle.std.specs.Prelude.{◌≡◌, ℕ, List, length, map}
use Rattle.std.specs.List.{AllByRecursion}
use Rattle.gcl_model.specs.Texts.{Text}
use Rattle.gcl_model.specs.Forms.{term, one}
use Rattle.gcl_model.specs.FormOf.{forms_from}
use Rattle.gcl_model.specs.Meaning.{concordance}
use Rattle.wide_terms.specs.Vocabulary.{ComesBefore}

-- the terms seen so far have `count` members in all, and what comes after the last one comes after all of them
pub record IsSumOf (text : Text) (seen : List (List ℕ)) (count : ℕ) (last : List ℕ) : Type 0 where
  pub counted : count ≡ length (concordance text (one (forms_from (map term seen))))
  pub behind : (token : List ℕ) → ComesBefore last token → AllByRecursion (λ other. ComesBefore other token) seen
