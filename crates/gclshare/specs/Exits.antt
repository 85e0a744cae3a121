-- What the exit statuses mean.
use Rattle.std.specs.Prelude.{ℕ, List, Option, IfSome}
use Rattle.shared_edit.specs.Books.{ClosedContent, IsClosed}
use Rattle.share_run.specs.Shares.{IsShared}
use Rattle.share_run.specs.declared.options.ShareOptions.{ShareOptions}
use Rattle.gclshare.specs.declared.words.WordFault.{WordFault}
use Rattle.gclshare.specs.declared.words.WordFault.TheVariants.{NotText, NoMemory}

-- the exit status if the words were not read
abbrev pub word_status : WordFault → ℕ
word_status NotText = 2
word_status NoMemory = 6

-- the words ask for something, and the whole text of some engine and its journal was written
pub record IsToldOf (options : Option ShareOptions) (old new : Option (List ℕ)) : Type 0 where
  pub closed : ClosedContent
  pub is_closed : IsClosed closed
  pub shared : IfSome options (λ o. IsShared o closed old new)
