-- What the watches report after an edit.
use Rattle.std.specs.Prelude.{Bool}
use Rattle.collection.specs.Engines.{EngineContent}
use Rattle.standing_query.specs.Watches.{WatchListContent}
use Rattle.script_answers.specs.inner.Service.{StepsOn}
use Rattle.script_answers.specs.inner.Tasks.{WatchesOn}
use Rattle.answer_text.specs.declared.answer.Answer.{Answer}
pub use Rattle.answer_text.specs.Given.{AgreeApart, IsBefore, IsLocal, since}
pub use Rattle.answer_text.specs.Watching.{told_since, told_text, watches_text}

-- what an action that was answered so did to the engine and the watches
pub record ActsOn (old new : EngineContent) (pending : Bool) (watches watches' : WatchListContent) (given : Answer) : Type 0 where
  pub steps : StepsOn old new pending
  pub watches_on : WatchesOn watches watches'
  pub local : IsLocal given old.version new.version
