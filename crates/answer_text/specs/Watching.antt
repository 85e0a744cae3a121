-- What is watched, and what is reported of it.
use Rattle.std.specs.Prelude.{ℕ, List, [], flat_map, map, Option, None, Some, true, false}
use Rattle.gcl_model.specs.Forms.{Form}
use Rattle.gcl_model.specs.FormOf.{form_of}
use Rattle.gcl_model.specs.Texts.{Text}
use Rattle.gcl_model.specs.Wide.{wide}
use Rattle.live_version.specs.Contents.{VersionContent, version_text}
use Rattle.manifest_publish.specs.Accounts.{Account}
use Rattle.collection.specs.Engines.{last_of}
use Rattle.script_lang.specs.Answers.{change_line}
use Rattle.script_lang.specs.Lines.{text_of_lines}
use Rattle.standing_query.specs.Changes.{changes}
use Rattle.standing_query.specs.Watches.{WatchListContent}
use Rattle.standing_query.specs.declared.change.Change.{Change}
use Rattle.standing_query.specs.declared.change.Change.TheVariants.{Went, Came}
use Rattle.standing_query.specs.declared.watch.Watch.{Watch}

-- a query that is watched: the number of the watch, and the query's form
pub record Watched : Type 0 where
  pub number : ℕ
  pub form : Form

-- the live watches in rising number, and the number that the next one gets
pub record Watches : Type 0 where
  pub live : List Watched
  pub next : ℕ

-- a watch, by the form of its expression
abbrev pub watched_of : Watch → Watched
watched_of watch = record { number = watch.id; form = form_of watch.expr }

-- what a list of watches says: the numbers, and the forms of the expressions
abbrev pub watching_of : WatchListContent → Watches
watching_of list = record { live = map watched_of list.live; next = list.next }

-- the line of a change, by the number of its watch: "+ 0 1 2" of an interval that came, and "- 0 1 2" of one that went
abbrev pub told_line : ℕ → Change → List ℕ
told_line number (Went interval) = change_line number false interval
told_line number (Came interval) = change_line number true interval

-- what an edit changed of the list of a watch, a line each
abbrev pub watch_lines : Text → Text → Watched → List (List ℕ)
watch_lines before after watch = map (told_line watch.number) (changes (wide before watch.form) (wide after watch.form))

-- the same for each live watch, in rising number
abbrev pub changes_lines : Watches → Text → Text → List (List ℕ)
changes_lines watches before after = flat_map (watch_lines before after) watches.live

-- what was changed since the version of a pass, if there is one
abbrev pub told_since : Option Account → WatchListContent → VersionContent → List (List ℕ)
told_since None watches now = []
told_since (Some pass) watches now = changes_lines (watching_of watches) (version_text (last_of pass.history)) (version_text now)

-- the text of some changes of a watch
abbrev pub told_text : ℕ → List Change → List ℕ
told_text number list = text_of_lines (map (told_line number) list)

-- the text of what was changed of some watches
abbrev pub watches_text : Text → Text → List Watched → List ℕ
watches_text before now live = text_of_lines (flat_map (watch_lines before now) live)
