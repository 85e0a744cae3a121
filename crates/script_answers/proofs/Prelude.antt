-- What the lemmas of this crate are about: its own definitions, and those of the crates below that many of them name.
pub use Rattle.answer_text.specs.Given.{answer_lines, edits, is_change, merges, since, IsBefore, IsLocal}
pub use Rattle.answer_text.specs.Puts.{founds_text, GetsPart}
pub use Rattle.answer_text.specs.Texts.{found_lines, listing_lines, record_lines, refusal_lines}
pub use Rattle.answer_text.specs.Watching.{changes_lines, told_since, watch_lines, watched_of, watching_of, Watched, Watches}
pub use Rattle.answer_text.specs.declared.action.Action.{Action}
pub use Rattle.answer_text.specs.declared.answer.Answer.{Answer}
pub use Rattle.collection.specs.Engines.{last_of, EngineContent, IsEngine}
pub use Rattle.gcl_model.specs.Collections.{empty_from, has_file, text_of, width_of, with_file, Collection}
pub use Rattle.gcl_model.specs.FormOf.{form_of}
pub use Rattle.gcl_model.specs.Limits.{address_end, most_file, most_readers}
pub use Rattle.gcl_model.specs.Texts.{Text}
pub use Rattle.gcl_model.specs.Tokens.{tokens_of}
pub use Rattle.image_file.specs.Images.{CanBeSaved}
pub use Rattle.live_version.specs.Changes.{empty_version, file_with_id}
pub use Rattle.live_version.specs.Contents.{files_of, ranges_of, version_text, VersionContent}
pub use Rattle.live_version.specs.StandsFor.{entry_of, StandsFor}
pub use Rattle.manifest_publish.specs.Accounts.{Account}
pub use Rattle.outside.specs.Contents.{changed_at, BeginsContent, ChangesOnly, Contents, Loads}
pub use Rattle.outside.specs.declared.faults.FileError.{FileError}
pub use Rattle.query_lanes.specs.Answers.{answer_in, found_in}
pub use Rattle.query_lanes.specs.declared.asks.Ask.{Ask}
pub use Rattle.script_answers.specs.Answers.{add_reply, after_reply, answer, answers, asked_lines, content_reply, del_reply, files_lines, form_reply, has_watch, image_reply, is_query, lines_by, names_asked, names_kept, names_kept_of, names_kept_of_line, names_of, names_of_line, query_lines, reading_reply, reply, state_after, state_unwatching, state_watching, unchanged, unwatch_reply, watch_by, watch_reply, with_later, with_watch, without_watch, AllAnswered, AreRead, IsReadBy, IsReadUnless, Reply}
pub use Rattle.script_answers.specs.Faults.{of_files, of_write}
pub use Rattle.script_answers.specs.States.{IsFresh, Keeps, State}
pub use Rattle.script_answers.specs.Stopped.{begun, Ending, HoldsBut, IsAllWritten, IsOfFiles, IsStopped}
pub use Rattle.script_answers.specs.declared.limits.Limits.{Limits}
pub use Rattle.script_answers.specs.inner.Asks.{ask_lines, command_asking, AreAsked, AsksLine, IsAskOf}
pub use Rattle.script_answers.specs.inner.Service.{ending_of, fault_ending, merges_pending, stand_of, Counts, Goes, Halted, Halts, IsAt, IsAtStand, IsServing, IsSureOfFiles, KeepsFiles, Leaves, LeavesSink, Run, Served, Serves, Stand, StepsOn, Unmade, Takes}
pub use Rattle.script_answers.specs.inner.Tasks.{action_kept, action_names, action_of, action_reply, completes, task_kept, task_names, telling_where, told_reply, Does, Follows, Gives, IsActionOf, IsNothing, IsReadByAction, IsTaskFor, IsTaskOf, IsWatchReply}
pub use Rattle.script_lang.specs.Answers.{is_refusal, opened_line, shards_line, total_line, unwatched_line, watch_line}
pub use Rattle.script_lang.specs.Lines.{text_of_lines, Line}
pub use Rattle.standing_query.specs.Watches.{most_watches, WatchListContent}
