-- The answer to each line, and the output of a script.
use Rattle.std.specs.Prelude.{ℕ, ◌+◌, ◌-◌, ◌==◌, Bool, true, false, not, nat_lt, List, [], ◌∷◌, ◌++◌, length, take, map, filter, flat_map, Option, None, Some, IsSome, IfSome, ⊤, if◌then◌else◌}
use Rattle.std.specs.Option.{option_map}
use Rattle.std.specs.List.{list_any}
use Rattle.outside.specs.Contents.{changed_at}
use Rattle.gcl_model.specs.Limits.{address_end}
use Rattle.gcl_model.specs.Texts.{Text}
use Rattle.gcl_model.specs.Extents.{Extent}
use Rattle.gcl_model.specs.Forms.{Form}
use Rattle.gcl_model.specs.Wide.{wide}
use Rattle.gcl_model.specs.Tokens.{tokens_of}
use Rattle.gcl_model.specs.Collections.{Collection, width_of, text_of, has_file, with_file, without_file}
use Rattle.gcl_model.specs.Slots.{slot_range, slots_after_add, slots_after_merge, slots_after_open}
use Rattle.live_version.specs.StandsFor.{entry_of}
use Rattle.script_lang.specs.Lines.{Line, lines, text_of_lines}
use Rattle.script_lang.specs.Commands.{command_of}
use Rattle.script_lang.specs.Answers.{file_line, gone_line, total_line, watch_line, unwatched_line, merging_line, shards_line, saved_line, opened_line, is_refusal}
use Rattle.script_lang.specs.declared.commands.Command.{Command}
use Rattle.script_lang.specs.declared.commands.Command.TheVariants.{Blank, Add, Del, Find, Count, Top, Files, Merge, Shards, Save, Load, Watch, Unwatch, Wrong}
use Rattle.script_lang.specs.declared.refusals.Refusal.TheVariants.{Command as NoCommand, LongLine, Query, NoFile, TooLong, NoAddresses, NotEmpty, NotImage, NoWatch, TooManyWatches}
use Rattle.gcl_parser.specs.declared.fault.QueryFault.{QueryFault}
use Rattle.gcl_parser.specs.Refusal.{refused}
use Rattle.gcl_parser.specs.QueryForm.{query_form}
use Rattle.standing_query.specs.Watches.{most_watches}
use Rattle.image_file.specs.Images.{image_of}
use Rattle.image_read.specs.Answers.{IsReading}
use Rattle.script_answers.specs.States.{State, greatest_limits}
use Rattle.answer_text.specs.Watching.{Watches}
use Rattle.script_answers.specs.declared.limits.Limits.{Limits}
use Rattle.query_lanes.specs.declared.asks.Asked.{Asked}
use Rattle.query_lanes.specs.declared.asks.Asked.TheVariants.{All, First, Number}
pub use Rattle.answer_text.specs.Texts.{list_lines, listing_lines, record_lines, refusal_lines}
pub use Rattle.answer_text.specs.Watching.{changes_lines, told_line, watch_lines}

-- the lines of an answer, and the state that it leaves
pub record Reply : Type 0 where
  pub lines : List (List ℕ)
  pub after : State

-- an answer of these lines, which changes nothing
abbrev pub unchanged : State → List (List ℕ) → Reply
unchanged state lines = record { lines = lines; after = state }

-- the last address of a file with these tokens that is added now
abbrev pub last_address : Collection → List (List ℕ) → ℕ
last_address c tokens = c.next + width_of tokens - 1

-- after a file was added: it has a slot of its own, and then the last slots become one as far as the rule of adding goes
abbrev pub state_with_file : State → List ℕ → List (List ℕ) → State
state_with_file state name tokens = record state {
  collection = with_file state.collection name tokens;
  slots = slots_after_add state.slots (slot_range state.collection.next (last_address state.collection tokens));
}

-- after the file with this id was deleted: every slot stays
abbrev pub state_without_file : State → ℕ → State
state_without_file state id = record state { collection = without_file state.collection id }

-- after a merge: one slot, or none if no file survives
abbrev pub state_merged : State → State
state_merged state = record state { slots = slots_after_merge state.slots state.collection.files }

-- after these bytes were kept under a name
abbrev pub state_keeping : State → List ℕ → List ℕ → State
state_keeping state name bytes = record state { files = changed_at name (Some bytes) state.files }

-- after an image was opened: its collection, in one slot, or in none if it has no file
abbrev pub state_opened : State → Collection → State
state_opened state c = record state { collection = c; slots = slots_after_open c.files }

-- a reply, and then what it changed for each live watch; one that is refused changes nothing, and so reports nothing
abbrev pub telling : State → Reply → Reply
telling state reply = record { lines = reply.lines ++ changes_lines state.watches (text_of state.collection) (text_of reply.after.collection); after = reply.after }

-- the reply to adding a file with this content: it is refused if its last address would not be below the end
abbrev pub content_reply : State → List ℕ → List ℕ → Reply
content_reply state name content = if nat_lt address_end (state.collection.next + width_of (tokens_of content)) then unchanged state (refusal_lines NoAddresses)
    else record {
      lines = file_line state.collection.next_id state.collection.next (last_address state.collection (tokens_of content)) ∷ [];
      after = state_with_file state name (tokens_of content);
    }

-- the same, and it is refused if it has too many bytes
abbrev pub add_reply : Limits → State → List ℕ → List ℕ → Reply
add_reply limits state name content = if nat_lt limits.file (length content) then unchanged state (refusal_lines TooLong) else content_reply state name content

-- the reply to deleting the file with this id: it is refused if no surviving file has the id
abbrev pub del_reply : State → ℕ → Reply
del_reply state id = if has_file state.collection id then record { lines = gone_line id ∷ []; after = state_without_file state id } else unchanged state (refusal_lines (NoFile id))

-- the reply to keeping these bytes as an image: it is refused if they are too many
abbrev pub bytes_reply : Limits → State → List ℕ → List ℕ → Reply
bytes_reply limits state name bytes = if nat_lt limits.image (length bytes) then unchanged state (refusal_lines TooLong)
    else record { lines = saved_line (length bytes) ∷ []; after = state_keeping state name bytes }

-- the reply to saving the collection under a name
abbrev pub save_reply : Limits → State → List ℕ → Reply
save_reply limits state name = bytes_reply limits state name (image_of state.collection)

-- the reply to opening what was read as an image of a collection, or of none
abbrev pub reading_reply : State → Option Collection → Reply
reading_reply state None = unchanged state (refusal_lines NotImage)
reading_reply state (Some c) = record { lines = opened_line (length c.files) ∷ []; after = state_opened state c }

-- the reply to opening this content: it is refused if it has too many bytes
abbrev pub image_reply : Limits → State → List ℕ → Reply
image_reply limits state content = if nat_lt limits.image (length content) then unchanged state (refusal_lines TooLong) else reading_reply state (state.images content)

-- the reply to opening a name, None if it loads one that isn't held: once a file was added it is refused, and nothing is loaded
abbrev pub open_reply : Limits → State → List ℕ → Option Reply
open_reply limits state name = if nat_lt 0 state.collection.next_id then Some (unchanged state (refusal_lines NotEmpty)) else option_map (image_reply limits state) (state.files name)

-- the lines that answer what is asked of a list: its intervals and their number, the same for its first `most`, or how many it has
abbrev pub asked_lines : Asked → List Extent → List (List ℕ)
asked_lines All list = list_lines list
asked_lines (First most) list = list_lines (take most list)
asked_lines Number list = total_line (length list) ∷ []

-- the first fault of a query, or what is asked of the wide list of its form
abbrev pub lines_by : Asked → Text → Option QueryFault → Option Form → List (List ℕ)
lines_by asked text (Some fault) form = refusal_lines (Query fault)
lines_by asked text None (Some form) = asked_lines asked (wide text form)
lines_by asked text None None = []

-- the lines that answer a query over a text: over "to be" those of `count "to"` are `= 1`; a text that is not refused has a form
abbrev pub query_lines : Asked → Text → List ℕ → List (List ℕ)
query_lines asked text query = lines_by asked text (refused query) (query_form query)

-- the watches with one more, of this form: it gets the next number, and is last
abbrev pub with_watch : Watches → Form → Watches
with_watch watches form = record { live = watches.live ++ record { number = watches.next; form = form } ∷ []; next = watches.next + 1 }

-- the watches without that of this number, which is not given again
abbrev pub without_watch : Watches → ℕ → Watches
without_watch watches number = record watches { live = filter (λ w. not (w.number == number)) watches.live }

-- some live watch has the number
abbrev pub has_watch : Watches → ℕ → Bool
has_watch watches number = list_any (λ w. w.number == number) watches.live

-- after a watch of this form was begun
abbrev pub state_watching : State → Form → State
state_watching state form = record state { watches = with_watch state.watches form }

-- after the watch of this number was ended
abbrev pub state_unwatching : State → ℕ → State
state_unwatching state number = record state { watches = without_watch state.watches number }

-- the reply to watching a form: it is refused if as many are watched as may be
abbrev pub form_reply : State → Form → Reply
form_reply state form = if nat_lt (length state.watches.live) most_watches then record { lines = watch_line state.watches.next ∷ []; after = state_watching state form }
    else unchanged state (refusal_lines TooManyWatches)

-- the reply to watching a query with this first fault, or of this form
abbrev pub watch_by : State → Option QueryFault → Option Form → Reply
watch_by state (Some fault) form = unchanged state (refusal_lines (Query fault))
watch_by state None (Some form) = form_reply state form
watch_by state None None = unchanged state []

-- the reply to watching a query; a text that is not refused has a form
abbrev pub watch_reply : State → List ℕ → Reply
watch_reply state query = watch_by state (refused query) (query_form query)

-- the reply to ending a watch: it is refused if no live watch has the number
abbrev pub unwatch_reply : State → ℕ → Reply
unwatch_reply state number = if has_watch state.watches number then record { lines = unwatched_line number ∷ []; after = state_unwatching state number }
    else unchanged state (refusal_lines (NoWatch number))

-- a line for each surviving file, and then their number
abbrev pub files_lines : Collection → List (List ℕ)
files_lines c = record_lines (map entry_of c.files) ++ total_line (length c.files) ∷ []

-- the reply to a command, None if it loads a name that isn't held. Each edit reports what it changed
abbrev pub reply : Limits → State → Command → Option Reply
reply limits state Blank = Some (unchanged state [])
reply limits state (Add name) = option_map (telling state) (option_map (add_reply limits state name) (state.files name))
reply limits state (Del id) = Some (telling state (del_reply state id))
reply limits state (Find query) = Some (unchanged state (query_lines All (text_of state.collection) query))
reply limits state (Count query) = Some (unchanged state (query_lines Number (text_of state.collection) query))
reply limits state (Top n query) = Some (unchanged state (query_lines (First n) (text_of state.collection) query))
reply limits state Files = Some (unchanged state (files_lines state.collection))
reply limits state Merge = Some record { lines = merging_line ∷ []; after = state_merged state }
reply limits state Shards = Some (unchanged state (shards_line (length state.slots) ∷ []))
reply limits state (Save name) = Some (save_reply limits state name)
reply limits state (Load name) = option_map (telling state) (open_reply limits state name)
reply limits state (Watch query) = Some (watch_reply state query)
reply limits state (Unwatch number) = Some (unwatch_reply state number)
reply limits state Wrong = Some (unchanged state (refusal_lines NoCommand))

-- the reply to a line: that to its command, or a refusal if it is long
abbrev pub answer : Limits → State → Line → Option Reply
answer limits state line = if line.long then Some (unchanged state (refusal_lines LongLine)) else reply limits state (command_of line.bytes)

-- the state that a reply leaves, or the state before if there is none
abbrev pub after_reply : State → Option Reply → State
after_reply state None = state
after_reply state (Some reply) = reply.after

-- the state after some lines
abbrev pub state_after : Limits → State → List Line → State
state_after limits state [] = state
state_after limits state (line ∷ rest) = state_after limits (after_reply state (answer limits state line)) rest

-- the lines of a reply, and then those that follow it; none if there is no reply
abbrev pub with_later : Option Reply → List (List ℕ) → List (List ℕ)
with_later None later = []
with_later (Some reply) later = reply.lines ++ later

-- the lines of the replies to a list of lines, each in the state that the lines before it leave, up to the first that has no reply
abbrev pub answers : Limits → State → List Line → List (List ℕ)
answers limits state [] = []
answers limits state (line ∷ rest) = with_later (answer limits state line) (answers limits (after_reply state (answer limits state line)) rest)

-- no line loads a name that isn't held
abbrev pub AllAnswered : Limits → State → List Line → Type 0
AllAnswered limits state [] = ⊤
AllAnswered limits state (line ∷ rest) = IsSome (answer limits state line) × AllAnswered limits (after_reply state (answer limits state line)) rest

-- whether a command asks a query
abbrev pub is_query : Command → Bool
is_query (Find query) = true
is_query (Count query) = true
is_query (Top most query) = true
is_query _ = false

-- whether a line does; a long one does not
abbrev pub asks_query : Line → Bool
asks_query line = if line.long then false else is_query (command_of line.bytes)

-- what a command opens is read rightly
abbrev pub IsReadBy : State → Command → Type 0
IsReadBy state (Load name) = IfSome (state.files name) (λ content. IsReading content (state.images content))
IsReadBy state _ = ⊤

-- what a line of these bytes opens is read rightly; a long line opens nothing
abbrev pub IsReadUnless : Bool → State → List ℕ → Type 0
IsReadUnless true state bytes = ⊤
IsReadUnless false state bytes = IsReadBy state (command_of bytes)

-- what a line opens is read rightly
abbrev pub IsRead : State → Line → Type 0
IsRead state line = IsReadUnless line.long state line.bytes

-- what each of some lines opens is read rightly
abbrev pub AreRead : Limits → State → List Line → Type 0
AreRead limits state [] = ⊤
AreRead limits state (line ∷ rest) = IsRead state line × AreRead limits (after_reply state (answer limits state line)) rest

-- the output of a script starting at a state, by these limits
abbrev pub output_by : Limits → State → List ℕ → List ℕ
output_by limits start script = text_of_lines (answers limits start (lines limits.line script))

-- a refusal line is among the answers
abbrev pub has_refusal_by : Limits → State → List ℕ → Bool
has_refusal_by limits start script = list_any is_refusal (answers limits start (lines limits.line script))

-- the output of a script, by the limits of a run
abbrev pub output : State → List ℕ → List ℕ
output start script = output_by greatest_limits start script

-- the names that a command asks the files for
abbrev pub names_asked : Command → List (List ℕ)
names_asked (Add name) = name ∷ []
names_asked (Save name) = name ∷ []
names_asked (Load name) = name ∷ []
names_asked _ = []

-- the names that a line asks the files for
abbrev pub names_of_line : Line → List (List ℕ)
names_of_line line = if line.long then [] else names_asked (command_of line.bytes)

-- the names that some lines ask the files for
abbrev pub names_of : List Line → List (List ℕ)
names_of = flat_map names_of_line

-- the names that a command gives another content
abbrev pub names_kept : Command → List (List ℕ)
names_kept (Save name) = name ∷ []
names_kept _ = []

-- the names that a line gives another content
abbrev pub names_kept_of_line : Line → List (List ℕ)
names_kept_of_line line = if line.long then [] else names_kept (command_of line.bytes)

-- the names that some lines give another content
abbrev pub names_kept_of : List Line → List (List ℕ)
names_kept_of = flat_map names_kept_of_line
