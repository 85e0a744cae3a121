-- The replies to lines that begin and end a watch, by what a list of watches does.
use Rattle.std.proofs.Common.{◌≡◌, ℕ, ◌<◌, ◌+◌, Bool, true, false, ◌||◌, List, [], ◌∷◌, ◌++◌, length, map, nat_lt, Option, Some, None, refl, sym, ap, ◌∙◌, subst, arith}
use Rattle.std.specs.Prelude.{if◌then◌else◌}
use Rattle.std.proofs.lemmas.Bool.Decides.{nat_tests}
use Rattle.gcl_model.specs.Forms.{Form}
use Rattle.gcl_parser.specs.declared.fault.QueryFault.{QueryFault}
use Rattle.gcl_parser.specs.Refusal.{refused}
use Rattle.gcl_parser.specs.QueryForm.{query_form}
use Rattle.script_answers.proofs.Prelude.{action_reply, entry_of, files_lines, files_of, form_of, form_reply, has_watch, listing_lines, merges, most_watches, record_lines, refusal_lines, shards_line, total_line, unchanged, unwatch_reply, watch_by, watch_line, watch_reply, watched_of, watching_of, with_watch, without_watch, Action, Answer, Contents, Does, EngineContent, Gives, IsWatchReply, Keeps, Limits, Reply, StandsFor, State, WatchListContent, Watched, Watches}
use Rattle.script_lang.specs.declared.refusals.Refusal.{Refusal}
use Rattle.script_lang.specs.declared.refusals.Refusal.TheVariants.{Query, NoWatch, TooManyWatches}
use Rattle.std.specs.List.{list_any}
use Rattle.std.specs.Prelude.{◌==◌, not, filter}
use Rattle.std.proofs.lemmas.List.{length-map, map-append}
use Rattle.gcl_model.specs.declared.expr.Expr.{Expr}
use Rattle.standing_query.specs.Watches.{has_watch as has_live, with_watch as with_live, without_watch as without_live}
use Rattle.standing_query.specs.declared.watch.Watch.{Watch}
use Rattle.answer_text.specs.declared.answer.Answer.TheVariants.{Watching, Unwatched, Refused}
use Rattle.script_answers.proofs.TellingLemmas.{attends, stays_watching}

below_is : (n m : ℕ) → n < m → nat_lt n m ≡ true
below_is n m lt = grind (arith, nat_tests)

not_below : (n m : ℕ) → n ≡ m → nat_lt n m ≡ false
not_below n m is = grind (arith, nat_tests)

-- What a list of watches says, once there is one more, or one less.

begun : (old : WatchListContent) (expr : Expr) → watching_of (with_live old expr) ≡ with_watch (watching_of old) (form_of expr)
begun old expr = ap (λ (l : List Watched). record { live = l; next = old.next + 1 }) (map-append watched_of old.live (record { id = old.next; expr = expr } ∷ []))

kept_if : (b : Bool) (w : Watch) (live : List Watch) → map watched_of (if b then w ∷ live else live) ≡ (if b then watched_of w ∷ map watched_of live else map watched_of live)
kept_if true w live = refl
kept_if false w live = refl

kept : (number : ℕ) (live : List Watch) → map watched_of (filter (λ w. not (w.id == number)) live) ≡ filter (λ w. not (w.number == number)) (map watched_of live)
kept number [] = refl
kept number (w ∷ live) = kept_if (not (w.id == number)) w (filter (λ w. not (w.id == number)) live) ∙ ap (λ (l : List Watched). if not (w.id == number) then watched_of w ∷ l else l) (kept number live)

ended : (old : WatchListContent) (number : ℕ) → watching_of (without_live old number) ≡ without_watch (watching_of old) number
ended old number = ap (λ (l : List Watched). record { live = l; next = old.next }) (kept number old.live)

there : (number : ℕ) (live : List Watch) → has_live live number ≡ list_any (λ w. w.number == number) (map watched_of live)
there number [] = refl
there number (w ∷ live) = ap (λ (b : Bool). (w.id == number) || b) (there number live)

-- a refusal, which leaves the watches
left_alone : (state : State) (refusal : Refusal) (old new : WatchListContent) → watching_of old ≡ state.watches → new ≡ old → IsWatchReply (unchanged state (refusal_lines refusal)) state new (Refused refusal)
left_alone state refusal old new is same = record { watching = ap watching_of same ∙ is; lines = λ version. refl; unchanged = refl; collection = refl; slots = refl; files = refl }

how_many : (state : State) (old : WatchListContent) (b : Bool) → watching_of old ≡ state.watches → nat_lt (length old.live) most_watches ≡ b → nat_lt (length state.watches.live) most_watches ≡ b
how_many state old b is few =
    ap (λ (w : Watches). nat_lt (length w.live) most_watches) (sym is) ∙ ap (λ (n : ℕ). nat_lt n most_watches) (length-map old.live watched_of) ∙ few

-- there is room for a watch more
pub watched : (state : State) (old new : WatchListContent) (expr : Expr) (number : ℕ) → watching_of old ≡ state.watches → length old.live < most_watches → new ≡ with_live old expr → number ≡ old.next →
    IsWatchReply (form_reply state (form_of expr)) state new (Watching number)
watched state old new expr number is room with given =
    rw (how_many state old true is (below_is (length old.live) most_watches room)) (record {
      watching = ap watching_of with ∙ begun old expr ∙ ap (λ (w : Watches). with_watch w (form_of expr)) is;
      lines = λ version. ap (λ (n : ℕ). watch_line n ∷ []) (sym (given ∙ ap (λ (w : Watches). w.next) is));
      unchanged = refl;
      collection = refl;
      slots = refl;
      files = refl;
    })

-- there is none
pub too_many : (state : State) (old new : WatchListContent) (form : Form) → watching_of old ≡ state.watches → length old.live ≡ most_watches → new ≡ old → IsWatchReply (form_reply state form) state new (Refused TooManyWatches)
too_many state old new form is full same =
    rw (how_many state old false is (not_below (length old.live) most_watches full)) (left_alone state TooManyWatches old new is same)

-- the text is no query
pub no_query : (state : State) (old new : WatchListContent) (query : List ℕ) (fault : QueryFault) → watching_of old ≡ state.watches → refused query ≡ Some fault → new ≡ old → IsWatchReply (watch_reply state query) state new (Refused (Query fault))
no_query state old new query fault is wrong same =
    rw wrong (left_alone state (Query fault) old new is same)

-- the text is one
pub a_query : (state : State) (new : WatchListContent) (query : List ℕ) (form : Form) (answer : Answer) → refused query ≡ None → query_form query ≡ Some form → IsWatchReply (form_reply state form) state new answer →
    IsWatchReply (watch_reply state query) state new answer
a_query state new query form answer right found replies =
    subst (λ (o : Option QueryFault). IsWatchReply (watch_by state o (query_form query)) state new answer) (sym right)
    (subst (λ (o : Option Form). IsWatchReply (watch_by state None o) state new answer) (sym found) replies)

is_there : (state : State) (old : WatchListContent) (number : ℕ) (b : Bool) → watching_of old ≡ state.watches → has_live old.live number ≡ b → has_watch state.watches number ≡ b
is_there state old number b is found = ap (λ (w : Watches). has_watch w number) (sym is) ∙ sym (there number old.live) ∙ found

-- a watch was ended
pub unwatched : (state : State) (old new : WatchListContent) (number : ℕ) → watching_of old ≡ state.watches → has_live old.live number ≡ true → new ≡ without_live old number →
    IsWatchReply (unwatch_reply state number) state new (Unwatched number)
unwatched state old new number is some without =
    rw (is_there state old number true is some)
    (record { watching = ap watching_of without ∙ ended old number ∙ ap (λ (w : Watches). without_watch w number) is; lines = λ version. refl; unchanged = refl; collection = refl; slots = refl; files = refl })

-- no watch has the number
pub no_watch : (state : State) (old new : WatchListContent) (number : ℕ) → watching_of old ≡ state.watches → has_live old.live number ≡ false → new ≡ old → IsWatchReply (unwatch_reply state number) state new (Refused (NoWatch number))
no_watch state old new number is none same =
    rw (is_there state old number false is none) (left_alone state (NoWatch number) old new is same)

-- a line that begins or ends a watch leaves the engine and the files
pub does_watching : (told : Option Reply) (reply : Reply) (state : State) (engine : EngineContent) (held : Option Contents) (watches : WatchListContent) (answer : Answer) → told ≡ Some reply → Keeps engine false state →
    held ≡ Some state.files → IsWatchReply reply state watches answer → Does told state engine false held watches answer
does_watching told reply state engine held watches answer is keeps files r = record {
  gives = record {
    reply = reply;
    is = is;
    follows = record {
      keeps = record { stands = subst (StandsFor engine.version) (sym r.collection) keeps.stands; slots = r.slots ∙ keeps.slots };
      lines = r.lines engine.version;
      still = λ other. (r.collection, r.files);
    };
    files = files ∙ ap (λ (f : Contents). Some f) (sym r.files);
  };
  watching = r.watching;
}

-- what a list of the files, and a number of slots, say of the state that an engine keeps
pub listed : (state : State) (engine : EngineContent) → Keeps engine false state → files_lines state.collection ≡ listing_lines (files_of engine.version.slots)
listed state engine keeps =
    ap (λ (n : ℕ). record_lines (map entry_of state.collection.files) ++ total_line n ∷ []) (sym (length-map state.collection.files entry_of)) ∙ ap listing_lines (sym keeps.stands.files)

pub slots_counted : (state : State) (engine : EngineContent) (count : ℕ) → Keeps engine false state → count ≡ length engine.version.slots → shards_line (length state.slots) ∷ [] ≡ shards_line count ∷ []
slots_counted state engine count keeps is =
    ap (λ (n : ℕ). shards_line n ∷ []) (ap length keeps.slots ∙ length-map engine.version.slots _ ∙ sym is)

-- every other line leaves the watches
pub does_other : (limits : Limits) (action known : Action) (state : State) (engine : EngineContent) (held : Option Contents) (old new : WatchListContent) (answer : Answer) → action ≡ known → attends known ≡ false →
    watching_of old ≡ state.watches → new ≡ old → Gives (action_reply limits state known) state engine (merges known) held answer → Does (action_reply limits state action) state engine (merges action) held new answer
does_other limits action known state engine held old new answer is other watching same g =
    subst (λ (a : Action). Does (action_reply limits state a) state engine (merges a) held new answer) (sym is)
    (record { gives = g; watching = ap watching_of same ∙ watching ∙ sym (stays_watching limits state known g.reply other g.is) })

-- a line that begins or ends a watch
pub does_attend : (limits : Limits) (action known : Action) (reply : Reply) (state : State) (engine : EngineContent) (held : Option Contents) (watches : WatchListContent) (answer : Answer) → action ≡ known → merges known ≡ false →
    action_reply limits state known ≡ Some reply → Keeps engine false state → held ≡ Some state.files → IsWatchReply reply state watches answer → Does (action_reply limits state action) state engine (merges action) held watches answer
does_attend limits action known reply state engine held watches answer is idle told keeps files r =
    subst (λ (a : Action). Does (action_reply limits state a) state engine (merges a) held watches answer) (sym is)
    (subst (λ (b : Bool). Does (action_reply limits state known) state engine b held watches answer) (sym idle) (does_watching (action_reply limits state known) reply state engine held watches answer told keeps files r))
