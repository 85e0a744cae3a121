-- The lines and the text of what is reported.
use Rattle.std.proofs.Common.{◌≡◌, ℕ, ◌+◌, ◌<◌, length, drop, Bool, true, false, ◌||◌, List, [], ◌∷◌, ◌++◌, map, refl, sym, ap, ◌∙◌, append-nil, None, Some}
use Rattle.std.specs.Prelude.{flat_map, slice_index_or, Option}
use Rattle.std.specs.List.{list_any}
use Rattle.std.proofs.lemmas.Grind.{flat_map-append}
use Rattle.std.proofs.lemmas.List.{map-append, drop-map}
use Rattle.std.proofs.lemmas.List.Folds.{list_any-append}
use Rattle.gcl_model.proofs.Lists.{drop_here}
use Rattle.gcl_model.specs.FormOf.{form_of}
use Rattle.gcl_model.specs.Texts.{Text}
use Rattle.gcl_model.specs.Wide.{wide}
use Rattle.live_version.specs.Contents.{VersionContent, version_text}
use Rattle.manifest_publish.specs.Accounts.{Account}
use Rattle.collection.specs.Engines.{EngineContent, IsEngine, last_of, published}
use Rattle.collection.proofs.EngineLemmas.{last_is}
use Rattle.script_lang.specs.Answers.{is_refusal}
use Rattle.script_lang.specs.Lines.{text_of_lines}
use Rattle.script_lang.proofs.AnswerLemmas.{change_line-plain}
use Rattle.standing_query.specs.Watches.{WatchListContent}
use Rattle.standing_query.specs.Changes.{changes}
use Rattle.standing_query.specs.declared.watch.Watch.{Watch}
use Rattle.standing_query.proofs.ChangeLemmas.{changes_none}
use Rattle.standing_query.specs.declared.change.Change.{Change}
use Rattle.standing_query.specs.declared.change.Change.TheVariants.{Went, Came}
use Rattle.answer_text.specs.Watching.{Watched, told_line, told_since, told_text, watch_lines, watched_of, watches_text, watching_of}

-- a text has no changes to itself
pub told_nothing : (text : Text) (live : List Watched) → flat_map (watch_lines text text) live ≡ []
told_nothing text [] = refl
told_nothing text (w ∷ live) = rw (changes_none (wide text w.form)) (told_nothing text live)

told_line-plain : (number : ℕ) (change : Change) → is_refusal (told_line number change) ≡ false
told_line-plain number (Went a) = change_line-plain number false a
told_line-plain number (Came a) = change_line-plain number true a

told_lines-plain : (number : ℕ) (list : List Change) → list_any is_refusal (map (told_line number) list) ≡ false
told_lines-plain number [] = refl
told_lines-plain number (c ∷ list) = rw (told_line-plain number c) (told_lines-plain number list)

watches-plain : (before now : Text) (live : List Watched) → list_any is_refusal (flat_map (watch_lines before now) live) ≡ false
watches-plain before now [] = refl
watches-plain before now (w ∷ live) =
    list_any-append is_refusal (watch_lines before now w) (flat_map (watch_lines before now) live) ∙ rw (told_lines-plain w.number (changes (wide before w.form) (wide now w.form)), watches-plain before now live) refl

-- no line that is reported is a refusal
pub told-plain : (before : Option Account) (watches : WatchListContent) (now : VersionContent) → list_any is_refusal (told_since before watches now) ≡ false
told-plain None watches now = refl
told-plain (Some pass) watches now = watches-plain (version_text (last_of pass.history)) (version_text now) (watching_of watches).live

-- so a refusal is among the lines of an answer and what is reported after it if it is among those of the answer
pub refused_alone : (refused : Bool) (lines told : List (List ℕ)) (found : Bool) → found ≡ list_any is_refusal lines → list_any is_refusal told ≡ false →
    (refused || found) ≡ (refused || list_any is_refusal (lines ++ told))
refused_alone refused lines told found is plain =
    ap (λ (b : Bool). refused || b) (is ∙ sym (or_none (list_any is_refusal lines)) ∙ ap (λ (b : Bool). list_any is_refusal lines || b) (sym plain) ∙ sym (list_any-append is_refusal lines told))
  where
    or_none : (b : Bool) → (b || false) ≡ b
    or_none true = refl
    or_none false = refl

-- what a text of changes is made of
pub told_on : (number : ℕ) (xs ys : List Change) → told_text number (xs ++ ys) ≡ told_text number xs ++ told_text number ys
told_on number xs ys = ap text_of_lines (map-append (told_line number) xs ys) ∙ flat_map-append _ (map (told_line number) xs) (map (told_line number) ys)

pub watches_on : (before now : Text) (xs ys : List Watched) → watches_text before now (xs ++ ys) ≡ watches_text before now xs ++ watches_text before now ys
watches_on before now xs ys =
    ap text_of_lines (flat_map-append (watch_lines before now) xs ys) ∙ flat_map-append _ (flat_map (watch_lines before now) xs) (flat_map (watch_lines before now) ys)

pub watch_here : (live : List Watch) (i : ℕ) (w : Watch) → i < length live → w ≡ slice_index_or live i w → drop i (map watched_of live) ≡ watched_of w ∷ drop (i + 1) (map watched_of live)
watch_here live i w lt is = drop-map watched_of i live ∙ ap (map watched_of) (drop_here live i w lt is) ∙ ap (λ (l : List Watched). watched_of w ∷ l) (sym (drop-map watched_of (i + 1) live))

pub one_watch : (before now : Text) (w : Watched) → text_of_lines (watch_lines before now w) ≡ watches_text before now (w ∷ [])
one_watch before now w = ap text_of_lines (sym (append-nil (watch_lines before now w)))

-- the last version of a pass that was taken now
pub last_published : (after : Account) (engine : EngineContent) → after ≡ published engine → IsEngine engine → last_of after.history ≡ engine.version
last_published after engine now sound = ap (λ (a : Account). last_of a.history) now ∙ last_is engine.history engine.version sound.ends.1

-- the changes that a listing gives are those since the version of a pass
pub listing_is : (w : Watch) (before before' after : Account) (engine : EngineContent) (listing : List Change) →
    listing ≡ changes (wide (version_text (last_of before'.history)) (form_of w.expr)) (wide (version_text (last_of after.history)) (form_of w.expr)) → before' ≡ before → after ≡ published engine → IsEngine engine →
    told_text w.id listing ≡ text_of_lines (watch_lines (version_text (last_of before.history)) (version_text engine.version) (watched_of w))
listing_is w before before' after engine listing is same now sound =
    let last = last_published after engine now sound in
    ap (told_text w.id) is
    ∙ ap (λ (a : Account). told_text w.id (changes (wide (version_text (last_of a.history)) (form_of w.expr)) (wide (version_text (last_of after.history)) (form_of w.expr)))) same
    ∙ ap (λ (v : VersionContent). told_text w.id (changes (wide (version_text (last_of before.history)) (form_of w.expr)) (wide (version_text v) (form_of w.expr)))) last
