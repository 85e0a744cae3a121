-- The live watches, and the number of the next one.
use Rattle.std.specs.Prelude.{ℕ, ◌+◌, ◌<◌, ◌≤◌, Bool, not, ◌==◌, List, [], ◌∷◌, ◌++◌, length, filter}
use Rattle.std.specs.List.{list_any, AllByRecursion}
use Rattle.gcl_model.specs.declared.expr.Expr.{Expr}
use Rattle.gcl_model.specs.FormOf.{form_of}
use Rattle.gcl_model.specs.Limits.{version_end}
use Rattle.gcl_model.specs.WellFormed.{IsWellFormed}
use Rattle.standing_query.specs.declared.watch.Watch.{Watch}

-- how many watches are live at most
abbrev pub most_watches : ℕ
most_watches = 16

-- the live watches in rising number, and the number that the next one gets
pub record WatchListContent : Type 0 where
  pub live : List Watch
  pub next : ℕ

-- these live watches, and the next one's number
abbrev pub watch_list : List Watch → ℕ → WatchListContent
watch_list live next = record { live = live; next = next }

-- the watch of this number and this expression
abbrev pub watch : ℕ → Expr → Watch
watch id expr = record { id = id; expr = expr }

-- some live watch has the number
abbrev pub has_watch : List Watch → ℕ → Bool
has_watch live id = list_any (λ w. w.id == id) live

-- the list with one more watch at its end, which gets the next number: the numbers 0 and 2, and 3 as the next, become 0, 2 and 3, and then
-- 4
abbrev pub with_watch : WatchListContent → Expr → WatchListContent
with_watch list expr = watch_list (list.live ++ watch list.next expr ∷ []) (list.next + 1)

-- the list without the watch of this number: without 0 the numbers 0 and 2 become 2, and the next number is the same
abbrev pub without_watch : WatchListContent → ℕ → WatchListContent
without_watch list id = watch_list (filter (λ w. not (w.id == id)) list.live) list.next

-- the numbers rise, are `low` or more, and are below `next`
abbrev pub RiseWithin : (low next : ℕ) → List Watch → Type 0
RiseWithin low next [] = Unit {0}
RiseWithin low next (w ∷ live) = (low ≤ w.id) × (w.id < next) × RiseWithin (w.id + 1) next live

-- the numbers of the live watches rise, were all given, and are no more than 16
pub record IsWatchList (list : WatchListContent) : Type 0 where
  pub rising : RiseWithin 0 list.next list.live
  pub few : length list.live ≤ most_watches
  pub in_range : list.next ≤ version_end

-- each watch has a well formed expression
abbrev pub AreWellFormedWatches : List Watch → Type 0
AreWellFormedWatches live = AllByRecursion (λ w. IsWellFormed (form_of w.expr)) live
