-- Why a query is not watched.
use Rattle.std.specs.Prelude.{◌≡◌, ◌<◌, List, length}
use Rattle.standing_query.specs.Watches.{most_watches}
use Rattle.standing_query.specs.declared.watch.Watch.{Watch}
use Rattle.standing_query.specs.declared.faults.WatchFault.{WatchFault}
use Rattle.standing_query.specs.declared.faults.WatchFault.TheVariants.{Full, NoMemory}

-- 16 watches are live, as the fault says, or there is room, but no memory
abbrev pub IsWatchFault : List Watch → WatchFault → Type 0
IsWatchFault live (Full most) = (most ≡ most_watches) × (length live ≡ most_watches)
IsWatchFault live NoMemory = length live < most_watches
