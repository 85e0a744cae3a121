-- A count of which only the last one is there.
use Rattle.std.specs.Prelude.{ℕ, ◌+◌}
use Rattle.outside.specs.declared.ghost_count.Last.{Last}
use Rattle.outside.specs.declared.ghost_count.Last.TheVariants.{None, After}

-- how many there were before the last one, and that one
abbrev pub count_of : Last → ℕ
count_of None = 0
count_of (After before) = before.value + 1
