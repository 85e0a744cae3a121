use Rattle.std.proofs.Common.{◌≡◌, take}
use Rattle.prefix_places.specs.Runs.{run_addresses}
use Rattle.prefix_places.proofs.gathering.addresses_of_run.Given as goal

-- the addresses of the terms so far
abbrev pub invariant-loop-place : goal.invariant-loop-place
invariant-loop-place l = l.addresses.items ≡ run_addresses l.prefix (take l.place l.shard.table)
