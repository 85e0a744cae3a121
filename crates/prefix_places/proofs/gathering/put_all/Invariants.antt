use Rattle.std.proofs.Common.{◌≡◌, ◌++◌, ◌*◌, take}
use Rattle.prefix_places.proofs.gathering.put_all.Given as goal

-- the blocks so far are put
abbrev pub invariant-loop-block : goal.invariant-loop-block
invariant-loop-block l = l.addresses.items ≡ l.fn.addresses.items ++ take (64 * l.block) l.list
