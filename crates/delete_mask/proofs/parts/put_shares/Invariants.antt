use Rattle.std.proofs.Common.{◌≡◌, ◌++◌, take}
use Rattle.delete_mask.proofs.parts.put_shares.Given as goal

-- the parts so far are put
abbrev pub invariant-loop-part : goal.invariant-loop-part
invariant-loop-part l = l.into.items ≡ l.fn.into.items ++ take l.part-index l.parts
