use Rattle.std.proofs.Common.{◌≡◌, take}
use Rattle.posting_code.proofs.maker.encode.Given as goal

-- the list is that of the addresses so far
abbrev pub invariant-loop-address : goal.invariant-loop-address
invariant-loop-address l = l.maker ≡ take l.address-index l.addresses
