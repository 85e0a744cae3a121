use Rattle.std.proofs.Common.{◌≡◌, ◌++◌, ◌*◌, take}
use Rattle.std.specs.List.{concat}
use Rattle.slot_terms.specs.Parts.{alive}
use Rattle.slot_terms.proofs.part.lend_live.Given as goal

-- of the blocks so far, the live ones are put
abbrev pub invariant-loop-block : goal.invariant-loop-block
invariant-loop-block l = concat l.lists.items ≡ concat l.fn.lists.items ++ alive l.mask (take (64 * l.block) l.list)
