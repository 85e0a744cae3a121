use Rattle.std.proofs.Common.{◌≡◌, ℕ, ◌*◌, ◌<◌, List, Some, sym, ◌∙◌, ap, arith}
use Rattle.std.specs.List.{slice_get, slice_index}
use Rattle.std.proofs.lemmas.Option.{slice_get-get_or}
use Rattle.posting_code.specs.Postings.{blocks_of}
use Rattle.term_fingers.proofs.finger.Finger.first_of.Goals as goal

first_there : (xs : List ℕ) (block first : ℕ) → block < blocks_of xs → first ≡ slice_index xs (64 * block) → Some first ≡ slice_get xs (64 * block)
first_there xs block first within is = ap Some is ∙ sym (slice_get-get_or xs (64 * block) 0 (omega (arith, within)))

pub read-requires-clause-block : goal.read-requires-clause-block
read-requires-clause-block g c = omega (arith, c.requires.block, c.block_count.ensures.value, c.if-block-block_count.false)

pub returns : goal.returns
returns g c =
    first_there c.args.list.now c.args.block c.block_first.result (omega (arith, c.requires.block, c.block_count.ensures.value, c.if-block-block_count.false)) c.block_first.ensures.value
