use Rattle.std.proofs.Common.{◌≡◌, ℕ, ◌*◌, ◌<◌, ◌≤◌, List, ◌++◌, sym, ap, ◌∙◌, subst, take, arith, append-nil}
use Rattle.std.proofs.lemmas.List.{take_all}
use Rattle.gcl_model.specs.Slots.{SlotRange}
use Rattle.posting_code.specs.Postings.{ArePostings, blocks_of}
use Rattle.slot_terms.specs.Parts.{alive}
use Rattle.posting_code.proofs.Around.{block_rises}
use Rattle.slot_terms.proofs.LivePostings.{put_more}
use Rattle.slot_terms.proofs.part.put_live.Goals as goal

pub put_block-requires : goal.put_block-requires
put_block-requires c = subst ArePostings (sym c.read_block-count.ensures.members) (block_rises c.args.list.now c.loop-block.block c.read_block-count.ensures.rising)

pub loop-block-preserved : goal.loop-block-preserved
loop-block-preserved c =
    put_more c.args.mask.now c.args.list.now (take c.read_block-count.result c.read_block-count.new.into) c.args.addresses.now.items c.loop-block.addresses.items c.put_block.new.addresses.items c.loop-block.block
    c.read_block-count.ensures.members c.loop-block.invariant c.in_ok-put_block.ensures

-- if no block is left, the live ones of all are put
put_all : (mask : List SlotRange) (list base out : List ℕ) (block : ℕ) → blocks_of list ≤ block → out ≡ base ++ alive mask (take (64 * block) list) → out ≡ base ++ alive mask list
put_all mask list base out block all was = was ∙ ap (λ l. base ++ alive mask l) (take_all (64 * block) list (omega (arith, all)))

pub loop-block-init : goal.loop-block-init
loop-block-init c = sym (append-nil c.args.addresses.now.items)

pub read_block-count-requires : goal.read_block-count-requires
read_block-count-requires c = subst (λ n. c.loop-block.block < n) c.block_count-block-end.ensures.value c.loop-block-test.true

pub returns : goal.returns
returns c =
    let all = subst (λ n. n ≤ c.loop-block.block) c.block_count-block-end.ensures.value c.loop-block-test.false in
    put_all c.args.mask.now c.args.list.now c.args.addresses.now.items c.loop-block.addresses.items c.loop-block.block all c.loop-block.invariant
