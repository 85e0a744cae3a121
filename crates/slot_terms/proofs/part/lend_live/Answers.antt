use Rattle.std.proofs.Common.{◌≡◌, ℕ, ◌++◌, ◌*◌, ◌<◌, ◌≤◌, List, length, length-take, take, drop, ap, sym, subst, ◌∙◌, arith, append-nil}
use Rattle.std.specs.List.{concat}
use Rattle.std.proofs.lemmas.List.{take_all}
use Rattle.gcl_model.specs.Slots.{SlotRange}
use Rattle.posting_code.specs.Postings.{ArePostings, blocks_of}
use Rattle.posting_code.proofs.Around.{block_rises}
use Rattle.slot_terms.specs.Parts.{alive}
use Rattle.slot_terms.proofs.Between.{same_from}
use Rattle.slot_terms.proofs.Firsts.{concat_push}
use Rattle.slot_terms.proofs.LivePostings.{put_more}
use Rattle.slot_terms.proofs.part.lend_live.Goals as goal

pub returns-then-is_apart : goal.returns-then-is_apart
returns-then-is_apart c =
    ap concat c.in_ok-push.ensures.items
    ∙ concat_push c.args.lists.now.items c.args.list
    ∙ ap (λ l. concat c.args.lists.now.items ++ l) (sym (c.is_apart.ensures c.if-is_apart.true))

pub lend_between-requires-clause-few : goal.lend_between-requires-clause-few
lend_between-requires-clause-few c =
    let size = ap length c.block-block.ensures.value in
    let long = length-take 64 (drop (64 * c.loop-block.block) c.args.list) in
    omega (arith, size, long)

pub loop-block-preserved : goal.loop-block-preserved
loop-block-preserved c =
    let mask = c.args.mask.now in
    let list = c.args.list in
    let block = c.block-block.result in
    let put = concat c.loop-block.lists.items in
    let rising = subst ArePostings (sym c.block-block.ensures.value) (block_rises list c.loop-block.block c.block-block.ensures.rising) in
    let same : alive c.ranges_from-ranges.result.now block ≡ alive mask block = same_from mask c.ranges_from-ranges.result.now block c.first.result rising c.first.ensures c.ranges_from-ranges.ensures.dead in
    put_more mask list block (concat c.args.lists.now.items) put (concat c.lend_between.new.lists.items) c.loop-block.block c.block-block.ensures.value c.loop-block.invariant (c.in_ok-lend_between.ensures ∙ ap (λ l. put ++ l) same)

-- if no block is left, the live ones of all are put
put_all : (mask : List SlotRange) (list base out : List ℕ) (block : ℕ) → blocks_of list ≤ block → out ≡ base ++ alive mask (take (64 * block) list) → out ≡ base ++ alive mask list
put_all mask list base out block all was = was ∙ ap (λ l. base ++ alive mask l) (take_all (64 * block) list (omega (arith, all)))

pub loop-block-init : goal.loop-block-init
loop-block-init c = sym (append-nil (concat c.args.lists.now.items))

pub block-block-requires : goal.block-block-requires
block-block-requires c = subst (λ n. c.loop-block.block < n) c.block_count-block-end.ensures.value c.loop-block-test.true

pub lend_between-requires-clause-apart : goal.lend_between-requires-clause-apart
lend_between-requires-clause-apart c = c.ranges_from-ranges.ensures.apart

pub returns : goal.returns
returns c =
    let all = subst (λ n. n ≤ c.loop-block.block) c.block_count-block-end.ensures.value c.loop-block-test.false in
    put_all c.args.mask.now c.args.list (concat c.args.lists.now.items) (concat c.loop-block.lists.items) c.loop-block.block all c.loop-block.invariant
