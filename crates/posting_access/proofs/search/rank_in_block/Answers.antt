use Rattle.std.proofs.Common.{◌∙◌, ◌^◌, ap, ltb}
use Rattle.std.specs.List.{prefix_len}
use Rattle.posting_code.specs.Postings.{block_of}
use Rattle.posting_code.proofs.Around.{block_rises}
use Rattle.posting_access.proofs.Ranks.{first_are_below}
use Rattle.posting_access.proofs.search.rank_in_block.Goals as goal

pub returns : goal.returns
returns c =
    let block = block_of c.args.list.now c.args.block in
    c.begin_below.ensures ∙ ap (prefix_len (λ p. ltb p c.args.k)) c.read_block-count.ensures.members
    ∙ first_are_below 0 (2 ^ 56) block c.args.k (block_rises c.args.list.now c.args.block c.read_block-count.ensures.rising)
