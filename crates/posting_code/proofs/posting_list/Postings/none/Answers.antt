use Rattle.posting_code.proofs.Packed.{none_kept}
use Rattle.posting_code.proofs.posting_list.Postings.none.Goals as goal

pub of_block-requires : goal.of_block-requires
of_block-requires c = none_kept 0
