use Rattle.posting_code.proofs.Cuts.{lend_whole}
use Rattle.posting_code.proofs.posting_list.Postings.whole.Goals as goal

pub of_block-requires : goal.of_block-requires
of_block-requires c = (lend_whole _ _ _ _ _ _ c.self.view_is c.self.invariant c.requires).parts
