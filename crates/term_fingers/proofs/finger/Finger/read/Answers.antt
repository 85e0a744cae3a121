use Rattle.std.proofs.Common.{◌≤◌, ap, sym, ◌∙◌, subst}
use Rattle.posting_code.specs.Postings.{block_of}
use Rattle.posting_code.proofs.Around.{block_rises}
use Rattle.term_fingers.proofs.Nearest.{block_is_few}
use Rattle.term_fingers.proofs.finger.Finger.read.Goals as goal

pub returns-then-self-block-clause-rising : goal.returns-then-self-block-clause-rising
returns-then-self-block-clause-rising g c = block_rises c.args.list.now c.args.block c.len-count.ensures.rising

pub invariant_of-self-clause-few : goal.invariant_of-self-clause-few
invariant_of-self-clause-few g c = subst (λ n. n ≤ 64) (sym c.read_block-self.ensures.count) (block_is_few c.args.list.now c.args.block)

pub invariant_of-self-clause-is : goal.invariant_of-self-clause-is
invariant_of-self-clause-is g c = λ _. c.read_block-self.ensures.members ∙ ap (λ xs. block_of xs c.args.block) c.requires.list

pub returns-clause-rising : goal.returns-clause-rising
returns-clause-rising g c = block_rises c.args.list.now c.args.block c.read_block-self.ensures.rising
