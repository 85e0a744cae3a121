use Rattle.std.proofs.Common.{sym, ◌∙◌}
use Rattle.index_shard.proofs.TableLaws.{at_no_place, at_its_place}
use Rattle.index_shard.proofs.table.TermTable.find_postings.Goals as goal

pub postings_at-requires : goal.postings_at-requires
postings_at-requires c = (at_its_place _ _ _ (sym c.in_ok-place.ensures)).0

pub returns-in_err-place : goal.returns-in_err-place
returns-in_err-place c = rw c.from_residual.ensures (at_no_place c.args.self.now c.args.term.now (sym c.in_err-place.ensures))

pub returns : goal.returns
returns c = sym (c.postings_at.ensures.at ∙ (at_its_place _ _ _ (sym c.in_ok-place.ensures)).1)
