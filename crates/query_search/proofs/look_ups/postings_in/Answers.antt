use Rattle.std.proofs.Common.{sym}
use Rattle.index_shard.proofs.TableLaws.{at_its_place}
use Rattle.query_search.proofs.look_ups.postings_in.Goals as goal

-- if a term has a place there is a list
pub postings-requires : goal.postings-requires
postings-requires c = (at_its_place c.args.shard.now.table c.args.token.now c.in-Some.place (sym c.in-Some.ensures.value)).0
