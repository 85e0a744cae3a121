use Rattle.text_search.proofs.NameLemmas.{names_decide_the_list, names_decide_the_wide_list, names_decide_the_cost}
use Rattle.text_search.proofs.MergeLemmas.{names_decide_the_merge_cost}
use Rattle.text_search.proofs.laws.names_decide.Goals as goal

pub returns : goal.returns
returns c = record { list = names_decide_the_list; wide = names_decide_the_wide_list; cost = names_decide_the_cost; merge_cost = names_decide_the_merge_cost }
