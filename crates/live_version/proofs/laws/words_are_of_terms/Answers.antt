use Rattle.live_version.proofs.TermLemmas.{words_are_of_terms}
use Rattle.live_version.proofs.laws.words_are_of_terms.Goals as goal

pub returns : goal.returns
returns c = λ v. words_are_of_terms v.slots
