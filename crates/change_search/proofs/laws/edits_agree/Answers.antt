use Rattle.change_search.proofs.EditLemmas.{versions_agree_after_add, versions_agree_after_delete}
use Rattle.change_search.proofs.laws.edits_agree.Goals as goal

pub returns : goal.returns
returns c = record {
  added = λ v w d name tokens stands adds. versions_agree_after_add v w d name tokens stands (adds.stands d stands).1;
  deleted = λ v w d id file stands sound deletes found. versions_agree_after_delete v w d id file sound stands (deletes.stands d stands).1 found;
}
