use Rattle.std.proofs.Common.{◌∙◌, subst}
use Rattle.std.specs.List.{AllByRecursion}
use Rattle.std.proofs.lemmas.List.{append-nil}
use Rattle.std.proofs.lemmas.Result.{on_ok_weaker}
use Rattle.file_runs.specs.Records.{IsInhabited}
use Rattle.file_runs.proofs.Parts.{last_two}
use Rattle.file_runs.proofs.runs.put_run.Goals as goal

pub put_two-requires : goal.put_two-requires
put_two-requires c = last_two c.args.into.now.items c.pop.new.self.items c.in-Some.last c.args.run.now c.in-Some.ensures.items c.requires

pub returns-in-None-clause-inhabited : goal.returns-in-None-clause-inhabited
returns-in-None-clause-inhabited c =
    on_ok_weaker c.put_share.result (λ step were. step (subst (AllByRecursion IsInhabited) (c.in-None.ensures.items ∙ append-nil c.pop.new.self.items) were)) c.put_share.ensures.inhabited
