use Rattle.std.proofs.Common.{◌<◌, List, length, subst}
use Rattle.std.proofs.lemmas.Result.{on_ok_weaker}
use Rattle.address_space.specs.Runs.{FileEntry}
use Rattle.file_runs.proofs.Parts.{more_inhabited, two_more}
use Rattle.file_runs.proofs.runs.put_two.Goals as goal

pub returns-clause-value : goal.returns-clause-value
returns-clause-value c =
    on_ok_weaker c.put_share.result (two_more c.args.into.now.items c.push.new.self.items c.put_share.new.into.items c.args.last c.args.run.now c.in_ok-push.ensures.items) c.put_share.ensures.value

pub returns-clause-inhabited : goal.returns-clause-inhabited
returns-clause-inhabited c =
    let some = subst (λ (l : List FileEntry). 0 < length l) c.last.view_is c.last.invariant in
    on_ok_weaker c.put_share.result (λ step were. step (more_inhabited c.args.into.now.items c.push.new.self.items c.args.last c.in_ok-push.ensures.items some were)) c.put_share.ensures.inhabited
