use Rattle.std.proofs.Common.{◌≡◌, ◌<◌, ◌++◌, ◌∷◌, [], length, sym, ap, ◌∙◌, subst, arith}
use Rattle.address_space.specs.Runs.{IsFileRun}
use Rattle.file_runs.proofs.RunLemmas.{run_left}
use Rattle.file_runs.proofs.Parts.{cut_off, whole_of}
use Rattle.file_runs.proofs.runs.runs_of.Goals as goal

pub run_of-requires-clause-run : goal.run_of-requires-clause-run
run_of-requires-clause-run c =
    run_left c.split_at.result.0.now c.split_at.result.1.now
    (subst IsFileRun (sym (whole_of c.loop-rest.rest.now c.split_at.result.0.now c.split_at.result.1.now c.cut.result c.split_at.ensures.front c.split_at.ensures.back)) c.loop-rest.invariant.run)

pub loop-rest-preserved : goal.loop-rest-preserved
loop-rest-preserved c =
    let front = c.split_at.result.0.now in
    let some : 0 < length front = omega (arith, c.cut.ensures.some, c.split_at.ensures.front_len) in
    let made : c.push.new.self.items ≡ c.loop-rest.runs.items ++ front ∷ [] = c.in_ok-push.ensures.items ∙ ap (λ run. c.loop-rest.runs.items ++ run ∷ []) c.in_ok-run_of.ensures in
    let parts =
    cut_off c.loop-rest.runs.items c.push.new.self.items c.loop-rest.rest.now front c.split_at.result.1.now c.args.files.now c.cut.result c.split_at.ensures.front c.split_at.ensures.back some made
    c.loop-rest.invariant.whole c.loop-rest.invariant.inhabited c.loop-rest.invariant.run in
    record { whole = parts.0; inhabited = parts.1; run = parts.2 }
