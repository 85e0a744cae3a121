use Rattle.std.proofs.Common.{◌+◌, ℕ, List, Option, refl, sym, ◌∙◌, subst, inr, rules}
use denote.Enum.Bare.{same_true}
use Rattle.file_answers.specs.contracts.mode.Mode.{the_type}
use Rattle.outside.specs.Contents.{Contents}
use Rattle.grep_run.specs.Requests.{request_of}
use Rattle.grep_run.specs.Visits.{AreBegun, IsBegun, IsVisited}
use Rattle.grep_run.proofs.FileLemmas.{on_err}
use Rattle.grep_run.proofs.VisitLemmas.{all_of, none_yet, one_begun, one_more}
use Rattle.grep_run.proofs.files.search_files.Goals as goal

pub loop-name-init : goal.loop-name-init
loop-name-init g c = record {
  so_far = none_yet (g.F.Files.held c.args.files.now) (request_of c.args.wish.now) c.args.names.now _ (g.K.Sink.written c.args.sink.now) (g.F.Files.faults c.args.files.now) c.args.steps.now refl refl;
  held = refl;
  calm = refl;
}

pub returns-in_err-outcome-clause-begun : goal.returns-in_err-outcome-clause-begun
returns-in_err-outcome-clause-begun g c =
    let told = g.F.Files.held c.args.files.now in
    let r = request_of c.args.wish.now in
    let mid = g.K.Sink.written c.loop-name.sink in
    let new = g.K.Sink.written c.search_one.new.sink in
    let begun = subst (λ (t : Option Contents). IsBegun t r c.name-item.result mid new) c.loop-name.invariant.held
    (subst (λ (n : List ℕ). IsBegun (g.F.Files.held c.loop-name.files) r n mid new) c.as_slice.ensures c.in_err-outcome.ensures.begun) in
    on_err c.from_residual.result (AreBegun told r c.args.names.now (g.K.Sink.written c.args.sink.now) new) (one_begun told r c.args.names.now c.loop-name.name-index c.name-item.result c.loop-name.summary (g.K.Sink.written c.args.sink.now) mid new
    (g.F.Files.faults c.args.files.now) (g.F.Files.faults c.loop-name.files) c.args.steps.now c.loop-name.steps c.loop-name.invariant.so_far begun c.loop-name-test.true (sym c.name-item.is))

pub returns-then-eq-clause-searched : goal.returns-then-eq-clause-searched
returns-then-eq-clause-searched g c =
    let told = g.F.Files.held c.args.files.now in
    let r = request_of c.args.wish.now in
    let old = g.K.Sink.written c.args.sink.now in
    let mid = g.K.Sink.written c.loop-name.sink in
    let new = g.K.Sink.written c.search_one.new.sink in
    let f = g.F.Files.faults c.loop-name.files in
    let f' = g.F.Files.faults c.search_one.new.files in
    let visited = subst (λ (t : Option Contents). IsVisited t r c.name-item.result c.in_ok-outcome.outcome mid new f f' c.loop-name.steps c.search_one.new.steps) c.loop-name.invariant.held
    (subst (λ (n : List ℕ). IsVisited (g.F.Files.held c.loop-name.files) r n c.in_ok-outcome.outcome mid new f f' c.loop-name.steps c.search_one.new.steps) c.as_slice.ensures c.in_ok-outcome.ensures.visited) in
    all_of told r c.args.names.now (c.loop-name.name-index + 1) c.after-summary.result old new (g.F.Files.faults c.args.files.now) f' c.args.steps.now c.search_one.new.steps
    (one_more told r c.args.names.now c.loop-name.name-index c.name-item.result c.loop-name.summary c.after-summary.result c.in_ok-outcome.outcome old mid new
    (g.F.Files.faults c.args.files.now) f f' c.args.steps.now c.loop-name.steps c.search_one.new.steps c.loop-name.invariant.so_far visited c.loop-name-test.true (sym c.name-item.is)
    c.after-summary.ensures.found c.after-summary.ensures.left_out)
    (inr (same_true the_type (search rules) _ _ (sym c.if-eq.ensures), c.if-summary.true))

pub loop-name-preserved : goal.loop-name-preserved
loop-name-preserved g c =
    let told = g.F.Files.held c.args.files.now in
    let r = request_of c.args.wish.now in
    let old = g.K.Sink.written c.args.sink.now in
    let mid = g.K.Sink.written c.loop-name.sink in
    let new = g.K.Sink.written c.search_one.new.sink in
    let f = g.F.Files.faults c.loop-name.files in
    let f' = g.F.Files.faults c.search_one.new.files in
    let visited = subst (λ (t : Option Contents). IsVisited t r c.name-item.result c.in_ok-outcome.outcome mid new f f' c.loop-name.steps c.search_one.new.steps) c.loop-name.invariant.held
    (subst (λ (n : List ℕ). IsVisited (g.F.Files.held c.loop-name.files) r n c.in_ok-outcome.outcome mid new f f' c.loop-name.steps c.search_one.new.steps) c.as_slice.ensures c.in_ok-outcome.ensures.visited) in
    record {
      so_far = one_more told r c.args.names.now c.loop-name.name-index c.name-item.result c.loop-name.summary c.after-summary.result c.in_ok-outcome.outcome old mid new
          (g.F.Files.faults c.args.files.now) f f' c.args.steps.now c.loop-name.steps c.search_one.new.steps c.loop-name.invariant.so_far visited c.loop-name-test.true (sym c.name-item.is)
          c.after-summary.ensures.found c.after-summary.ensures.left_out;
      held = c.in_ok-outcome.ensures.held ∙ c.loop-name.invariant.held;
      calm = c.in_ok-outcome.ensures.calm ∙ c.loop-name.invariant.calm;
    }
