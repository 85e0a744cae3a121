use Rattle.std.proofs.Common.{◌≡◌, ◌∙◌, ℕ, false, List, Option, refl, sym, subst}
use Rattle.std.specs.List.{AllByRecursion}
use Rattle.outside.specs.Contents.{Contents}
use Rattle.grep_run.specs.Requests.{request_of}
use Rattle.grep_run.specs.Visits.{AreBegun, IsBegun, IsVisited}
use Rattle.grep_run.specs.declared.work.Work.{Work}
use Rattle.grep_run.specs.inner.Works.{AreReady}
use Rattle.grep_run.proofs.FileLemmas.{on_err}
use Rattle.grep_run.proofs.VisitLemmas.{begun_so_far, none_yet, one_begun, one_more}
use Rattle.grep_run.proofs.beside.search_beside.Goals as goal

pub returns-in_err-hands-clause-begun : goal.returns-in_err-hands-clause-begun
returns-in_err-hands-clause-begun g c =
    let told = g.F.Files.held c.args.files.now in
    let r = request_of c.args.wish.now in
    let w = g.K.Sink.written c.args.sink.now in
    on_err c.from_residual.result (AreBegun told r c.args.names.now w w)
    (begun_so_far told r c.args.names.now 0 _ w w 0 0 0 0 (none_yet told r c.args.names.now (record { found = false; left_out = false }) w 0 0 refl refl))

pub loop-name-init : goal.loop-name-init
loop-name-init g c =
    let told = g.F.Files.held c.args.files.now in
    let r = request_of c.args.wish.now in
    record {
      so_far = none_yet told r c.args.names.now _ (g.K.Sink.written c.args.sink.now) (g.F.Files.faults c.args.files.now) c.args.steps.now refl refl;
      hands = subst (λ hands. AllByRecursion (λ hand. g.F.Handle.Files.held hand.files ≡ told) hands) (sym c.as_mut_slice-hands.ensures.value) c.in_ok-hands.ensures;
      ready = subst (λ (ready : List (Option Work)). AreReady told r ready) (sym c.new-ahead.ensures) tt;
      held = refl;
      calm = refl;
    }

pub returns-in_err-work-clause-begun : goal.returns-in_err-work-clause-begun
returns-in_err-work-clause-begun g c =
    let told = g.F.Files.held c.args.files.now in
    let r = request_of c.args.wish.now in
    let mid = g.K.Sink.written c.loop-name.sink in
    on_err c.from_residual-in_err-work.result (AreBegun told r c.args.names.now (g.K.Sink.written c.args.sink.now) mid)
    (begun_so_far told r c.args.names.now c.loop-name.name-index c.loop-name.summary (g.K.Sink.written c.args.sink.now) mid
    (g.F.Files.faults c.args.files.now) (g.F.Files.faults c.loop-name.files) c.args.steps.now c.loop-name.steps c.loop-name.invariant.so_far)

pub returns-in_err-outcome-clause-begun : goal.returns-in_err-outcome-clause-begun
returns-in_err-outcome-clause-begun g c =
    let told = g.F.Files.held c.args.files.now in
    let r = request_of c.args.wish.now in
    let mid = g.K.Sink.written c.loop-name.sink in
    let new = g.K.Sink.written c.visit.new.sink in
    let begun = subst (λ (t : Option Contents). IsBegun t r c.name-item.result mid new) c.loop-name.invariant.held
    (subst (λ (n : List ℕ). IsBegun (g.F.Files.held c.loop-name.files) r n mid new) c.as_slice.ensures c.in_err-outcome.ensures.begun) in
    on_err c.from_residual-in_err-outcome.result (AreBegun told r c.args.names.now (g.K.Sink.written c.args.sink.now) new) (one_begun told r c.args.names.now c.loop-name.name-index c.name-item.result c.loop-name.summary (g.K.Sink.written c.args.sink.now) mid new
    (g.F.Files.faults c.args.files.now) (g.F.Files.faults c.loop-name.files) c.args.steps.now c.loop-name.steps c.loop-name.invariant.so_far begun c.loop-name-test.true (sym c.name-item.is))

pub loop-name-preserved : goal.loop-name-preserved
loop-name-preserved g c =
    let told = g.F.Files.held c.args.files.now in
    let now = g.F.Files.held c.loop-name.files in
    let r = request_of c.args.wish.now in
    let old = g.K.Sink.written c.args.sink.now in
    let mid = g.K.Sink.written c.loop-name.sink in
    let new = g.K.Sink.written c.visit.new.sink in
    let f = g.F.Files.faults c.loop-name.files in
    let f' = g.F.Files.faults c.visit.new.files in
    let visited = subst (λ (t : Option Contents). IsVisited t r c.name-item.result c.in_ok-outcome.outcome mid new f f' c.loop-name.steps c.visit.new.steps) c.loop-name.invariant.held
    (subst (λ (n : List ℕ). IsVisited (g.F.Files.held c.loop-name.files) r n c.in_ok-outcome.outcome mid new f f' c.loop-name.steps c.visit.new.steps) c.as_slice.ensures c.in_ok-outcome.ensures.visited) in
    let hands = c.in_ok-work.ensures.held now c.loop-name.invariant.hands in
    let ready = (c.in_ok-work.ensures.ready now c.loop-name.invariant.hands c.loop-name.invariant.ready).1 in
    record {
      so_far = one_more told r c.args.names.now c.loop-name.name-index c.name-item.result c.loop-name.summary c.after-summary.result c.in_ok-outcome.outcome old mid new
          (g.F.Files.faults c.args.files.now) f f' c.args.steps.now c.loop-name.steps c.visit.new.steps c.loop-name.invariant.so_far visited c.loop-name-test.true (sym c.name-item.is)
          c.after-summary.ensures.found c.after-summary.ensures.left_out;
      hands = subst (λ (t : Option Contents). AllByRecursion (λ hand. g.F.Handle.Files.held hand.files ≡ t) c.take.new.hands) (sym c.in_ok-outcome.ensures.held) hands;
      ready = subst (λ (t : Option Contents). AreReady t r c.take.new.ahead.ready.items) (sym c.in_ok-outcome.ensures.held) ready;
      held = c.in_ok-outcome.ensures.held ∙ c.loop-name.invariant.held;
      calm = c.in_ok-outcome.ensures.calm ∙ c.loop-name.invariant.calm;
    }
