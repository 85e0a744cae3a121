use Rattle.std.proofs.Common.{◌≡◌, ℕ, List, true, false, sym, ◌∙◌, subst}
use Rattle.std.proofs.lemmas.Bool.{cond-true, cond-false}
use Rattle.grep_run.specs.Requests.{has_answer, request_of}
use Rattle.grep_run.specs.Visits.{IsBegun, IsFate, searched}
use Rattle.grep_run.specs.declared.outcome.Outcome.TheVariants.{Found, NotFound}
use Rattle.grep_run.proofs.FileLemmas.{on_err}
use Rattle.grep_run.proofs.one_file.search_one.Goals as goal

pub returns-in_err-found-in-Ok-Whole-clause-begun : goal.returns-in_err-found-in-Ok-Whole-clause-begun
returns-in_err-found-in-Ok-Whole-clause-begun g c =
    let told = g.F.Files.held c.args.files.now in
    let name = c.args.name.now in
    let loaded = rw c.in-Ok-Whole.field-0-is at c.in-Ok-Whole.ensures.loaded in
    on_err c.from_residual.result (IsBegun told (request_of c.args.wish.now) name (g.K.Sink.written c.args.sink.now) (g.K.Sink.written c.search_bytes.new.sink)) (record {
      fate = searched c.as_slice.result.now;
      is = subst (λ (b : List ℕ). IsFate told name (searched b)) (sym c.as_slice.ensures.value) loaded;
      part = c.in_err-found-in-Ok-Whole.ensures.part;
    })

pub returns-then-found-clause-visited : goal.returns-then-found-clause-visited
returns-then-found-clause-visited g c =
    let told = g.F.Files.held c.args.files.now in
    let name = c.args.name.now in
    let bytes = c.as_slice.result.now in
    let loaded = rw c.in-Ok-Whole.field-0-is at c.in-Ok-Whole.ensures.loaded in
    let some : has_answer (request_of c.args.wish.now) bytes ≡ true = sym c.in_ok-found-in-Ok-Whole.ensures.some ∙ c.if-found.true in
    record {
      fate = searched bytes;
      is = subst (λ (b : List ℕ). IsFate told name (searched b)) (sym c.as_slice.ensures.value) loaded;
      outcome_is = sym (cond-true (has_answer (request_of c.args.wish.now) bytes) Found NotFound some);
      written = c.in_ok-found-in-Ok-Whole.ensures.written;
      failed_is = c.in-Ok-Whole.ensures.counts;
      looked = c.in_ok-found-in-Ok-Whole.ensures.cost;
    }

pub returns-else-found-clause-visited : goal.returns-else-found-clause-visited
returns-else-found-clause-visited g c =
    let told = g.F.Files.held c.args.files.now in
    let name = c.args.name.now in
    let bytes = c.as_slice.result.now in
    let loaded = rw c.in-Ok-Whole.field-0-is at c.in-Ok-Whole.ensures.loaded in
    let none : has_answer (request_of c.args.wish.now) bytes ≡ false = sym c.in_ok-found-in-Ok-Whole.ensures.some ∙ c.if-found.false in
    record {
      fate = searched bytes;
      is = subst (λ (b : List ℕ). IsFate told name (searched b)) (sym c.as_slice.ensures.value) loaded;
      outcome_is = sym (cond-false (has_answer (request_of c.args.wish.now) bytes) Found NotFound none);
      written = c.in_ok-found-in-Ok-Whole.ensures.written;
      failed_is = c.in-Ok-Whole.ensures.counts;
      looked = c.in_ok-found-in-Ok-Whole.ensures.cost;
    }
