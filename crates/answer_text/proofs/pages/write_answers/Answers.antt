use Rattle.std.proofs.Common.{Bool, ◌∙◌, refl, ◌≡◌, ◌+◌, ◌-◌, ◌++◌, List, ℕ, length, take, take_all, sym, subst, arith, rules}
use Rattle.std.specs.Io.KnownBytes.{Appends}
use Rattle.gcl_model.proofs.Cases.{on_err}
use Rattle.query_lanes.specs.declared.asks.Found.{Found}
use Rattle.answer_text.specs.Puts.{founds_text, GetsPart}
use Rattle.answer_text.proofs.PutLemmas.{all_written, part_written}
use Rattle.answer_text.proofs.CauseLemmas.{cause_done, cause_passed, counts_passed}
use Rattle.answer_text.proofs.pages.write_answers.Goals as goal

-- all answers were put
whole : (n m : ℕ) (founds : List Found) → m ≡ n + length founds → founds ≡ take (m - n + 1) founds
whole n m founds is = sym (take_all (m - n + 1) founds (omega (arith, is)))

pub returns-in_err-refused-clause-part : goal.returns-in_err-refused-clause-part
returns-in_err-refused-clause-part g c = on_err _ c.from_residual.result (subst (λ (l : List ℕ). GetsPart (g.K.Sink.written c.args.sink.now) (g.K.Sink.written c.put_answers.new.sink) (l ++ founds_text (take (c.put_answers.new.completed - c.args.completed.now + 1) c.args.answers.items)))
    c.clear.ensures.items c.in_err-refused.ensures.part)

pub returns-in_err-write_all-clause-part : goal.returns-in_err-write_all-clause-part
returns-in_err-write_all-clause-part g c =
    let last = g.K.Sink.written c.put_answers.new.sink in
    let new = g.K.Sink.written c.write_all.new.sink in
    let value : c.as_slice.result.now ≡ c.put_answers.new.out.items = search rules in
    on_err _ c.from_residual-in_err-write_all.result (subst (λ (l : List Found). GetsPart (g.K.Sink.written c.args.sink.now) new (founds_text l)) (whole c.args.completed.now c.put_answers.new.completed c.args.answers.items c.in_ok-refused.ensures.completed)
    (part_written _ last new c.clear.new.self.items c.put_answers.new.out.items (founds_text c.args.answers.items) c.clear.ensures.items c.in_ok-refused.ensures.puts
    (subst (λ (l : List ℕ). GetsPart last new l) value c.in_err-write_all.ensures.part)))

pub returns-clause-written : goal.returns-clause-written
returns-clause-written g c =
    let last = g.K.Sink.written c.put_answers.new.sink in
    let new = g.K.Sink.written c.write_all.new.sink in
    let value : c.as_slice.result.now ≡ c.put_answers.new.out.items = search rules in
    all_written (g.K.Sink.written c.args.sink.now) last new c.clear.new.self.items c.put_answers.new.out.items (founds_text c.args.answers.items) c.clear.ensures.items c.in_ok-refused.ensures.puts
    (subst (λ (l : List ℕ). Appends last new l) value c.in_ok-write_all.ensures.written)

pub returns-in_err-refused-clause-cause : goal.returns-in_err-refused-clause-cause
returns-in_err-refused-clause-cause g c = cause_passed c.from_residual.result c.in_err-refused.field-0.0 (g.K.Sink.faults c.args.sink.now) (g.K.Sink.faults c.args.sink.now) (g.K.Sink.faults c.put_answers.new.sink) refl c.from_residual.ensures.1 c.in_err-refused.ensures.cause

pub returns-in_err-refused-clause-counts : goal.returns-in_err-refused-clause-counts
returns-in_err-refused-clause-counts g c = counts_passed Bool c.from_residual.result c.in_err-refused.field-0.0 (g.K.Sink.faults c.args.sink.now) (g.K.Sink.faults c.args.sink.now) (g.K.Sink.faults c.put_answers.new.sink) refl c.from_residual.ensures.1 c.in_err-refused.ensures.counts

pub returns-in_err-write_all-clause-cause : goal.returns-in_err-write_all-clause-cause
returns-in_err-write_all-clause-cause g c = cause_passed c.from_residual-in_err-write_all.result c.in_err-write_all.field-0.0 (g.K.Sink.faults c.args.sink.now) (g.K.Sink.faults c.put_answers.new.sink) (g.K.Sink.faults c.write_all.new.sink) c.in_ok-refused.ensures.counts c.from_residual-in_err-write_all.ensures.1 c.in_err-write_all.ensures.cause

pub returns-in_err-write_all-clause-counts : goal.returns-in_err-write_all-clause-counts
returns-in_err-write_all-clause-counts g c = counts_passed Unit c.from_residual-in_err-write_all.result c.in_err-write_all.field-0.0 (g.K.Sink.faults c.args.sink.now) (g.K.Sink.faults c.put_answers.new.sink) (g.K.Sink.faults c.write_all.new.sink) c.in_ok-refused.ensures.counts c.from_residual-in_err-write_all.ensures.1 c.in_err-write_all.ensures.counts

pub returns-clause-cause : goal.returns-clause-cause
returns-clause-cause g c = cause_done c.in_ok-refused.refused (g.K.Sink.faults c.args.sink.now) (g.K.Sink.faults c.write_all.new.sink) (c.in_ok-write_all.ensures.counts ∙ c.in_ok-refused.ensures.counts)

pub returns-clause-counts : goal.returns-clause-counts
returns-clause-counts g c = (c.in_ok-write_all.ensures.counts ∙ c.in_ok-refused.ensures.counts)
