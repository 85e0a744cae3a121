use Rattle.std.proofs.Common.{◌≡◌, ◌+◌, ◌-◌, ◌∷◌, [], Option, length, ap, refl, sym, ◌∙◌, subst, append-nil, arith, rules}
use Rattle.std.specs.Prelude.{IfSome}
use Rattle.gcl_model.proofs.Cases.{on_err}
use Rattle.standing_query.specs.declared.change.Change.{Change}
use Rattle.answer_text.specs.Watching.{told_text}
use Rattle.answer_text.proofs.PutLemmas.{all_put, held_more, more_first, part_all, part_so_far}
use Rattle.answer_text.proofs.ToldLemmas.{told_on}
use Rattle.answer_text.proofs.CauseLemmas.{cause_done, cause_memory, cause_passed, counts_memory, counts_passed}
use Rattle.answer_text.proofs.telling.put_listing.Goals as goal

pub loop-change-init : goal.loop-change-init
loop-change-init g c =
    let none : length c.args.listing.now - length c.args.listing.now ≡ 0 = omega arith in
    record {
      puts = record { so_far = []; whole = refl; count_is = none; puts = held_more (g.K.Sink.written c.args.sink.now) c.args.out.now.items c.args.out.now.items [] (sym (append-nil c.args.out.now.items)) };
      few = omega arith;
      later = omega arith;
      same = refl;
    }

pub returns-in_err-change-clause-part : goal.returns-in_err-change-clause-part
returns-in_err-change-clause-part g c = on_err _ c.from_residual.result
    (part_so_far (told_text c.args.number) (told_on c.args.number) _ _ c.args.out.now.items c.loop-change.out.items c.args.listing.now c.loop-change.listing _ c.loop-change.invariant.puts)

pub returns-in_err-put_step-clause-part : goal.returns-in_err-put_step-clause-part
returns-in_err-put_step-clause-part g c =
    let here = subst (λ (o : Option Change). IfSome o (λ change. c.loop-change.listing ≡ change ∷ c.next.new.self)) c.in-Some.is c.in_ok-change.ensures.some in
    on_err _ c.from_residual-in_err-put_step.result (part_all (told_text c.args.number) (told_on c.args.number) _ _ _ c.args.out.now.items c.loop-change.out.items c.args.listing.now c.loop-change.listing (c.in-Some.change ∷ []) c.next.new.self _ here
    c.loop-change.invariant.puts c.in_err-put_step.ensures.part)

pub loop-change-preserved : goal.loop-change-preserved
loop-change-preserved g c =
    let here = subst (λ (o : Option Change). IfSome o (λ change. c.loop-change.listing ≡ change ∷ c.next.new.self)) c.in-Some.is c.in_ok-change.ensures.some in
    let one : length c.loop-change.listing ≡ length c.next.new.self + 1 = ap length here ∙ omega arith in
    let few = c.loop-change.invariant.few in
    record {
      puts = more_first (told_text c.args.number) (told_on c.args.number) _ _ _ c.args.out.now.items c.loop-change.out.items c.put_step.new.out.items c.args.listing.now c.loop-change.listing (c.in-Some.change ∷ []) c.next.new.self _ _ here
          (omega (arith, one, few)) c.loop-change.invariant.puts c.in_ok-put_step.ensures.puts;
      few = omega (arith, one, few);
      later = search rules;
      same = search rules;
    }

pub returns-clause-puts : goal.returns-clause-puts
returns-clause-puts g c =
    (all_put (told_text c.args.number) (told_on c.args.number) _ _ c.args.out.now.items c.loop-change.out.items c.args.listing.now c.loop-change.listing _ (search rules) c.loop-change.invariant.puts).0

pub returns-in_err-change-clause-cause : goal.returns-in_err-change-clause-cause
returns-in_err-change-clause-cause g c = cause_memory c.from_residual.result (g.K.Sink.faults c.args.sink.now) (g.K.Sink.faults c.loop-change.sink) c.loop-change.invariant.same c.from_residual.ensures.1

pub returns-in_err-change-clause-counts : goal.returns-in_err-change-clause-counts
returns-in_err-change-clause-counts g c = counts_memory c.from_residual.result (g.K.Sink.faults c.args.sink.now) (g.K.Sink.faults c.loop-change.sink) c.loop-change.invariant.same c.from_residual.ensures.1

pub returns-in_err-put_step-clause-cause : goal.returns-in_err-put_step-clause-cause
returns-in_err-put_step-clause-cause g c = cause_passed c.from_residual-in_err-put_step.result c.in_err-put_step.field-0.0 (g.K.Sink.faults c.args.sink.now) (g.K.Sink.faults c.loop-change.sink) (g.K.Sink.faults c.put_step.new.sink) c.loop-change.invariant.same c.from_residual-in_err-put_step.ensures.1 c.in_err-put_step.ensures.cause

pub returns-in_err-put_step-clause-counts : goal.returns-in_err-put_step-clause-counts
returns-in_err-put_step-clause-counts g c = counts_passed Unit c.from_residual-in_err-put_step.result c.in_err-put_step.field-0.0 (g.K.Sink.faults c.args.sink.now) (g.K.Sink.faults c.loop-change.sink) (g.K.Sink.faults c.put_step.new.sink) c.loop-change.invariant.same c.from_residual-in_err-put_step.ensures.1 c.in_err-put_step.ensures.counts

pub returns-clause-cause : goal.returns-clause-cause
returns-clause-cause g c = cause_done tt (g.K.Sink.faults c.args.sink.now) (g.K.Sink.faults c.loop-change.sink) c.loop-change.invariant.same

pub returns-clause-counts : goal.returns-clause-counts
returns-clause-counts g c = c.loop-change.invariant.same
