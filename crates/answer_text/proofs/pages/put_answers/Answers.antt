use Rattle.std.proofs.Common.{Bool, ◌≡◌, ◌+◌, ◌-◌, ◌++◌, [], ◌∷◌, ℕ, List, take, sym, ap, ◌∙◌, subst, arith, rules, append-nil}
use Rattle.std.specs.Vec.Iter.{into_iter_items}
use Rattle.gcl_model.proofs.Cases.{on_err}
use Rattle.query_lanes.specs.declared.asks.Found.{Found}
use Rattle.script_lang.specs.Lines.{text_of_lines}
use Rattle.answer_text.specs.Puts.{founds_text, GetsPart, Puts}
use Rattle.answer_text.specs.Texts.{found_lines}
use Rattle.answer_text.proofs.PageLemmas.{founds_on, one_after, refused_on}
use Rattle.answer_text.proofs.PutLemmas.{held_more, more_first, part_first}
use Rattle.answer_text.proofs.CauseLemmas.{cause_done, cause_passed, counts_passed}
use Rattle.answer_text.proofs.pages.put_answers.Goals as goal

pub loop-found-init : goal.loop-found-init
loop-found-init g c = record {
  puts = record { so_far = []; whole = search rules; count_is = omega arith; puts = held_more (g.K.Sink.written c.args.sink.now) c.args.out.now.items c.args.out.now.items [] (sym (append-nil c.args.out.now.items)) };
  before = search rules;
  count = search rules;
  refusal = search rules;
  later = search rules;
  same = search rules;
}

pub returns-in_err-refused-clause-part : goal.returns-in_err-refused-clause-part
returns-in_err-refused-clause-part g c =
    let puts = c.loop-found.invariant.puts in
    let split : into_iter_items c.loop-found.found-iterator ≡ c.in-Some.found ∷ into_iter_items c.next.new.self = search rules in
    let one : text_of_lines (found_lines c.in-Some.found) ≡ founds_text (c.in-Some.found ∷ []) = ap text_of_lines (sym (append-nil (found_lines c.in-Some.found))) in
    let first : take (c.loop-found.completed - c.args.completed.now + 1) c.args.answers.items ≡ puts.so_far ++ c.in-Some.found ∷ [] =
    one_after c.args.answers.items puts.so_far (into_iter_items c.next.new.self) c.in-Some.found (c.loop-found.completed - c.args.completed.now) (puts.whole ∙ ap (λ l. puts.so_far ++ l) split) puts.count_is in
    on_err _ c.from_residual.result (subst (λ (l : List Found). GetsPart (g.K.Sink.written c.args.sink.now) (g.K.Sink.written c.put_found.new.sink) (c.args.out.now.items ++ founds_text l)) (sym first)
    (part_first founds_text founds_on _ _ _ c.args.out.now.items c.loop-found.out.items c.args.answers.items _ (c.in-Some.found ∷ []) _ puts
    (subst (λ (l : List ℕ). GetsPart (g.K.Sink.written c.loop-found.sink) (g.K.Sink.written c.put_found.new.sink) (c.loop-found.out.items ++ l)) one c.in_err-refused.ensures.part)))

pub loop-found-preserved : goal.loop-found-preserved
loop-found-preserved g c =
    let split : into_iter_items c.loop-found.found-iterator ≡ c.in-Some.found ∷ into_iter_items c.next.new.self = search rules in
    let one : text_of_lines (found_lines c.in-Some.found) ≡ founds_text (c.in-Some.found ∷ []) = ap text_of_lines (sym (append-nil (found_lines c.in-Some.found))) in
    record {
      puts = more_first founds_text founds_on _ _ _ c.args.out.now.items c.loop-found.out.items c.put_found.new.out.items c.args.answers.items _ (c.in-Some.found ∷ []) _ _ (c.loop-found.completed + 1 - c.args.completed.now) split
          (omega (arith, c.loop-found.invariant.before)) c.loop-found.invariant.puts (subst (λ (l : List ℕ). Puts (g.K.Sink.written c.loop-found.sink) (g.K.Sink.written c.put_found.new.sink) c.loop-found.out.items c.put_found.new.out.items l) one c.in_ok-refused.ensures.puts);
      before = search rules;
      count = search rules;
      refusal = refused_on c.loop-found.refused c.in_ok-refused.field-0 _ _ _ c.in-Some.found split c.in_ok-refused.ensures.refusal c.loop-found.invariant.refusal;
      later = search rules;
      same = search rules;
    }

pub returns-in_err-refused-clause-cause : goal.returns-in_err-refused-clause-cause
returns-in_err-refused-clause-cause g c = cause_passed c.from_residual.result c.in_err-refused.field-0.0 (g.K.Sink.faults c.args.sink.now) (g.K.Sink.faults c.loop-found.sink) (g.K.Sink.faults c.put_found.new.sink) c.loop-found.invariant.same c.from_residual.ensures.1 c.in_err-refused.ensures.cause

pub returns-in_err-refused-clause-counts : goal.returns-in_err-refused-clause-counts
returns-in_err-refused-clause-counts g c = counts_passed Bool c.from_residual.result c.in_err-refused.field-0.0 (g.K.Sink.faults c.args.sink.now) (g.K.Sink.faults c.loop-found.sink) (g.K.Sink.faults c.put_found.new.sink) c.loop-found.invariant.same c.from_residual.ensures.1 c.in_err-refused.ensures.counts

pub returns-clause-cause : goal.returns-clause-cause
returns-clause-cause g c = cause_done c.loop-found.refused (g.K.Sink.faults c.args.sink.now) (g.K.Sink.faults c.loop-found.sink) c.loop-found.invariant.same

pub returns-clause-counts : goal.returns-clause-counts
returns-clause-counts g c = c.loop-found.invariant.same
