use Rattle.std.proofs.Common.{refl, ◌++◌, sym, ap, ◌∙◌, subst, rules}
use Rattle.std.specs.List.{list_any}
use Rattle.gcl_model.proofs.Cases.{on_err}
use Rattle.query_lanes.specs.declared.asks.Found.{Found}
use Rattle.script_lang.specs.Answers.{is_refusal, refusal_line, total_line}
use Rattle.script_lang.specs.Lines.{text_of_lines}
use Rattle.script_lang.specs.declared.refusals.Refusal.TheVariants.{Query}
use Rattle.answer_text.specs.Puts.{GetsPart, Puts}
use Rattle.answer_text.specs.Texts.{found_lines}
use Rattle.answer_text.proofs.PutLemmas.{held_more, part_none}
use Rattle.answer_text.proofs.LineLemmas.{list_plain, one_line}
use Rattle.answer_text.proofs.CauseLemmas.{cause_done, cause_memory, cause_passed, counts_memory, counts_passed}
use Rattle.answer_text.proofs.pages.put_found.Goals as goal

pub returns-in_err-put_list-in-List-clause-part : goal.returns-in_err-put_list-in-List-clause-part
returns-in_err-put_list-in-List-clause-part g c = on_err _ c.from_residual.result (subst (λ (f : Found). GetsPart (g.K.Sink.written c.args.sink.now) (g.K.Sink.written c.put_list.new.sink) (c.args.out.now.items ++ text_of_lines (found_lines f)))
    (sym c.in-List.is) c.in_err-put_list-in-List.ensures.part)

pub returns-in_ok-put_list-in-List-clause-puts : goal.returns-in_ok-put_list-in-List-clause-puts
returns-in_ok-put_list-in-List-clause-puts g c = subst (λ (f : Found). Puts (g.K.Sink.written c.args.sink.now) (g.K.Sink.written c.put_list.new.sink) c.args.out.now.items c.put_list.new.out.items (text_of_lines (found_lines f)))
    (sym c.in-List.is) c.in_ok-put_list-in-List.ensures.puts

pub returns-in_ok-put_list-in-List-clause-refusal : goal.returns-in_ok-put_list-in-List-clause-refusal
returns-in_ok-put_list-in-List-clause-refusal g c = sym (ap (λ f. list_any is_refusal (found_lines f)) c.in-List.is ∙ list_plain c.in-List.listing)

pub returns-in_err-put_total-in-Total-clause-part : goal.returns-in_err-put_total-in-Total-clause-part
returns-in_err-put_total-in-Total-clause-part g c = on_err _ c.from_residual-in_err-put_total-in-Total.result (part_none (g.K.Sink.written c.args.sink.now) _)

pub returns-in_ok-put_total-in-Total-clause-puts : goal.returns-in_ok-put_total-in-Total-clause-puts
returns-in_ok-put_total-in-Total-clause-puts g c = held_more (g.K.Sink.written c.args.sink.now) c.args.out.now.items c.put_total.new.out.items (text_of_lines (found_lines c.args.found))
    (one_line (total_line c.in-Total.total) c.args.out.now.items c.put_total.new.out.items (search rules) ∙ ap (λ f. c.args.out.now.items ++ text_of_lines (found_lines f)) (sym c.in-Total.is))

pub returns-in_err-put_refusal-in-Refused-clause-part : goal.returns-in_err-put_refusal-in-Refused-clause-part
returns-in_err-put_refusal-in-Refused-clause-part g c = on_err _ c.from_residual-in_err-put_refusal-in-Refused.result (part_none (g.K.Sink.written c.args.sink.now) _)

pub returns-in_ok-put_refusal-in-Refused-clause-puts : goal.returns-in_ok-put_refusal-in-Refused-clause-puts
returns-in_ok-put_refusal-in-Refused-clause-puts g c = held_more (g.K.Sink.written c.args.sink.now) c.args.out.now.items c.put_refusal.new.out.items (text_of_lines (found_lines c.args.found))
    (one_line (refusal_line (Query c.in-Refused.fault)) c.args.out.now.items c.put_refusal.new.out.items (search rules) ∙ ap (λ f. c.args.out.now.items ++ text_of_lines (found_lines f)) (sym c.in-Refused.is))

pub returns-in_err-put_list-in-List-clause-cause : goal.returns-in_err-put_list-in-List-clause-cause
returns-in_err-put_list-in-List-clause-cause g c = cause_passed c.from_residual.result c.in_err-put_list-in-List.field-0.0 (g.K.Sink.faults c.args.sink.now) (g.K.Sink.faults c.args.sink.now) (g.K.Sink.faults c.put_list.new.sink) refl c.from_residual.ensures.1 c.in_err-put_list-in-List.ensures.cause

pub returns-in_err-put_list-in-List-clause-counts : goal.returns-in_err-put_list-in-List-clause-counts
returns-in_err-put_list-in-List-clause-counts g c = counts_passed Unit c.from_residual.result c.in_err-put_list-in-List.field-0.0 (g.K.Sink.faults c.args.sink.now) (g.K.Sink.faults c.args.sink.now) (g.K.Sink.faults c.put_list.new.sink) refl c.from_residual.ensures.1 c.in_err-put_list-in-List.ensures.counts

pub returns-in_ok-put_list-in-List-clause-cause : goal.returns-in_ok-put_list-in-List-clause-cause
returns-in_ok-put_list-in-List-clause-cause g c = cause_done _ (g.K.Sink.faults c.args.sink.now) (g.K.Sink.faults c.put_list.new.sink) c.in_ok-put_list-in-List.ensures.counts

pub returns-in_ok-put_list-in-List-clause-counts : goal.returns-in_ok-put_list-in-List-clause-counts
returns-in_ok-put_list-in-List-clause-counts g c = c.in_ok-put_list-in-List.ensures.counts

pub returns-in_err-put_total-in-Total-clause-cause : goal.returns-in_err-put_total-in-Total-clause-cause
returns-in_err-put_total-in-Total-clause-cause g c = cause_memory c.from_residual-in_err-put_total-in-Total.result (g.K.Sink.faults c.args.sink.now) (g.K.Sink.faults c.args.sink.now) refl c.from_residual-in_err-put_total-in-Total.ensures.1

pub returns-in_err-put_total-in-Total-clause-counts : goal.returns-in_err-put_total-in-Total-clause-counts
returns-in_err-put_total-in-Total-clause-counts g c = counts_memory c.from_residual-in_err-put_total-in-Total.result (g.K.Sink.faults c.args.sink.now) (g.K.Sink.faults c.args.sink.now) refl c.from_residual-in_err-put_total-in-Total.ensures.1

pub returns-in_ok-put_total-in-Total-clause-cause : goal.returns-in_ok-put_total-in-Total-clause-cause
returns-in_ok-put_total-in-Total-clause-cause g c = cause_done _ (g.K.Sink.faults c.args.sink.now) (g.K.Sink.faults c.args.sink.now) refl

pub returns-in_ok-put_total-in-Total-clause-counts : goal.returns-in_ok-put_total-in-Total-clause-counts
returns-in_ok-put_total-in-Total-clause-counts g c = refl

pub returns-in_err-put_refusal-in-Refused-clause-cause : goal.returns-in_err-put_refusal-in-Refused-clause-cause
returns-in_err-put_refusal-in-Refused-clause-cause g c = cause_memory c.from_residual-in_err-put_refusal-in-Refused.result (g.K.Sink.faults c.args.sink.now) (g.K.Sink.faults c.args.sink.now) refl c.from_residual-in_err-put_refusal-in-Refused.ensures.1

pub returns-in_err-put_refusal-in-Refused-clause-counts : goal.returns-in_err-put_refusal-in-Refused-clause-counts
returns-in_err-put_refusal-in-Refused-clause-counts g c = counts_memory c.from_residual-in_err-put_refusal-in-Refused.result (g.K.Sink.faults c.args.sink.now) (g.K.Sink.faults c.args.sink.now) refl c.from_residual-in_err-put_refusal-in-Refused.ensures.1

pub returns-in_ok-put_refusal-in-Refused-clause-cause : goal.returns-in_ok-put_refusal-in-Refused-clause-cause
returns-in_ok-put_refusal-in-Refused-clause-cause g c = cause_done _ (g.K.Sink.faults c.args.sink.now) (g.K.Sink.faults c.args.sink.now) refl

pub returns-in_ok-put_refusal-in-Refused-clause-counts : goal.returns-in_ok-put_refusal-in-Refused-clause-counts
returns-in_ok-put_refusal-in-Refused-clause-counts g c = refl
