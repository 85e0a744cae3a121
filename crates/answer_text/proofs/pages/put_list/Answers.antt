use Rattle.std.proofs.Common.{refl, ◌≡◌, ℕ, List, [], ◌∷◌, ◌++◌, length, sym, ap, ◌∙◌, subst, append_assoc}
use Rattle.gcl_model.proofs.Cases.{on_err}
use Rattle.script_lang.specs.Answers.{total_line}
use Rattle.answer_text.specs.Puts.{GetsPart, members_text, Puts}
use Rattle.answer_text.proofs.PageLemmas.{list_text}
use Rattle.answer_text.proofs.PutLemmas.{held_more, part_of_put, part_on, puts_on}
use Rattle.answer_text.proofs.CauseLemmas.{cause_done, cause_memory, cause_passed, counts_memory, counts_passed}
use Rattle.answer_text.proofs.pages.put_list.Goals as goal

pub returns-in_err-count-clause-part : goal.returns-in_err-count-clause-part
returns-in_err-count-clause-part g c = on_err _ c.from_residual.result (subst (λ (l : List ℕ). GetsPart (g.K.Sink.written c.args.sink.now) (g.K.Sink.written c.put_all_members.new.sink) (c.args.out.now.items ++ l))
    (sym (list_text c.args.listing)) (part_on _ _ c.args.out.now.items (members_text c.args.listing) _ c.in_err-count.ensures.part))

pub returns-in_err-put_total-clause-part : goal.returns-in_err-put_total-clause-part
returns-in_err-put_total-clause-part g c = on_err _ c.from_residual-in_err-put_total.result (subst (λ (l : List ℕ). GetsPart (g.K.Sink.written c.args.sink.now) (g.K.Sink.written c.put_all_members.new.sink) (c.args.out.now.items ++ l))
    (sym (list_text c.args.listing)) (part_on _ _ c.args.out.now.items (members_text c.args.listing) _ (part_of_put _ _ _ _ _ c.in_ok-count.ensures.puts)))

pub returns-clause-puts : goal.returns-clause-puts
returns-clause-puts g c =
    let list = c.args.listing in
    let last = total_line (length list) ++ 10 ∷ [] in
    let new = g.K.Sink.written c.put_all_members.new.sink in
    let more : c.put_total.new.out.items ≡ c.put_all_members.new.out.items ++ last =
    c.in_ok-put_total.ensures.ok ∙ ap (λ (n : ℕ). c.put_all_members.new.out.items ++ total_line n ++ 10 ∷ []) c.in_ok-count.ensures.count ∙ append_assoc c.put_all_members.new.out.items (total_line (length list)) (10 ∷ []) in
    subst (Puts _ _ c.args.out.now.items c.put_total.new.out.items) (sym (list_text list))
    (puts_on (g.K.Sink.written c.args.sink.now) new new c.args.out.now.items c.put_all_members.new.out.items c.put_total.new.out.items (members_text list) last c.in_ok-count.ensures.puts
    (held_more new c.put_all_members.new.out.items c.put_total.new.out.items last more))

pub returns-in_err-count-clause-cause : goal.returns-in_err-count-clause-cause
returns-in_err-count-clause-cause g c = cause_passed c.from_residual.result c.in_err-count.field-0.0 (g.K.Sink.faults c.args.sink.now) (g.K.Sink.faults c.args.sink.now) (g.K.Sink.faults c.put_all_members.new.sink) refl c.from_residual.ensures.1 c.in_err-count.ensures.cause

pub returns-in_err-count-clause-counts : goal.returns-in_err-count-clause-counts
returns-in_err-count-clause-counts g c = counts_passed ℕ c.from_residual.result c.in_err-count.field-0.0 (g.K.Sink.faults c.args.sink.now) (g.K.Sink.faults c.args.sink.now) (g.K.Sink.faults c.put_all_members.new.sink) refl c.from_residual.ensures.1 c.in_err-count.ensures.counts

pub returns-in_err-put_total-clause-cause : goal.returns-in_err-put_total-clause-cause
returns-in_err-put_total-clause-cause g c = cause_memory c.from_residual-in_err-put_total.result (g.K.Sink.faults c.args.sink.now) (g.K.Sink.faults c.put_all_members.new.sink) c.in_ok-count.ensures.counts c.from_residual-in_err-put_total.ensures.1

pub returns-in_err-put_total-clause-counts : goal.returns-in_err-put_total-clause-counts
returns-in_err-put_total-clause-counts g c = counts_memory c.from_residual-in_err-put_total.result (g.K.Sink.faults c.args.sink.now) (g.K.Sink.faults c.put_all_members.new.sink) c.in_ok-count.ensures.counts c.from_residual-in_err-put_total.ensures.1

pub returns-clause-cause : goal.returns-clause-cause
returns-clause-cause g c = cause_done tt (g.K.Sink.faults c.args.sink.now) (g.K.Sink.faults c.put_all_members.new.sink) c.in_ok-count.ensures.counts

pub returns-clause-counts : goal.returns-clause-counts
returns-clause-counts g c = c.in_ok-count.ensures.counts
