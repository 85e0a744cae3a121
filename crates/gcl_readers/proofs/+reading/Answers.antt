use Rattle.std.proofs.Common.{◌≡◌, ◌+◌, ◌-◌, ◌*◌, ◌<◌, ◌≤◌, ◌++◌, [], ◌∷◌, length, take, drop, Some, None, IfSome, refl, ap, sym, ◌∙◌, subst, arith, le_refl}
use Rattle.std.proofs.lemmas.List.{nil_from_length}
use Rattle.std.proofs.lemmas.Option.{IfSome_then}
use Rattle.gcl_model.specs.Extents.{Extent}
use Rattle.gcl_model.specs.Forms.{width, both, one, seq, forms_count}
use Rattle.gcl_model.specs.FormOf.{form_of}
use Rattle.gcl_model.specs.Meaning.{concordance}
use Rattle.gcl_model.specs.WellFormed.{AreWellFormed, IsWellFormed}
use Rattle.gcl_model.specs.Access.{first_start, first_end, last_end}
use Rattle.gcl_model.specs.declared.direction.Direction.TheVariants.{Forward}
use Rattle.gcl_model.proofs.Covers.{Has}
use Rattle.gcl_model.proofs.Meanings.{concordance_rises}
use Rattle.gcl_combine.specs.Better.{best_forward}
use Rattle.gcl_combine.specs.Farthest.{end_so_far, start_so_far}
use Rattle.gcl_combine.proofs.OneOf.{first_start-one}
use Rattle.gcl_order.specs.Walks.{joined}
use Rattle.gcl_contain.specs.Kinds.{first_from}
use Rattle.gcl_eval.specs.Containments.{loop_of}
use Rattle.gcl_eval.specs.Operands.{operand_forms, operand_lists, AreOperands}
use Rattle.gcl_eval.specs.Elements.{IsOnTheWay}
use Rattle.gcl_eval.specs.Members.{members_from}
use Rattle.gcl_eval.proofs.ChainRules.{back_is_as_far}
use Rattle.gcl_eval.proofs.ContainForms.{both_operands, contain_kept}
use Rattle.gcl_eval.proofs.ContainLoops.{accepts, finishes, ends, goes_on, more_turns, turns_le}
use Rattle.gcl_eval.proofs.OperandLemmas.{form-Both, form-One, form-Seq}
use Rattle.gcl_readers.specs.declared.front.Front.TheVariants.{On}
use Rattle.gcl_readers.specs.Fronts.{IsFrontOf, IsTold, IsUnknown, asked_of, start_left, start_or_end, member_of, front_at}
use Rattle.gcl_readers.specs.Agreement.{AllAnswerFrom, AllAnswerOrEnd, AllAnswerInOrder, HaveMoved, HaveMovedBack, all_left}
use Rattle.gcl_readers.specs.Standing.{nodes, Stands, StandBelow, Tell, TellsFrom, front_of, with_front, start_at, starts_at, left_to}
use Rattle.gcl_readers.specs.MergeCost.{find_cost, member_cost, cost_below, costs_left, cost_left}
use Rattle.gcl_readers.proofs.CostLemmas.{told_cost, look_cost, contain_costs, chain_cost, chain_cost_more, chain_cost_spare, chain_cost_tail, chain_cost_back, le-add, more_left, find_by, without}
use Rattle.gcl_readers.proofs.Members.{agrees_at, first_member, first_itself, last_of_left}
use Rattle.gcl_readers.proofs.Answers.{moved_answers}
use Rattle.gcl_readers.proofs.Standings.{some_place, restand, restand_below, restand_told, within_text, proper_text, bounded_text, within_left, within_first, within_first_end, within_last, front_with, front_found, start_front, member_front, member_is, moved_on}
use Rattle.gcl_readers.proofs.BothLemmas.{both_none, both_some, both_tell}
use Rattle.gcl_readers.proofs.SeqLemmas.{seq_none, seq_alone, seq_no_tail, seq_joined, tail_after, back_finds, joins_in_order, in_order_alone, in_order_more, no_others, some_others}
use Rattle.gcl_readers.proofs.OnwardLemmas.{element_tells, front_onward, goes_on_way, goes_to_next, paid, seq_tell, tell_onward, way_cost}
use Rattle.gcl_readers.proofs.EndLemmas.{first_left, first_found, ends_from_first, ends_none, ends_here, backs_from_first, backs_none, backs_before, backs_onward, backs_here, later_found, later_none}
use Rattle.gcl_readers.proofs.TellLemmas.{tells_from, unknown_from}
use Rattle.gcl_readers.proofs.ContainRules.{second_asked, second_moved, node_begins, node_begins_none, go_agrees, go_later, contain_split, contain_joined, contain_tell}
use Rattle.gcl_readers.proofs.OperandRules.{others_stand, stands_joined, joined_length, operand_at, answers_joined, first_answers, in_order_joined, first_in_order}
use Rattle.gcl_readers.proofs.Exits.{none_if, both_asks_none, contain_none}
use Rattle.gcl_readers.proofs.FormRules.{form-Width, form-Term, width_left, term_ends, one_tell}
use Rattle.gcl_readers.proofs.+reading.Goals as goal
use Rattle.gcl_readers.proofs.+reading.Goals.{reading::node_back-in-Some+then-k-next, reading::node_back-in_default}

pub chains::both_ends-start-requires : goal.chains::both_ends-start-requires
chains::both_ends-start-requires g t c =
    let here = operand_at (g.C.CountedLeaves.text c.args.source.now) c.args.operands.now c.in-Some.others.now c.in-Some.operand.now c.in-Some.ensures.cases.0 c.args.places.now c.split_at_mut-mine.result.0.now c.split_at_mut-mine.result.1.now c.size_of-size.result c.requires.well_formed c.requires.stands c.size_of-size.ensures c.split_at_mut-mine.ensures.front c.split_at_mut-mine.ensures.back in
    let fewer = here.fewer in
    let some = here.some in
    λ κs l. (omega arith, (l.0, (l.1, (here.well_formed, (c.requires.below, (c.requires.sound, here.stands))))))

pub chains::both_find-returns-in_err-end-clause-answer : goal.chains::both_find-returns-in_err-end-clause-answer
chains::both_find-returns-in_err-end-clause-answer g t c =
    let some : 1 ≤ forms_count (operand_forms c.args.operands.now) = omega (arith, c.requires.operands.several) in
    c.from_residual.ensures ∙ both_none (g.C.CountedLeaves.text c.args.source.now) (operand_forms c.args.operands.now) some (starts_at (operand_forms c.args.operands.now) c.args.places.now) c.args.k c.requires.tells c.in_err-end.ensures.answer

pub chains::both_find-returns-in_err-start-clause-answer : goal.chains::both_find-returns-in_err-start-clause-answer
chains::both_find-returns-in_err-start-clause-answer g t c =
    let some : 1 ≤ forms_count (operand_forms c.args.operands.now) = omega (arith, c.requires.operands.several) in
    c.from_residual-in_err-start.ensures ∙ both_some (g.C.CountedLeaves.text c.args.source.now) (operand_forms c.args.operands.now) some (starts_at (operand_forms c.args.operands.now) c.args.places.now) c.args.k c.requires.tells c.in_ok-end.end c.in_ok-end.ensures.answer (starts_at (operand_forms c.args.operands.now) c.both_ends.new.places) c.in_ok-end.ensures.moved None c.in_err-start.ensures.answer

pub chains::both_find-new-requires : goal.chains::both_find-new-requires
chains::both_find-new-requires g t c =
    back_is_as_far Forward (all_left (operand_lists (g.C.CountedLeaves.text c.args.source.now) c.args.operands.now) (starts_at (operand_forms c.args.operands.now) c.both_ends.new.places)) c.in_ok-end.end c.in_ok-start.start c.in_ok-start.ensures.answer

pub chains::both_find-returns-clause-answer : goal.chains::both_find-returns-clause-answer
chains::both_find-returns-clause-answer g t c =
    let some : 1 ≤ forms_count (operand_forms c.args.operands.now) = omega (arith, c.requires.operands.several) in
    ap Some c.new.ensures ∙ both_some (g.C.CountedLeaves.text c.args.source.now) (operand_forms c.args.operands.now) some (starts_at (operand_forms c.args.operands.now) c.args.places.now) c.args.k c.requires.tells c.in_ok-end.end c.in_ok-end.ensures.answer (starts_at (operand_forms c.args.operands.now) c.both_ends.new.places) c.in_ok-end.ensures.moved (Some c.in_ok-start.start) c.in_ok-start.ensures.answer

pub chains::both_find-returns-clause-tells : goal.chains::both_find-returns-clause-tells
chains::both_find-returns-clause-tells g t c =
    let some : 1 ≤ forms_count (operand_forms c.args.operands.now) = omega (arith, c.requires.operands.several) in
    subst (λ n. AllAnswerOrEnd (operand_lists (g.C.CountedLeaves.text c.args.source.now) c.args.operands.now) (starts_at (operand_forms c.args.operands.now) c.both_starts.new.places) (c.new.result.start + 1) (n + 1)) (sym (ap (λ (x : Extent). x.end) c.new.ensures))
    (both_tell (g.C.CountedLeaves.text c.args.source.now) (operand_forms c.args.operands.now) some (starts_at (operand_forms c.args.operands.now) c.args.places.now) c.args.k c.requires.tells c.in_ok-end.end c.in_ok-end.ensures.answer (starts_at (operand_forms c.args.operands.now) c.both_ends.new.places) c.in_ok-end.ensures.moved (starts_at (operand_forms c.args.operands.now) c.both_starts.new.places) c.in_ok-start.ensures.moved (c.new.result.start + 1))

pub chains::both_starts-back-requires : goal.chains::both_starts-back-requires
chains::both_starts-back-requires g t c =
    let here = operand_at (g.C.CountedLeaves.text c.args.source.now) c.args.operands.now c.in-Some.others.now c.in-Some.operand.now c.in-Some.ensures.cases.0 c.args.places.now c.split_at_mut-mine.result.0.now c.split_at_mut-mine.result.1.now c.size_of-size.result c.requires.well_formed c.requires.stands c.size_of-size.ensures c.split_at_mut-mine.ensures.front c.split_at_mut-mine.ensures.back in
    let fewer = here.fewer in
    let some = here.some in
    λ κs l. (omega arith, (l.0, (l.1, (here.well_formed, (c.requires.below, (c.requires.sound, here.stands))))))

pub chains::one_find-start-answer-requires : goal.chains::one_find-start-answer-requires
chains::one_find-start-answer-requires g t c =
    let here = operand_at (g.C.CountedLeaves.text c.args.source.now) c.args.operands.now c.in-Some.others.now c.in-Some.operand.now c.in-Some.ensures.cases.0 c.args.places.now c.split_at_mut-mine.result.0.now c.split_at_mut-mine.result.1.now c.size_of-size.result c.requires.well_formed c.requires.stands c.size_of-size.ensures c.split_at_mut-mine.ensures.front c.split_at_mut-mine.ensures.back in
    let fewer = here.fewer in
    let some = here.some in
    λ κs l. (omega arith, (l.0, (l.1, (here.well_formed, (c.requires.below, (c.requires.sound, here.stands))))))

pub chains::one_find-returns-clause-tells : goal.chains::one_find-returns-clause-tells
chains::one_find-returns-clause-tells g t c =
    let here = operand_at (g.C.CountedLeaves.text c.args.source.now) c.args.operands.now c.in-Some.others.now c.in-Some.operand.now c.in-Some.ensures.cases.0 c.args.places.now c.split_at_mut-mine.result.0.now c.split_at_mut-mine.result.1.now c.size_of-size.result c.requires.well_formed c.requires.stands c.size_of-size.ensures c.split_at_mut-mine.ensures.front c.split_at_mut-mine.ensures.back in
    let list = concordance (g.C.CountedLeaves.text c.args.source.now) (form_of c.in-Some.operand.now) in
    let answers = moved_answers list (concordance_rises (g.C.CountedLeaves.text c.args.source.now) (form_of c.in-Some.operand.now)) (start_at c.split_at_mut-mine.result.0.now) (start_at c.start-answer.new.places) c.args.k
    (first_answers (g.C.CountedLeaves.text c.args.source.now) c.args.operands.now c.in-Some.others.now c.in-Some.operand.now c.in-Some.ensures.cases.0 c.args.places.now c.split_at_mut-mine.result.0.now c.split_at_mut-mine.result.1.now c.args.k here.starts c.requires.tells)
    c.start-answer.result (sym c.start-answer.ensures.answer) c.start-answer.ensures.moved in
    answers_joined (g.C.CountedLeaves.text c.args.source.now) c.args.operands.now c.in-Some.others.now c.in-Some.operand.now c.in-Some.ensures.cases.0 c.start-answer.new.places c.one_find.new.places c.args.k c.start-answer.ensures.stands answers c.one_find.ensures.tells

pub chains::seq_find-start-requires : goal.chains::seq_find-start-requires
chains::seq_find-start-requires g t c =
    let here = operand_at (g.C.CountedLeaves.text c.args.source.now) c.args.operands.now c.in_ok-operand.others.now c.in_ok-operand.operand.now c.in_ok-operand.ensures.cases.0 c.args.places.now c.split_at_mut-mine.result.0.now c.split_at_mut-mine.result.1.now c.size_of-size.result c.requires.well_formed c.requires.stands c.size_of-size.ensures c.split_at_mut-mine.ensures.front c.split_at_mut-mine.ensures.back in
    let fewer = here.fewer in
    let some = here.some in
    λ κs l. (omega arith, (l.0, (l.1, (here.well_formed, (c.requires.below, (c.requires.sound, here.stands))))))

pub chains::seq_find-returns-in_err-first-clause-answer : goal.chains::seq_find-returns-in_err-first-clause-answer
chains::seq_find-returns-in_err-first-clause-answer g t c =
    let here = operand_at (g.C.CountedLeaves.text c.args.source.now) c.args.operands.now c.in_ok-operand.others.now c.in_ok-operand.operand.now c.in_ok-operand.ensures.cases.0 c.args.places.now c.split_at_mut-mine.result.0.now c.split_at_mut-mine.result.1.now c.size_of-size.result c.requires.well_formed c.requires.stands c.size_of-size.ensures c.split_at_mut-mine.ensures.front c.split_at_mut-mine.ensures.back in
    let tells = first_in_order (g.C.CountedLeaves.text c.args.source.now) c.args.operands.now c.in_ok-operand.others.now c.in_ok-operand.operand.now c.in_ok-operand.ensures.cases.0 c.args.places.now c.split_at_mut-mine.result.0.now c.split_at_mut-mine.result.1.now c.args.k here.starts c.requires.tells in
    let agree : first_start (members_from (concordance (g.C.CountedLeaves.text c.args.source.now) (form_of c.in_ok-operand.operand.now)) (start_at c.split_at_mut-mine.result.0.now)) c.args.k ≡ first_start (concordance (g.C.CountedLeaves.text c.args.source.now) (form_of c.in_ok-operand.operand.now)) c.args.k = tells.0 c.args.k (le_refl c.args.k) in
    c.from_residual-in_err-first.ensures ∙ subst (λ es. None ≡ first_start (concordance (g.C.CountedLeaves.text c.args.source.now) (seq (operand_forms es))) c.args.k) (sym c.in_ok-operand.ensures.cases.0) (seq_none (g.C.CountedLeaves.text c.args.source.now) (form_of c.in_ok-operand.operand.now) (operand_forms c.in_ok-operand.others.now) c.args.k (c.in_err-first.ensures.answer ∙ agree))

pub chains::seq_find-returns-then-is_empty-clause-answer : goal.chains::seq_find-returns-then-is_empty-clause-answer
chains::seq_find-returns-then-is_empty-clause-answer g t c =
    let here = operand_at (g.C.CountedLeaves.text c.args.source.now) c.args.operands.now c.in_ok-operand.others.now c.in_ok-operand.operand.now c.in_ok-operand.ensures.cases.0 c.args.places.now c.split_at_mut-mine.result.0.now c.split_at_mut-mine.result.1.now c.size_of-size.result c.requires.well_formed c.requires.stands c.size_of-size.ensures c.split_at_mut-mine.ensures.front c.split_at_mut-mine.ensures.back in
    let tells = first_in_order (g.C.CountedLeaves.text c.args.source.now) c.args.operands.now c.in_ok-operand.others.now c.in_ok-operand.operand.now c.in_ok-operand.ensures.cases.0 c.args.places.now c.split_at_mut-mine.result.0.now c.split_at_mut-mine.result.1.now c.args.k here.starts c.requires.tells in
    let agree : first_start (members_from (concordance (g.C.CountedLeaves.text c.args.source.now) (form_of c.in_ok-operand.operand.now)) (start_at c.split_at_mut-mine.result.0.now)) c.args.k ≡ first_start (concordance (g.C.CountedLeaves.text c.args.source.now) (form_of c.in_ok-operand.operand.now)) c.args.k = tells.0 c.args.k (le_refl c.args.k) in
    let found : first_start (concordance (g.C.CountedLeaves.text c.args.source.now) (form_of c.in_ok-operand.operand.now)) c.args.k ≡ Some c.in_ok-first.first = sym (c.in_ok-first.ensures.answer ∙ agree) in
    let nil = no_others c.is_empty.result c.in_ok-operand.others.now c.is_empty.ensures c.if-is_empty.true in
    subst (λ es. Some c.in_ok-first.first ≡ first_start (concordance (g.C.CountedLeaves.text c.args.source.now) (seq (operand_forms es))) c.args.k) (sym c.in_ok-operand.ensures.cases.0) (seq_alone (g.C.CountedLeaves.text c.args.source.now) (form_of c.in_ok-operand.operand.now) (operand_forms c.in_ok-operand.others.now) c.args.k c.in_ok-first.first found (ap operand_forms nil))

pub chains::seq_find-returns-then-is_empty-clause-tells : goal.chains::seq_find-returns-then-is_empty-clause-tells
chains::seq_find-returns-then-is_empty-clause-tells g t c =
    let nil = no_others c.is_empty.result c.in_ok-operand.others.now c.is_empty.ensures c.if-is_empty.true in
    in_order_joined (g.C.CountedLeaves.text c.args.source.now) c.args.operands.now c.in_ok-operand.others.now c.in_ok-operand.operand.now c.in_ok-operand.ensures.cases.0 c.start.new.places c.split_at_mut-mine.result.1.now (c.in_ok-first.first.start + 1) c.start.ensures.stands
    (subst (λ os. AllAnswerInOrder ((concordance (g.C.CountedLeaves.text c.args.source.now) (form_of c.in_ok-operand.operand.now)) ∷ operand_lists (g.C.CountedLeaves.text c.args.source.now) os) (start_at c.start.new.places ∷ starts_at (operand_forms os) c.split_at_mut-mine.result.1.now) (c.in_ok-first.first.start + 1)) (sym nil)
    (in_order_alone (concordance (g.C.CountedLeaves.text c.args.source.now) (form_of c.in_ok-operand.operand.now)) (start_at c.start.new.places) c.in_ok-first.first.start c.in_ok-first.ensures.moved))

pub chains::seq_find-returns-in_err-tail-clause-answer : goal.chains::seq_find-returns-in_err-tail-clause-answer
chains::seq_find-returns-in_err-tail-clause-answer g t c =
    let here = operand_at (g.C.CountedLeaves.text c.args.source.now) c.args.operands.now c.in_ok-operand.others.now c.in_ok-operand.operand.now c.in_ok-operand.ensures.cases.0 c.args.places.now c.split_at_mut-mine.result.0.now c.split_at_mut-mine.result.1.now c.size_of-size.result c.requires.well_formed c.requires.stands c.size_of-size.ensures c.split_at_mut-mine.ensures.front c.split_at_mut-mine.ensures.back in
    let tells = first_in_order (g.C.CountedLeaves.text c.args.source.now) c.args.operands.now c.in_ok-operand.others.now c.in_ok-operand.operand.now c.in_ok-operand.ensures.cases.0 c.args.places.now c.split_at_mut-mine.result.0.now c.split_at_mut-mine.result.1.now c.args.k here.starts c.requires.tells in
    let agree : first_start (members_from (concordance (g.C.CountedLeaves.text c.args.source.now) (form_of c.in_ok-operand.operand.now)) (start_at c.split_at_mut-mine.result.0.now)) c.args.k ≡ first_start (concordance (g.C.CountedLeaves.text c.args.source.now) (form_of c.in_ok-operand.operand.now)) c.args.k = tells.0 c.args.k (le_refl c.args.k) in
    let found : first_start (concordance (g.C.CountedLeaves.text c.args.source.now) (form_of c.in_ok-operand.operand.now)) c.args.k ≡ Some c.in_ok-first.first = sym (c.in_ok-first.ensures.answer ∙ agree) in
    let some = some_others c.is_empty.result c.in_ok-operand.others.now c.is_empty.ensures c.if-is_empty.false in
    let no_tail : None ≡ first_start (concordance (g.C.CountedLeaves.text c.args.source.now) (seq (operand_forms c.in_ok-operand.others.now))) (c.in_ok-first.first.end + 1) = rw c.after.ensures at c.in_err-tail.ensures.answer in
    c.from_residual-in_err-tail.ensures ∙ subst (λ es. None ≡ first_start (concordance (g.C.CountedLeaves.text c.args.source.now) (seq (operand_forms es))) c.args.k) (sym c.in_ok-operand.ensures.cases.0) (seq_no_tail (g.C.CountedLeaves.text c.args.source.now) (form_of c.in_ok-operand.operand.now) (operand_forms c.in_ok-operand.others.now) c.args.k c.in_ok-first.first found some no_tail)

pub chains::seq_find-overflow_sub-tail-inside : goal.chains::seq_find-overflow_sub-tail-inside
chains::seq_find-overflow_sub-tail-inside g t c =
    let here = operand_at (g.C.CountedLeaves.text c.args.source.now) c.args.operands.now c.in_ok-operand.others.now c.in_ok-operand.operand.now c.in_ok-operand.ensures.cases.0 c.args.places.now c.split_at_mut-mine.result.0.now c.split_at_mut-mine.result.1.now c.size_of-size.result c.requires.well_formed c.requires.stands c.size_of-size.ensures c.split_at_mut-mine.ensures.front c.split_at_mut-mine.ensures.back in
    let tells = first_in_order (g.C.CountedLeaves.text c.args.source.now) c.args.operands.now c.in_ok-operand.others.now c.in_ok-operand.operand.now c.in_ok-operand.ensures.cases.0 c.args.places.now c.split_at_mut-mine.result.0.now c.split_at_mut-mine.result.1.now c.args.k here.starts c.requires.tells in
    let agree : first_start (members_from (concordance (g.C.CountedLeaves.text c.args.source.now) (form_of c.in_ok-operand.operand.now)) (start_at c.split_at_mut-mine.result.0.now)) c.args.k ≡ first_start (concordance (g.C.CountedLeaves.text c.args.source.now) (form_of c.in_ok-operand.operand.now)) c.args.k = tells.0 c.args.k (le_refl c.args.k) in
    let found : first_start (concordance (g.C.CountedLeaves.text c.args.source.now) (form_of c.in_ok-operand.operand.now)) c.args.k ≡ Some c.in_ok-first.first = sym (c.in_ok-first.ensures.answer ∙ agree) in
    let some = some_others c.is_empty.result c.in_ok-operand.others.now c.is_empty.ensures c.if-is_empty.false in
    let tail : first_start (concordance (g.C.CountedLeaves.text c.args.source.now) (seq (operand_forms c.in_ok-operand.others.now))) (c.in_ok-first.first.end + 1) ≡ Some c.in_ok-tail.tail = sym (rw c.after.ensures at c.in_ok-tail.ensures.answer) in
    let behind = tail_after (g.C.CountedLeaves.text c.args.source.now) (form_of c.in_ok-operand.operand.now) (operand_forms c.in_ok-operand.others.now) c.args.k c.in_ok-first.first found some c.in_ok-tail.tail tail in
    let starts : c.in_ok-tail.tail.start ≡ c.tail.inside.start = sym (ap (λ (x : Extent). x.start) c.tail.view_is) in
    omega arith

pub chains::seq_find-returns-in_err-head-clause-answer : goal.chains::seq_find-returns-in_err-head-clause-answer
chains::seq_find-returns-in_err-head-clause-answer g t c =
    let here = operand_at (g.C.CountedLeaves.text c.args.source.now) c.args.operands.now c.in_ok-operand.others.now c.in_ok-operand.operand.now c.in_ok-operand.ensures.cases.0 c.args.places.now c.split_at_mut-mine.result.0.now c.split_at_mut-mine.result.1.now c.size_of-size.result c.requires.well_formed c.requires.stands c.size_of-size.ensures c.split_at_mut-mine.ensures.front c.split_at_mut-mine.ensures.back in
    let tells = first_in_order (g.C.CountedLeaves.text c.args.source.now) c.args.operands.now c.in_ok-operand.others.now c.in_ok-operand.operand.now c.in_ok-operand.ensures.cases.0 c.args.places.now c.split_at_mut-mine.result.0.now c.split_at_mut-mine.result.1.now c.args.k here.starts c.requires.tells in
    let agree : first_start (members_from (concordance (g.C.CountedLeaves.text c.args.source.now) (form_of c.in_ok-operand.operand.now)) (start_at c.split_at_mut-mine.result.0.now)) c.args.k ≡ first_start (concordance (g.C.CountedLeaves.text c.args.source.now) (form_of c.in_ok-operand.operand.now)) c.args.k = tells.0 c.args.k (le_refl c.args.k) in
    let found : first_start (concordance (g.C.CountedLeaves.text c.args.source.now) (form_of c.in_ok-operand.operand.now)) c.args.k ≡ Some c.in_ok-first.first = sym (c.in_ok-first.ensures.answer ∙ agree) in
    let some = some_others c.is_empty.result c.in_ok-operand.others.now c.is_empty.ensures c.if-is_empty.false in
    let tail : first_start (concordance (g.C.CountedLeaves.text c.args.source.now) (seq (operand_forms c.in_ok-operand.others.now))) (c.in_ok-first.first.end + 1) ≡ Some c.in_ok-tail.tail = sym (rw c.after.ensures at c.in_ok-tail.ensures.answer) in
    let behind = tail_after (g.C.CountedLeaves.text c.args.source.now) (form_of c.in_ok-operand.operand.now) (operand_forms c.in_ok-operand.others.now) c.args.k c.in_ok-first.first found some c.in_ok-tail.tail tail in
    let starts : c.in_ok-tail.tail.start ≡ c.tail.inside.start = sym (ap (λ (x : Extent). x.start) c.tail.view_is) in
    absurd (back_finds (concordance (g.C.CountedLeaves.text c.args.source.now) (form_of c.in_ok-operand.operand.now)) (start_at c.start.new.places) (c.tail.inside.start - 1) c.in_ok-first.first (first_member (concordance (g.C.CountedLeaves.text c.args.source.now) (form_of c.in_ok-operand.operand.now)) c.args.k c.in_ok-first.first found) c.in_ok-first.ensures.moved (omega arith) c.in_err-head.ensures.answer)

pub chains::seq_find-seq_join-requires : goal.chains::seq_find-seq_join-requires
chains::seq_find-seq_join-requires g t c =
    let here = operand_at (g.C.CountedLeaves.text c.args.source.now) c.args.operands.now c.in_ok-operand.others.now c.in_ok-operand.operand.now c.in_ok-operand.ensures.cases.0 c.args.places.now c.split_at_mut-mine.result.0.now c.split_at_mut-mine.result.1.now c.size_of-size.result c.requires.well_formed c.requires.stands c.size_of-size.ensures c.split_at_mut-mine.ensures.front c.split_at_mut-mine.ensures.back in
    let tells = first_in_order (g.C.CountedLeaves.text c.args.source.now) c.args.operands.now c.in_ok-operand.others.now c.in_ok-operand.operand.now c.in_ok-operand.ensures.cases.0 c.args.places.now c.split_at_mut-mine.result.0.now c.split_at_mut-mine.result.1.now c.args.k here.starts c.requires.tells in
    let agree : first_start (members_from (concordance (g.C.CountedLeaves.text c.args.source.now) (form_of c.in_ok-operand.operand.now)) (start_at c.split_at_mut-mine.result.0.now)) c.args.k ≡ first_start (concordance (g.C.CountedLeaves.text c.args.source.now) (form_of c.in_ok-operand.operand.now)) c.args.k = tells.0 c.args.k (le_refl c.args.k) in
    let found : first_start (concordance (g.C.CountedLeaves.text c.args.source.now) (form_of c.in_ok-operand.operand.now)) c.args.k ≡ Some c.in_ok-first.first = sym (c.in_ok-first.ensures.answer ∙ agree) in
    let some = some_others c.is_empty.result c.in_ok-operand.others.now c.is_empty.ensures c.if-is_empty.false in
    let tail : first_start (concordance (g.C.CountedLeaves.text c.args.source.now) (seq (operand_forms c.in_ok-operand.others.now))) (c.in_ok-first.first.end + 1) ≡ Some c.in_ok-tail.tail = sym (rw c.after.ensures at c.in_ok-tail.ensures.answer) in
    let behind = tail_after (g.C.CountedLeaves.text c.args.source.now) (form_of c.in_ok-operand.operand.now) (operand_forms c.in_ok-operand.others.now) c.args.k c.in_ok-first.first found some c.in_ok-tail.tail tail in
    let starts : c.in_ok-tail.tail.start ≡ c.tail.inside.start = sym (ap (λ (x : Extent). x.start) c.tail.view_is) in
    joins_in_order (g.C.CountedLeaves.text c.args.source.now) (form_of c.in_ok-operand.operand.now) (seq (operand_forms c.in_ok-operand.others.now)) (start_at c.start.new.places) (c.tail.inside.start - 1) c.in_ok-head.head c.in_ok-tail.tail (sym c.in_ok-head.ensures.answer) (omega arith) (first_member (concordance (g.C.CountedLeaves.text c.args.source.now) (seq (operand_forms c.in_ok-operand.others.now))) (c.in_ok-first.first.end + 1) c.in_ok-tail.tail tail)

pub chains::seq_find-returns-clause-answer : goal.chains::seq_find-returns-clause-answer
chains::seq_find-returns-clause-answer g t c =
    let here = operand_at (g.C.CountedLeaves.text c.args.source.now) c.args.operands.now c.in_ok-operand.others.now c.in_ok-operand.operand.now c.in_ok-operand.ensures.cases.0 c.args.places.now c.split_at_mut-mine.result.0.now c.split_at_mut-mine.result.1.now c.size_of-size.result c.requires.well_formed c.requires.stands c.size_of-size.ensures c.split_at_mut-mine.ensures.front c.split_at_mut-mine.ensures.back in
    let tells = first_in_order (g.C.CountedLeaves.text c.args.source.now) c.args.operands.now c.in_ok-operand.others.now c.in_ok-operand.operand.now c.in_ok-operand.ensures.cases.0 c.args.places.now c.split_at_mut-mine.result.0.now c.split_at_mut-mine.result.1.now c.args.k here.starts c.requires.tells in
    let agree : first_start (members_from (concordance (g.C.CountedLeaves.text c.args.source.now) (form_of c.in_ok-operand.operand.now)) (start_at c.split_at_mut-mine.result.0.now)) c.args.k ≡ first_start (concordance (g.C.CountedLeaves.text c.args.source.now) (form_of c.in_ok-operand.operand.now)) c.args.k = tells.0 c.args.k (le_refl c.args.k) in
    let found : first_start (concordance (g.C.CountedLeaves.text c.args.source.now) (form_of c.in_ok-operand.operand.now)) c.args.k ≡ Some c.in_ok-first.first = sym (c.in_ok-first.ensures.answer ∙ agree) in
    let some = some_others c.is_empty.result c.in_ok-operand.others.now c.is_empty.ensures c.if-is_empty.false in
    let tail : first_start (concordance (g.C.CountedLeaves.text c.args.source.now) (seq (operand_forms c.in_ok-operand.others.now))) (c.in_ok-first.first.end + 1) ≡ Some c.in_ok-tail.tail = sym (rw c.after.ensures at c.in_ok-tail.ensures.answer) in
    let behind = tail_after (g.C.CountedLeaves.text c.args.source.now) (form_of c.in_ok-operand.operand.now) (operand_forms c.in_ok-operand.others.now) c.args.k c.in_ok-first.first found some c.in_ok-tail.tail tail in
    let starts : c.in_ok-tail.tail.start ≡ c.tail.inside.start = sym (ap (λ (x : Extent). x.start) c.tail.view_is) in
    let head : last_end (members_from (concordance (g.C.CountedLeaves.text c.args.source.now) (form_of c.in_ok-operand.operand.now)) (start_at c.start.new.places)) (c.in_ok-tail.tail.start - 1) ≡ Some c.in_ok-head.head = subst (λ n. last_end (members_from (concordance (g.C.CountedLeaves.text c.args.source.now) (form_of c.in_ok-operand.operand.now)) (start_at c.start.new.places)) (n - 1) ≡ Some c.in_ok-head.head) (sym starts) (sym c.in_ok-head.ensures.answer) in
    ap Some c.seq_join.ensures
    ∙ subst (λ es. Some (joined c.in_ok-head.head c.in_ok-tail.tail) ≡ first_start (concordance (g.C.CountedLeaves.text c.args.source.now) (seq (operand_forms es))) c.args.k) (sym c.in_ok-operand.ensures.cases.0) (seq_joined (g.C.CountedLeaves.text c.args.source.now) (form_of c.in_ok-operand.operand.now) (operand_forms c.in_ok-operand.others.now) c.args.k c.in_ok-first.first found some c.in_ok-tail.tail tail c.in_ok-head.head (last_of_left (concordance (g.C.CountedLeaves.text c.args.source.now) (form_of c.in_ok-operand.operand.now)) (concordance_rises (g.C.CountedLeaves.text c.args.source.now) (form_of c.in_ok-operand.operand.now)) (start_at c.start.new.places) (c.in_ok-tail.tail.start - 1) c.in_ok-head.head head))

pub chains::seq_find-returns-clause-tells : goal.chains::seq_find-returns-clause-tells
chains::seq_find-returns-clause-tells g t c =
    let here = operand_at (g.C.CountedLeaves.text c.args.source.now) c.args.operands.now c.in_ok-operand.others.now c.in_ok-operand.operand.now c.in_ok-operand.ensures.cases.0 c.args.places.now c.split_at_mut-mine.result.0.now c.split_at_mut-mine.result.1.now c.size_of-size.result c.requires.well_formed c.requires.stands c.size_of-size.ensures c.split_at_mut-mine.ensures.front c.split_at_mut-mine.ensures.back in
    let tells = first_in_order (g.C.CountedLeaves.text c.args.source.now) c.args.operands.now c.in_ok-operand.others.now c.in_ok-operand.operand.now c.in_ok-operand.ensures.cases.0 c.args.places.now c.split_at_mut-mine.result.0.now c.split_at_mut-mine.result.1.now c.args.k here.starts c.requires.tells in
    let agree : first_start (members_from (concordance (g.C.CountedLeaves.text c.args.source.now) (form_of c.in_ok-operand.operand.now)) (start_at c.split_at_mut-mine.result.0.now)) c.args.k ≡ first_start (concordance (g.C.CountedLeaves.text c.args.source.now) (form_of c.in_ok-operand.operand.now)) c.args.k = tells.0 c.args.k (le_refl c.args.k) in
    let found : first_start (concordance (g.C.CountedLeaves.text c.args.source.now) (form_of c.in_ok-operand.operand.now)) c.args.k ≡ Some c.in_ok-first.first = sym (c.in_ok-first.ensures.answer ∙ agree) in
    let some = some_others c.is_empty.result c.in_ok-operand.others.now c.is_empty.ensures c.if-is_empty.false in
    let tail : first_start (concordance (g.C.CountedLeaves.text c.args.source.now) (seq (operand_forms c.in_ok-operand.others.now))) (c.in_ok-first.first.end + 1) ≡ Some c.in_ok-tail.tail = sym (rw c.after.ensures at c.in_ok-tail.ensures.answer) in
    let behind = tail_after (g.C.CountedLeaves.text c.args.source.now) (form_of c.in_ok-operand.operand.now) (operand_forms c.in_ok-operand.others.now) c.args.k c.in_ok-first.first found some c.in_ok-tail.tail tail in
    let starts : c.in_ok-tail.tail.start ≡ c.tail.inside.start = sym (ap (λ (x : Extent). x.start) c.tail.view_is) in
    let head : last_end (members_from (concordance (g.C.CountedLeaves.text c.args.source.now) (form_of c.in_ok-operand.operand.now)) (start_at c.start.new.places)) (c.in_ok-tail.tail.start - 1) ≡ Some c.in_ok-head.head = subst (λ n. last_end (members_from (concordance (g.C.CountedLeaves.text c.args.source.now) (form_of c.in_ok-operand.operand.now)) (start_at c.start.new.places)) (n - 1) ≡ Some c.in_ok-head.head) (sym starts) (sym c.in_ok-head.ensures.answer) in
    subst (λ n. AllAnswerInOrder (operand_lists (g.C.CountedLeaves.text c.args.source.now) c.args.operands.now) (starts_at (operand_forms c.args.operands.now) (c.back.new.places ++ c.seq_find.new.places)) (n + 1)) (sym (ap (λ (x : Extent). x.start) c.seq_join.ensures))
    (in_order_joined (g.C.CountedLeaves.text c.args.source.now) c.args.operands.now c.in_ok-operand.others.now c.in_ok-operand.operand.now c.in_ok-operand.ensures.cases.0 c.back.new.places c.seq_find.new.places (c.in_ok-head.head.start + 1) c.back.ensures.stands
    (in_order_more (concordance (g.C.CountedLeaves.text c.args.source.now) (form_of c.in_ok-operand.operand.now)) (concordance_rises (g.C.CountedLeaves.text c.args.source.now) (form_of c.in_ok-operand.operand.now)) (operand_lists (g.C.CountedLeaves.text c.args.source.now) c.in_ok-operand.others.now) (starts_at (operand_forms c.in_ok-operand.others.now) c.seq_find.new.places) (start_at c.start.new.places) (start_at c.back.new.places) c.in_ok-tail.tail.start c.in_ok-head.head (omega arith) head c.in_ok-head.ensures.moved c.in_ok-tail.ensures.tells))

pub containments::containment_find-start-requires : goal.containments::containment_find-start-requires
containments::containment_find-start-requires g t c =
    let parts = both_operands c.operands-containment.result.0 (form_of c.args.expr.now) (form_of c.operands-containment.result.1.now) (form_of c.operands-containment.result.2.now) c.operands-containment.ensures c.requires.well_formed in
    let here = contain_split c.operands-containment.result.0 (g.C.CountedLeaves.text c.args.source.now) (form_of c.args.expr.now) (form_of c.operands-containment.result.1.now) (form_of c.operands-containment.result.2.now) c.operands-containment.ensures c.args.places.now c.split_at_mut-first_places.result.0.now c.split_at_mut-first_places.result.1.now c.args.k c.size_of-size.result c.requires.stands c.requires.tells c.size_of-size.ensures c.split_at_mut-first_places.ensures.front c.split_at_mut-first_places.ensures.back in
    let fewer = here.fewer in
    let firsts = here.firsts in
    λ κs l. (omega arith, (l.0, (l.1, (parts.first, (c.requires.below, (c.requires.sound, firsts))))))

pub containments::containment_find-returns-in_err-member-clause-answer : goal.containments::containment_find-returns-in_err-member-clause-answer
containments::containment_find-returns-in_err-member-clause-answer g t c =
    let here = contain_split c.operands-containment.result.0 (g.C.CountedLeaves.text c.args.source.now) (form_of c.args.expr.now) (form_of c.operands-containment.result.1.now) (form_of c.operands-containment.result.2.now) c.operands-containment.ensures c.args.places.now c.split_at_mut-first_places.result.0.now c.split_at_mut-first_places.result.1.now c.args.k c.size_of-size.result c.requires.stands c.requires.tells c.size_of-size.ensures c.split_at_mut-first_places.ensures.front c.split_at_mut-first_places.ensures.back in
    c.from_residual.ensures ∙ node_begins_none c.operands-containment.result.0 (g.C.CountedLeaves.text c.args.source.now) (form_of c.args.expr.now) (form_of c.operands-containment.result.1.now) (form_of c.operands-containment.result.2.now) c.operands-containment.ensures c.args.k (c.in_err-member.ensures.answer ∙ here.answers c.args.k (le_refl c.args.k))

pub containments::containment_find-loop-next-init : goal.containments::containment_find-loop-next-init
containments::containment_find-loop-next-init g t c =
    let here = contain_split c.operands-containment.result.0 (g.C.CountedLeaves.text c.args.source.now) (form_of c.args.expr.now) (form_of c.operands-containment.result.1.now) (form_of c.operands-containment.result.2.now) c.operands-containment.ensures c.args.places.now c.split_at_mut-first_places.result.0.now c.split_at_mut-first_places.result.1.now c.args.k c.size_of-size.result c.requires.stands c.requires.tells c.size_of-size.ensures c.split_at_mut-first_places.ensures.front c.split_at_mut-first_places.ensures.back in
    let found : Some c.in_ok-member.member ≡ first_start (concordance (g.C.CountedLeaves.text c.args.source.now) (form_of c.operands-containment.result.1.now)) c.args.k = c.in_ok-member.ensures.answer ∙ here.answers c.args.k (le_refl c.args.k) in
    let costs = contain_costs c.operands-containment.result.0 (g.C.CountedLeaves.text c.args.source.now) (g.C.CountedLeaves.most c.args.source.now) (form_of c.args.expr.now) (form_of c.operands-containment.result.1.now) (form_of c.operands-containment.result.2.now) c.operands-containment.ensures c.split_at_mut-first_places.result.0.now c.split_at_mut-first_places.result.1.now here.firsts.count in
    let whole = ap (cost_below (g.C.CountedLeaves.text c.args.source.now) (g.C.CountedLeaves.most c.args.source.now) (form_of c.args.expr.now)) c.split_at_mut-first_places.ensures.value in
    record {
      counted = c.start.ensures.counted;
      cost = omega (arith, costs, whole, c.start.ensures.cost);
      first = c.start.ensures.stands;
      second = here.seconds;
      at = c.in_ok-member.ensures.moved;
      tells = here.asked c.in_ok-member.member (sym found);
      reached = node_begins c.operands-containment.result.0 (g.C.CountedLeaves.text c.args.source.now) (form_of c.args.expr.now) (form_of c.operands-containment.result.1.now) (form_of c.operands-containment.result.2.now) c.operands-containment.ensures c.args.k c.in_ok-member.member found;
      within = c.in_ok-member.ensures.within;
    }

pub containments::containment_find-returns-in-Accept-clause-answer : goal.containments::containment_find-returns-in-Accept-clause-answer
containments::containment_find-returns-in-Accept-clause-answer g t c =
    let asked : c.ask-answer.result ≡ (loop_of Forward c.operands-containment.result.0).ask (concordance (g.C.CountedLeaves.text c.args.source.now) (form_of c.operands-containment.result.2.now)) c.loop-next.member = c.ask-answer.ensures.answer ∙ second_asked c.operands-containment.result.0 (concordance (g.C.CountedLeaves.text c.args.source.now) (form_of c.operands-containment.result.2.now)) (start_at c.loop-next.second_places) c.loop-next.member c.loop-next.invariant.tells in
    accepts c.operands-containment.result.0 (concordance (g.C.CountedLeaves.text c.args.source.now) (form_of c.operands-containment.result.1.now)) (concordance (g.C.CountedLeaves.text c.args.source.now) (form_of c.operands-containment.result.2.now)) (concordance (g.C.CountedLeaves.text c.args.source.now) (form_of c.args.expr.now)) (concordance_rises (g.C.CountedLeaves.text c.args.source.now) (form_of c.operands-containment.result.1.now)) (concordance_rises (g.C.CountedLeaves.text c.args.source.now) (form_of c.operands-containment.result.2.now)) (contain_kept c.operands-containment.result.0 (form_of c.args.expr.now) (form_of c.operands-containment.result.1.now) (form_of c.operands-containment.result.2.now) c.operands-containment.ensures (g.C.CountedLeaves.text c.args.source.now)) Forward (first_start (concordance (g.C.CountedLeaves.text c.args.source.now) (form_of c.args.expr.now)) c.args.k) c.loop-next.member c.loop-next.invariant.reached c.ask-answer.result asked c.in-Accept.ensures

pub containments::containment_find-returns-in-Accept-clause-tells : goal.containments::containment_find-returns-in-Accept-clause-tells
containments::containment_find-returns-in-Accept-clause-tells g t c =
    contain_tell c.operands-containment.result.0 (g.C.CountedLeaves.text c.args.source.now) (form_of c.args.expr.now) (form_of c.operands-containment.result.1.now) (form_of c.operands-containment.result.2.now) c.operands-containment.ensures c.loop-next.first_places c.ask-answer.new.places c.loop-next.invariant.first c.ask-answer.ensures.stands c.loop-next.member c.loop-next.invariant.at (second_moved c.operands-containment.result.0 (concordance (g.C.CountedLeaves.text c.args.source.now) (form_of c.operands-containment.result.2.now)) (concordance_rises (g.C.CountedLeaves.text c.args.source.now) (form_of c.operands-containment.result.2.now)) (start_at c.loop-next.second_places) (start_at c.ask-answer.new.places) c.loop-next.member c.ask-answer.result c.loop-next.invariant.tells c.ask-answer.ensures.answer c.ask-answer.ensures.moved)

pub containments::containment_find-returns-in-Finish-clause-answer : goal.containments::containment_find-returns-in-Finish-clause-answer
containments::containment_find-returns-in-Finish-clause-answer g t c =
    let asked : c.ask-answer.result ≡ (loop_of Forward c.operands-containment.result.0).ask (concordance (g.C.CountedLeaves.text c.args.source.now) (form_of c.operands-containment.result.2.now)) c.loop-next.member = c.ask-answer.ensures.answer ∙ second_asked c.operands-containment.result.0 (concordance (g.C.CountedLeaves.text c.args.source.now) (form_of c.operands-containment.result.2.now)) (start_at c.loop-next.second_places) c.loop-next.member c.loop-next.invariant.tells in
    finishes c.operands-containment.result.0 (concordance (g.C.CountedLeaves.text c.args.source.now) (form_of c.operands-containment.result.1.now)) (concordance (g.C.CountedLeaves.text c.args.source.now) (form_of c.operands-containment.result.2.now)) (concordance (g.C.CountedLeaves.text c.args.source.now) (form_of c.args.expr.now)) (concordance_rises (g.C.CountedLeaves.text c.args.source.now) (form_of c.operands-containment.result.1.now)) (concordance_rises (g.C.CountedLeaves.text c.args.source.now) (form_of c.operands-containment.result.2.now)) (contain_kept c.operands-containment.result.0 (form_of c.args.expr.now) (form_of c.operands-containment.result.1.now) (form_of c.operands-containment.result.2.now) c.operands-containment.ensures (g.C.CountedLeaves.text c.args.source.now)) Forward (first_start (concordance (g.C.CountedLeaves.text c.args.source.now) (form_of c.args.expr.now)) c.args.k) c.loop-next.member c.loop-next.invariant.reached c.ask-answer.result asked c.in-Finish.ensures

pub containments::containment_find-returns-in_err-member-in-GoTo-clause-answer : goal.containments::containment_find-returns-in_err-member-in-GoTo-clause-answer
containments::containment_find-returns-in_err-member-in-GoTo-clause-answer g t c =
    let asked : c.ask-answer.result ≡ (loop_of Forward c.operands-containment.result.0).ask (concordance (g.C.CountedLeaves.text c.args.source.now) (form_of c.operands-containment.result.2.now)) c.loop-next.member = c.ask-answer.ensures.answer ∙ second_asked c.operands-containment.result.0 (concordance (g.C.CountedLeaves.text c.args.source.now) (form_of c.operands-containment.result.2.now)) (start_at c.loop-next.second_places) c.loop-next.member c.loop-next.invariant.tells in
    c.from_residual-in_err-member-in-GoTo.ensures ∙ ends c.operands-containment.result.0 (concordance (g.C.CountedLeaves.text c.args.source.now) (form_of c.operands-containment.result.1.now)) (concordance (g.C.CountedLeaves.text c.args.source.now) (form_of c.operands-containment.result.2.now)) (concordance (g.C.CountedLeaves.text c.args.source.now) (form_of c.args.expr.now)) (concordance_rises (g.C.CountedLeaves.text c.args.source.now) (form_of c.operands-containment.result.1.now)) (concordance_rises (g.C.CountedLeaves.text c.args.source.now) (form_of c.operands-containment.result.2.now)) (contain_kept c.operands-containment.result.0 (form_of c.args.expr.now) (form_of c.operands-containment.result.1.now) (form_of c.operands-containment.result.2.now) c.operands-containment.ensures (g.C.CountedLeaves.text c.args.source.now)) (first_start (concordance (g.C.CountedLeaves.text c.args.source.now) (form_of c.args.expr.now)) c.args.k) c.loop-next.member c.ask-answer.result c.in-GoTo.next Forward c.loop-next.invariant.reached asked c.in-GoTo.ensures (c.in_err-member-in-GoTo.ensures.answer ∙ go_agrees c.operands-containment.result.0 (g.C.CountedLeaves.text c.args.source.now) (form_of c.args.expr.now) (form_of c.operands-containment.result.1.now) (form_of c.operands-containment.result.2.now) c.operands-containment.ensures c.loop-next.member c.loop-next.invariant.reached.found c.ask-answer.result asked c.in-GoTo.next c.in-GoTo.ensures (start_at c.loop-next.first_places) c.loop-next.invariant.at)

pub containments::containment_find-loop-next-smaller : goal.containments::containment_find-loop-next-smaller
containments::containment_find-loop-next-smaller g t c =
    let asked : c.ask-answer.result ≡ (loop_of Forward c.operands-containment.result.0).ask (concordance (g.C.CountedLeaves.text c.args.source.now) (form_of c.operands-containment.result.2.now)) c.loop-next.member = c.ask-answer.ensures.answer ∙ second_asked c.operands-containment.result.0 (concordance (g.C.CountedLeaves.text c.args.source.now) (form_of c.operands-containment.result.2.now)) (start_at c.loop-next.second_places) c.loop-next.member c.loop-next.invariant.tells in
    let found : Some c.in_ok-member-in-GoTo.member ≡ first_from (loop_of Forward c.operands-containment.result.0) (concordance (g.C.CountedLeaves.text c.args.source.now) (form_of c.operands-containment.result.1.now)) c.in-GoTo.next = c.in_ok-member-in-GoTo.ensures.answer ∙ go_agrees c.operands-containment.result.0 (g.C.CountedLeaves.text c.args.source.now) (form_of c.args.expr.now) (form_of c.operands-containment.result.1.now) (form_of c.operands-containment.result.2.now) c.operands-containment.ensures c.loop-next.member c.loop-next.invariant.reached.found c.ask-answer.result asked c.in-GoTo.next c.in-GoTo.ensures (start_at c.loop-next.first_places) c.loop-next.invariant.at in
    let more = more_turns c.operands-containment.result.0 (concordance (g.C.CountedLeaves.text c.args.source.now) (form_of c.operands-containment.result.1.now)) (concordance (g.C.CountedLeaves.text c.args.source.now) (form_of c.operands-containment.result.2.now)) (concordance (g.C.CountedLeaves.text c.args.source.now) (form_of c.args.expr.now)) (concordance_rises (g.C.CountedLeaves.text c.args.source.now) (form_of c.operands-containment.result.1.now)) (concordance_rises (g.C.CountedLeaves.text c.args.source.now) (form_of c.operands-containment.result.2.now)) (contain_kept c.operands-containment.result.0 (form_of c.args.expr.now) (form_of c.operands-containment.result.1.now) (form_of c.operands-containment.result.2.now) c.operands-containment.ensures (g.C.CountedLeaves.text c.args.source.now)) (first_start (concordance (g.C.CountedLeaves.text c.args.source.now) (form_of c.args.expr.now)) c.args.k) c.loop-next.member c.ask-answer.result c.in-GoTo.next Forward c.loop-next.invariant.reached asked c.in-GoTo.ensures c.in_ok-member-in-GoTo.member found in
    let le = turns_le Forward c.operands-containment.result.0 (concordance (g.C.CountedLeaves.text c.args.source.now) (form_of c.operands-containment.result.1.now)) (concordance (g.C.CountedLeaves.text c.args.source.now) (form_of c.operands-containment.result.2.now)) c.in_ok-member-in-GoTo.member in
    omega arith

pub containments::containment_find-loop-next-preserved : goal.containments::containment_find-loop-next-preserved
containments::containment_find-loop-next-preserved g t c =
    let asked : c.ask-answer.result ≡ (loop_of Forward c.operands-containment.result.0).ask (concordance (g.C.CountedLeaves.text c.args.source.now) (form_of c.operands-containment.result.2.now)) c.loop-next.member = c.ask-answer.ensures.answer ∙ second_asked c.operands-containment.result.0 (concordance (g.C.CountedLeaves.text c.args.source.now) (form_of c.operands-containment.result.2.now)) (start_at c.loop-next.second_places) c.loop-next.member c.loop-next.invariant.tells in
    let found : Some c.in_ok-member-in-GoTo.member ≡ first_from (loop_of Forward c.operands-containment.result.0) (concordance (g.C.CountedLeaves.text c.args.source.now) (form_of c.operands-containment.result.1.now)) c.in-GoTo.next = c.in_ok-member-in-GoTo.ensures.answer ∙ go_agrees c.operands-containment.result.0 (g.C.CountedLeaves.text c.args.source.now) (form_of c.args.expr.now) (form_of c.operands-containment.result.1.now) (form_of c.operands-containment.result.2.now) c.operands-containment.ensures c.loop-next.member c.loop-next.invariant.reached.found c.ask-answer.result asked c.in-GoTo.next c.in-GoTo.ensures (start_at c.loop-next.first_places) c.loop-next.invariant.at in
    record {
      counted = omega (arith, c.loop-next.invariant.counted, c.ask-answer.ensures.counted, c.go_on.ensures.counted);
      cost = omega (arith, c.loop-next.invariant.cost, c.ask-answer.ensures.cost, c.go_on.ensures.cost);
      first = c.go_on.ensures.stands;
      second = c.ask-answer.ensures.stands;
      at = c.in_ok-member-in-GoTo.ensures.moved;
      tells = go_later c.operands-containment.result.0 (g.C.CountedLeaves.text c.args.source.now) (form_of c.args.expr.now) (form_of c.operands-containment.result.1.now) (form_of c.operands-containment.result.2.now) c.operands-containment.ensures c.loop-next.member c.loop-next.invariant.reached.found c.ask-answer.result asked c.in-GoTo.next c.in-GoTo.ensures c.in_ok-member-in-GoTo.member found (start_at c.ask-answer.new.places) (second_moved c.operands-containment.result.0 (concordance (g.C.CountedLeaves.text c.args.source.now) (form_of c.operands-containment.result.2.now)) (concordance_rises (g.C.CountedLeaves.text c.args.source.now) (form_of c.operands-containment.result.2.now)) (start_at c.loop-next.second_places) (start_at c.ask-answer.new.places) c.loop-next.member c.ask-answer.result c.loop-next.invariant.tells c.ask-answer.ensures.answer c.ask-answer.ensures.moved);
      reached = goes_on c.operands-containment.result.0 (concordance (g.C.CountedLeaves.text c.args.source.now) (form_of c.operands-containment.result.1.now)) (concordance (g.C.CountedLeaves.text c.args.source.now) (form_of c.operands-containment.result.2.now)) (concordance (g.C.CountedLeaves.text c.args.source.now) (form_of c.args.expr.now)) (concordance_rises (g.C.CountedLeaves.text c.args.source.now) (form_of c.operands-containment.result.1.now)) (concordance_rises (g.C.CountedLeaves.text c.args.source.now) (form_of c.operands-containment.result.2.now)) (contain_kept c.operands-containment.result.0 (form_of c.args.expr.now) (form_of c.operands-containment.result.1.now) (form_of c.operands-containment.result.2.now) c.operands-containment.ensures (g.C.CountedLeaves.text c.args.source.now)) (first_start (concordance (g.C.CountedLeaves.text c.args.source.now) (form_of c.args.expr.now)) c.args.k) c.loop-next.member c.ask-answer.result c.in-GoTo.next Forward c.loop-next.invariant.reached asked c.in-GoTo.ensures c.in_ok-member-in-GoTo.member found;
      within = c.in_ok-member-in-GoTo.ensures.within;
    }

pub containments::go_on-returns-in-Containing-clause-answer : goal.containments::go_on-returns-in-Containing-clause-answer
containments::go_on-returns-in-Containing-clause-answer g t c =
    c.end.ensures.answer ∙ ap (λ k. first_from (loop_of Forward k) (left_to (g.C.CountedLeaves.text c.args.source.now) (form_of c.args.first.now) c.args.places.now) c.args.next) (sym c.in-Containing.is)

pub containments::go_on-returns-in-ContainedIn-clause-answer : goal.containments::go_on-returns-in-ContainedIn-clause-answer
containments::go_on-returns-in-ContainedIn-clause-answer g t c =
    c.start.ensures.answer ∙ ap (λ k. first_from (loop_of Forward k) (left_to (g.C.CountedLeaves.text c.args.source.now) (form_of c.args.first.now) c.args.places.now) c.args.next) (sym c.in-ContainedIn.is)

pub containments::go_on-returns-in-NotContaining-clause-answer : goal.containments::go_on-returns-in-NotContaining-clause-answer
containments::go_on-returns-in-NotContaining-clause-answer g t c =
    c.start-in-NotContaining.ensures.answer ∙ ap (λ k. first_from (loop_of Forward k) (left_to (g.C.CountedLeaves.text c.args.source.now) (form_of c.args.first.now) c.args.places.now) c.args.next) (sym c.in-NotContaining.is)

pub containments::go_on-returns-in-NotContainedIn-clause-answer : goal.containments::go_on-returns-in-NotContainedIn-clause-answer
containments::go_on-returns-in-NotContainedIn-clause-answer g t c =
    c.end-in-NotContainedIn.ensures.answer ∙ ap (λ k. first_from (loop_of Forward k) (left_to (g.C.CountedLeaves.text c.args.source.now) (form_of c.args.first.now) c.args.places.now) c.args.next) (sym c.in-NotContainedIn.is)

pub reading::back-returns-in-Width-clause-answer : goal.reading::back-returns-in-Width-clause-answer
reading::back-returns-in-Width-clause-answer g t c =
    c.width_last_end.ensures (g.C.CountedLeaves.text c.args.source.now) record { first_is = sym c.span.ensures.first; next_is = sym c.span.ensures.next } ∙ ap (λ l. last_end l c.args.k) (width_left (g.C.CountedLeaves.text c.args.source.now) (form_of c.args.expr.now) c.in-Width.width (form-Width c.args.expr.now c.in-Width.width c.in-Width.is) c.args.places.now c.requires.stands)

pub reading::back-returns-in-Width-clause-within : goal.reading::back-returns-in-Width-clause-within
reading::back-returns-in-Width-clause-within g t c =
    within_last (g.C.CountedLeaves.text c.args.source.now) (width c.in-Width.width) c.requires.sound c.args.k c.width_last_end.result (c.width_last_end.ensures (g.C.CountedLeaves.text c.args.source.now) record { first_is = sym c.span.ensures.first; next_is = sym c.span.ensures.next })

pub reading::end-returns-in-Width-clause-answer : goal.reading::end-returns-in-Width-clause-answer
reading::end-returns-in-Width-clause-answer g t c =
    c.width_first_end.ensures (g.C.CountedLeaves.text c.args.source.now) record { first_is = sym c.span.ensures.first; next_is = sym c.span.ensures.next } ∙ ap (λ l. first_end l c.args.k) (width_left (g.C.CountedLeaves.text c.args.source.now) (form_of c.args.expr.now) c.in-Width.width (form-Width c.args.expr.now c.in-Width.width c.in-Width.is) c.args.places.now c.requires.stands)

pub reading::end-returns-in-Width-clause-within : goal.reading::end-returns-in-Width-clause-within
reading::end-returns-in-Width-clause-within g t c =
    within_first_end (g.C.CountedLeaves.text c.args.source.now) (width c.in-Width.width) c.requires.sound c.args.k c.width_first_end.result (c.width_first_end.ensures (g.C.CountedLeaves.text c.args.source.now) record { first_is = sym c.span.ensures.first; next_is = sym c.span.ensures.next })

pub reading::end-returns-in-Term-clause-answer : goal.reading::end-returns-in-Term-clause-answer
reading::end-returns-in-Term-clause-answer g t c =
    c.start.ensures.answer ∙ term_ends (g.C.CountedLeaves.text c.args.source.now) (form_of c.args.expr.now) c.in-Term.field-0 (form-Term c.args.expr.now c.in-Term.field-0 c.in-Term.is) (start_at c.args.places.now) c.args.k

pub reading::find-both_find-requires : goal.reading::find-both_find-requires
reading::find-both_find-requires g t c =
    let form = form-Both c.args.expr.now c.in-Both.operands c.deref.result.now c.in-Both.is c.deref.ensures.value in
    let well = subst IsWellFormed form c.requires.well_formed in
    let several = well.0 in
    let each = well.1 in
    let below = subst (λ f. StandBelow (g.C.CountedLeaves.text c.args.source.now) f c.args.places.now) form c.requires.stands in
    let tells = subst (λ f. TellsFrom (g.C.CountedLeaves.text c.args.source.now) f c.args.places.now c.args.k) form c.requires.tells in
    let fewer = ap nodes form in
    let operands : AreOperands (operand_forms c.deref.result.now) = record { several = several; each = each } in
    λ κs l. (omega arith, (l.0, (l.1, (operands, (c.requires.below, (c.requires.sound, (below, tells)))))))

pub reading::find-returns-in-Both-clause-answer : goal.reading::find-returns-in-Both-clause-answer
reading::find-returns-in-Both-clause-answer g t c =
    let form = form-Both c.args.expr.now c.in-Both.operands c.deref.result.now c.in-Both.is c.deref.ensures.value in
    c.both_find.ensures.answer ∙ ap (λ f. first_start (concordance (g.C.CountedLeaves.text c.args.source.now) f) c.args.k) (sym form)

pub reading::find-returns-in-One-clause-answer : goal.reading::find-returns-in-One-clause-answer
reading::find-returns-in-One-clause-answer g t c =
    let form = form-One c.args.expr.now c.in-One.operands c.deref-in-One.result.now c.in-One.is c.deref-in-One.ensures.value in
    c.one_find.ensures.answer ∙ sym (first_start-one (g.C.CountedLeaves.text c.args.source.now) (operand_forms c.deref-in-One.result.now) c.args.k) ∙ ap (λ f. first_start (concordance (g.C.CountedLeaves.text c.args.source.now) f) c.args.k) (sym form)

pub reading::find-returns-in-One-clause-tells : goal.reading::find-returns-in-One-clause-tells
reading::find-returns-in-One-clause-tells g t c =
    let form = form-One c.args.expr.now c.in-One.operands c.deref-in-One.result.now c.in-One.is c.deref-in-One.ensures.value in
    subst (λ f. Tell (g.C.CountedLeaves.text c.args.source.now) f (front_at c.one_find.result) c.one_find.new.places) (sym form)
    (one_tell (g.C.CountedLeaves.text c.args.source.now) (operand_forms c.deref-in-One.result.now) c.one_find.new.places c.args.k c.one_find.result (c.one_find.ensures.answer ∙ sym (first_start-one (g.C.CountedLeaves.text c.args.source.now) (operand_forms c.deref-in-One.result.now) c.args.k)) c.one_find.ensures.tells)

pub reading::find-returns-in-Seq-clause-answer : goal.reading::find-returns-in-Seq-clause-answer
reading::find-returns-in-Seq-clause-answer g t c =
    let form = form-Seq c.args.expr.now c.in-Seq.operands c.deref-in-Seq.result.now c.in-Seq.is c.deref-in-Seq.ensures.value in
    c.seq_find.ensures.answer ∙ ap (λ f. first_start (concordance (g.C.CountedLeaves.text c.args.source.now) f) c.args.k) (sym form)

pub reading::look-find-found-requires : goal.reading::look-find-found-requires
reading::look-find-found-requires g t c =
    let below = subst (StandBelow (g.C.CountedLeaves.text c.args.source.now) (form_of c.args.expr.now)) (sym c.split_at_mut-below.ensures.back) c.requires.stands.below in
    let tells = subst (λ p. TellsFrom (g.C.CountedLeaves.text c.args.source.now) (form_of c.args.expr.now) p c.args.k) (sym c.split_at_mut-below.ensures.back) (tells_from (g.C.CountedLeaves.text c.args.source.now) (form_of c.args.expr.now) (front_of c.args.places.now) (drop 1 c.args.places.now) c.args.k c.requires.stands.front c.requires.unknown c.requires.stands.tells) in
    λ κs l. (omega arith, (l.0, (l.1, (c.requires.well_formed, (c.requires.below, (c.requires.sound, (c.requires.kept, (below, tells))))))))

pub reading::look-returns-clause-stands : goal.reading::look-returns-clause-stands
reading::look-returns-clause-stands g t c =
    let put : c.put_front.new.places ≡ with_front (take 1 c.args.places.now ++ c.find-found.new.places) (front_at c.find-found.result)
    = c.put_front.ensures ∙ ap (λ p. with_front (p ++ c.find-found.new.places) c.front_at-front.result) c.split_at_mut-below.ensures.front ∙ ap (with_front (take 1 c.args.places.now ++ c.find-found.new.places)) c.front_at-front.ensures in
    let len : length c.find-found.new.places ≡ length (drop 1 c.args.places.now) = c.find-found.ensures.len ∙ ap length c.split_at_mut-below.ensures.back in
    subst (Stands (g.C.CountedLeaves.text c.args.source.now) (form_of c.args.expr.now)) (sym put)
    (restand_below (g.C.CountedLeaves.text c.args.source.now) (form_of c.args.expr.now) c.args.places.now c.find-found.new.places (front_at c.find-found.result) c.requires.stands (front_found (concordance (g.C.CountedLeaves.text c.args.source.now) (form_of c.args.expr.now)) (concordance_rises (g.C.CountedLeaves.text c.args.source.now) (form_of c.args.expr.now)) c.args.k c.find-found.result c.find-found.ensures.answer) len c.find-found.ensures.stands c.find-found.ensures.tells)

pub reading::look-returns-clause-cost : goal.reading::look-returns-clause-cost
reading::look-returns-clause-cost g t c =
    let put : c.put_front.new.places ≡ with_front (take 1 c.args.places.now ++ c.find-found.new.places) (front_at c.find-found.result)
    = c.put_front.ensures ∙ ap (λ p. with_front (p ++ c.find-found.new.places) c.front_at-front.result) c.split_at_mut-below.ensures.front ∙ ap (with_front (take 1 c.args.places.now ++ c.find-found.new.places)) c.front_at-front.ensures in
    let spent = subst (λ p. (g.C.CountedLeaves.count c.find-found.new.counter) + cost_below (g.C.CountedLeaves.text c.args.source.now) (g.C.CountedLeaves.most c.args.source.now) (form_of c.args.expr.now) c.find-found.new.places ≤ (g.C.CountedLeaves.count c.args.counter.now) + cost_below (g.C.CountedLeaves.text c.args.source.now) (g.C.CountedLeaves.most c.args.source.now) (form_of c.args.expr.now) p + find_cost (g.C.CountedLeaves.text c.args.source.now) (g.C.CountedLeaves.most c.args.source.now) (form_of c.args.expr.now) c.args.k c.find-found.result) c.split_at_mut-below.ensures.back c.find-found.ensures.cost in
    let some = some_place (g.C.CountedLeaves.text c.args.source.now) (form_of c.args.expr.now) c.args.places.now (StandBelow (g.C.CountedLeaves.text c.args.source.now) (form_of c.args.expr.now) (drop 1 c.args.places.now)) c.requires.stands in
    subst (λ p. (g.C.CountedLeaves.count c.find-found.new.counter) + cost_left (g.C.CountedLeaves.text c.args.source.now) (g.C.CountedLeaves.most c.args.source.now) (form_of c.args.expr.now) p ≤ (g.C.CountedLeaves.count c.args.counter.now) + cost_left (g.C.CountedLeaves.text c.args.source.now) (g.C.CountedLeaves.most c.args.source.now) (form_of c.args.expr.now) c.args.places.now) (sym put)
    (look_cost (g.C.CountedLeaves.text c.args.source.now) (g.C.CountedLeaves.most c.args.source.now) (form_of c.args.expr.now) c.args.places.now c.find-found.new.places c.args.k c.find-found.result some c.requires.unknown c.find-found.ensures.answer (g.C.CountedLeaves.count c.find-found.new.counter) (g.C.CountedLeaves.count c.args.counter.now) spent)

pub reading::node_back-returns-in_err-member-clause-answer : goal.reading::node_back-returns-in_err-member-clause-answer
reading::node_back-returns-in_err-member-clause-answer g t c =
    c.from_residual.ensures ∙ sym (backs_none (concordance (g.C.CountedLeaves.text c.args.source.now) (form_of c.args.expr.now)) (concordance_rises (g.C.CountedLeaves.text c.args.source.now) (form_of c.args.expr.now)) (start_at c.args.places.now) c.args.k (sym c.in_err-member.ensures.answer))

pub reading::node_back-returns-then-k-member-clause-answer : goal.reading::node_back-returns-then-k-member-clause-answer
reading::node_back-returns-then-k-member-clause-answer g t c =
    let first = first_left (concordance (g.C.CountedLeaves.text c.args.source.now) (form_of c.args.expr.now)) (concordance_rises (g.C.CountedLeaves.text c.args.source.now) (form_of c.args.expr.now)) (start_at c.args.places.now) c.in_ok-member.member (sym c.in_ok-member.ensures.answer) in
    let ends : c.in_ok-member.member.end ≡ c.member.inside.end = sym (ap (λ (x : Extent). x.end) c.member.view_is) in
    let lt : c.args.k < c.in_ok-member.member.end = omega (arith, c.if-k-member.true) in
    sym (backs_before (concordance (g.C.CountedLeaves.text c.args.source.now) (form_of c.args.expr.now)) (concordance_rises (g.C.CountedLeaves.text c.args.source.now) (form_of c.args.expr.now)) (start_at c.args.places.now) c.args.k c.in_ok-member.member first lt)

pub reading::node_back-loop-next-init : goal.reading::node_back-loop-next-init
reading::node_back-loop-next-init g t c =
    let first = first_left (concordance (g.C.CountedLeaves.text c.args.source.now) (form_of c.args.expr.now)) (concordance_rises (g.C.CountedLeaves.text c.args.source.now) (form_of c.args.expr.now)) (start_at c.args.places.now) c.in_ok-member.member (sym c.in_ok-member.ensures.answer) in
    let ends : c.in_ok-member.member.end ≡ c.member.inside.end = sym (ap (λ (x : Extent). x.end) c.member.view_is) in
    record {
      stands = c.start.ensures.stands;
      on = c.in_ok-member.ensures.on c.requires.node;
      near = omega (arith, c.if-k-member.false);
      counted = c.start.ensures.counted;
      cost = c.start.ensures.cost;
      answer = backs_from_first (concordance (g.C.CountedLeaves.text c.args.source.now) (form_of c.args.expr.now)) (concordance_rises (g.C.CountedLeaves.text c.args.source.now) (form_of c.args.expr.now)) (start_at c.args.places.now) c.args.k c.in_ok-member.member first;
      within = c.in_ok-member.ensures.within;
    }

pub reading::node_back-loop-next-smaller : goal.reading::node_back-loop-next-smaller
reading::node_back-loop-next-smaller g t c =
    let found : first_start (concordance (g.C.CountedLeaves.text c.args.source.now) (form_of c.args.expr.now)) (c.loop-next.member.start + 1) ≡ Some c.in-Some.next = sym c.in-Some.ensures.answer in
    let next = first_found (concordance (g.C.CountedLeaves.text c.args.source.now) (form_of c.args.expr.now)) (concordance_rises (g.C.CountedLeaves.text c.args.source.now) (form_of c.args.expr.now)) (c.loop-next.member.start + 1) c.in-Some.next found in
    let later = next.left in
    let is_member = next.member in
    let within = within_text (g.C.CountedLeaves.text c.args.source.now) (form_of c.args.expr.now) c.in-Some.next c.requires.sound is_member in
    let proper = proper_text (g.C.CountedLeaves.text c.args.source.now) (form_of c.args.expr.now) c.in-Some.next is_member in
    let starts : c.in-Some.next.start ≡ c.next-in-Some.inside.start = sym (ap (λ (x : Extent). x.start) c.next-in-Some.view_is) in
    let ends : c.in-Some.next.end ≡ c.next-in-Some.inside.end = sym (ap (λ (x : Extent). x.end) c.next-in-Some.view_is) in
    let tested : c.in-Some.next.end ≡ c.next.inside.end = sym (ap (λ (x : Extent). x.end) c.next.view_is) in
    omega arith

pub reading::node_back-loop-next-preserved : goal.reading::node_back-loop-next-preserved
reading::node_back-loop-next-preserved g t c =
    let found : first_start (concordance (g.C.CountedLeaves.text c.args.source.now) (form_of c.args.expr.now)) (c.loop-next.member.start + 1) ≡ Some c.in-Some.next = sym c.in-Some.ensures.answer in
    let next = first_found (concordance (g.C.CountedLeaves.text c.args.source.now) (form_of c.args.expr.now)) (concordance_rises (g.C.CountedLeaves.text c.args.source.now) (form_of c.args.expr.now)) (c.loop-next.member.start + 1) c.in-Some.next found in
    let later = next.left in
    let is_member = next.member in
    let within = within_text (g.C.CountedLeaves.text c.args.source.now) (form_of c.args.expr.now) c.in-Some.next c.requires.sound is_member in
    let proper = proper_text (g.C.CountedLeaves.text c.args.source.now) (form_of c.args.expr.now) c.in-Some.next is_member in
    let starts : c.in-Some.next.start ≡ c.next-in-Some.inside.start = sym (ap (λ (x : Extent). x.start) c.next-in-Some.view_is) in
    let ends : c.in-Some.next.end ≡ c.next-in-Some.inside.end = sym (ap (λ (x : Extent). x.end) c.next-in-Some.view_is) in
    let tested : c.in-Some.next.end ≡ c.next.inside.end = sym (ap (λ (x : Extent). x.end) c.next.view_is) in
    let has = first_member (concordance (g.C.CountedLeaves.text c.args.source.now) (form_of c.args.expr.now)) c.loop-next.member.start c.loop-next.member (member_is (concordance (g.C.CountedLeaves.text c.args.source.now) (form_of c.args.expr.now)) (front_of c.loop-next.places) c.loop-next.member c.loop-next.invariant.stands.front c.loop-next.invariant.on) in
    let near : c.in-Some.next.end ≤ c.args.k = omega (arith, c.if-k-next.false) in
    let asked : asked_of (On c.in-Some.next) ≡ asked_of (front_of c.peek.new.places) = sym (ap asked_of c.in-Some.ensures.front) in
    let stands = restand_told (g.C.CountedLeaves.text c.args.source.now) (form_of c.args.expr.now) c.peek.new.places (On c.in-Some.next) c.peek.ensures.stands (first_itself (concordance (g.C.CountedLeaves.text c.args.source.now) (form_of c.args.expr.now)) (concordance_rises (g.C.CountedLeaves.text c.args.source.now) (form_of c.args.expr.now)) c.in-Some.next is_member) asked in
    let some = some_place (g.C.CountedLeaves.text c.args.source.now) (form_of c.args.expr.now) c.peek.new.places (StandBelow (g.C.CountedLeaves.text c.args.source.now) (form_of c.args.expr.now) (drop 1 c.peek.new.places)) c.peek.ensures.stands in
    record {
      stands = subst (Stands (g.C.CountedLeaves.text c.args.source.now) (form_of c.args.expr.now)) (sym c.put_front.ensures) stands;
      on = ap (λ p. member_of (front_of p)) c.put_front.ensures ∙ ap member_of (front_with c.peek.new.places (On c.in-Some.next) some) ∙ ap Some (sym c.next-in-Some.view_is);
      near = omega arith;
      counted = omega (arith, c.loop-next.invariant.counted, c.peek.ensures.counted);
      cost = omega (arith, c.loop-next.invariant.cost, c.peek.ensures.cost, ap (cost_left (g.C.CountedLeaves.text c.args.source.now) (g.C.CountedLeaves.most c.args.source.now) (form_of c.args.expr.now)) c.put_front.ensures, told_cost (g.C.CountedLeaves.text c.args.source.now) (g.C.CountedLeaves.most c.args.source.now) (form_of c.args.expr.now) c.peek.new.places (On c.in-Some.next) some asked);
      answer = subst (λ n. last_end (members_from (concordance (g.C.CountedLeaves.text c.args.source.now) (form_of c.args.expr.now)) n) c.args.k ≡ last_end (left_to (g.C.CountedLeaves.text c.args.source.now) (form_of c.args.expr.now) c.args.places.now) c.args.k) starts (backs_onward (concordance (g.C.CountedLeaves.text c.args.source.now) (form_of c.args.expr.now)) (concordance_rises (g.C.CountedLeaves.text c.args.source.now) (form_of c.args.expr.now)) c.args.k c.loop-next.member c.in-Some.next has next near ∙ c.loop-next.invariant.answer);
      within = omega arith;
    }

pub reading::node_back-returns-clause-answer : goal.reading::node_back-returns-clause-answer
reading::node_back-returns-clause-answer g t c =
    let has = first_member (concordance (g.C.CountedLeaves.text c.args.source.now) (form_of c.args.expr.now)) c.loop-next.member.start c.loop-next.member (member_is (concordance (g.C.CountedLeaves.text c.args.source.now) (form_of c.args.expr.now)) (front_of c.loop-next.places) c.loop-next.member c.loop-next.invariant.stands.front c.loop-next.invariant.on) in
    let later : (d : Extent) → Has (concordance (g.C.CountedLeaves.text c.args.source.now) (form_of c.args.expr.now)) d → c.loop-next.member.start + 1 ≤ d.start → c.args.k < d.end
    = elim c.match-peek.branch [
      | reading::node_back-in-Some+then-k-next w ↦ later_found (concordance (g.C.CountedLeaves.text c.args.source.now) (form_of c.args.expr.now)) (concordance_rises (g.C.CountedLeaves.text c.args.source.now) (form_of c.args.expr.now)) (c.loop-next.member.start + 1) c.args.k w.in-Some.next (sym w.in-Some.ensures.answer) (let ends : w.in-Some.next.end ≡ w.next.inside.end = sym (ap (λ (x : Extent). x.end) w.next.view_is) in omega (arith, w.if-k-next.true))
      | reading::node_back-in_default w ↦ later_none (concordance (g.C.CountedLeaves.text c.args.source.now) (form_of c.args.expr.now)) (c.loop-next.member.start + 1) c.args.k (sym c.peek.ensures.answer ∙ w.in_default.is)
    ] in
    sym (backs_here (concordance (g.C.CountedLeaves.text c.args.source.now) (form_of c.args.expr.now)) (concordance_rises (g.C.CountedLeaves.text c.args.source.now) (form_of c.args.expr.now)) c.args.k c.loop-next.member has c.loop-next.invariant.near later) ∙ c.loop-next.invariant.answer

pub reading::node_end-returns-in_err-member-clause-answer : goal.reading::node_end-returns-in_err-member-clause-answer
reading::node_end-returns-in_err-member-clause-answer g t c =
    c.from_residual.ensures ∙ sym (ends_none (concordance (g.C.CountedLeaves.text c.args.source.now) (form_of c.args.expr.now)) (concordance_rises (g.C.CountedLeaves.text c.args.source.now) (form_of c.args.expr.now)) (start_at c.args.places.now) c.args.k (sym c.in_err-member.ensures.answer))

pub reading::node_end-loop-member-init : goal.reading::node_end-loop-member-init
reading::node_end-loop-member-init g t c =
    let first = first_left (concordance (g.C.CountedLeaves.text c.args.source.now) (form_of c.args.expr.now)) (concordance_rises (g.C.CountedLeaves.text c.args.source.now) (form_of c.args.expr.now)) (start_at c.args.places.now) c.in_ok-member.member (sym c.in_ok-member.ensures.answer) in
    record {
      stands = c.start.ensures.stands;
      on = c.in_ok-member.ensures.on c.requires.node;
      counted = c.start.ensures.counted;
      cost = c.start.ensures.cost;
      answer = ends_from_first (concordance (g.C.CountedLeaves.text c.args.source.now) (form_of c.args.expr.now)) (concordance_rises (g.C.CountedLeaves.text c.args.source.now) (form_of c.args.expr.now)) (start_at c.args.places.now) c.args.k c.in_ok-member.member first;
      within = c.in_ok-member.ensures.within;
    }

pub reading::node_end-returns-in_err-member-2-clause-answer : goal.reading::node_end-returns-in_err-member-2-clause-answer
reading::node_end-returns-in_err-member-2-clause-answer g t c =
    c.from_residual-in_err-member-2.ensures ∙ sym c.in_err-member-2.ensures.onward ∙ c.loop-member.invariant.answer

pub reading::node_end-returns-in_err-member-2-clause-moved : goal.reading::node_end-returns-in_err-member-2-clause-moved
reading::node_end-returns-in_err-member-2-clause-moved g t c =
    moved_on (front_of c.onward.new.places) c.from_residual-in_err-member-2.result (c.in_err-member-2.ensures.on ∙ sym c.from_residual-in_err-member-2.ensures)

pub reading::node_end-loop-member-smaller : goal.reading::node_end-loop-member-smaller
reading::node_end-loop-member-smaller g t c =
    let has = first_member (concordance (g.C.CountedLeaves.text c.args.source.now) (form_of c.args.expr.now)) c.loop-member.member.start c.loop-member.member (member_is (concordance (g.C.CountedLeaves.text c.args.source.now) (form_of c.args.expr.now)) (front_of c.loop-member.places) c.loop-member.member c.loop-member.invariant.stands.front c.loop-member.invariant.on) in
    let proper = proper_text (g.C.CountedLeaves.text c.args.source.now) (form_of c.args.expr.now) c.loop-member.member has in
    omega (arith, c.in_ok-member-2.ensures.onward.1, c.loop-member.invariant.within, proper)

pub reading::node_end-loop-member-preserved : goal.reading::node_end-loop-member-preserved
reading::node_end-loop-member-preserved g t c =
    let goes = c.in_ok-member-2.ensures.onward in
    record {
      stands = c.onward.ensures.stands;
      on = c.in_ok-member-2.ensures.on;
      counted = omega (arith, c.loop-member.invariant.counted, c.onward.ensures.counted);
      cost = omega (arith, c.loop-member.invariant.cost, c.onward.ensures.cost);
      answer = goes.2 ∙ c.loop-member.invariant.answer;
      within = within_first (g.C.CountedLeaves.text c.args.source.now) (form_of c.args.expr.now) c.requires.sound c.in_ok-member-2.member.start (Some c.in_ok-member-2.member) (sym goes.0);
    }

pub reading::node_end-returns-clause-answer : goal.reading::node_end-returns-clause-answer
reading::node_end-returns-clause-answer g t c =
    let starts : c.loop-member.member.start ≡ c.member.inside.start = sym (ap (λ (x : Extent). x.start) c.member.view_is) in
    let ends : c.loop-member.member.end ≡ c.member.inside.end = sym (ap (λ (x : Extent). x.end) c.member.view_is) in
    let has = first_member (concordance (g.C.CountedLeaves.text c.args.source.now) (form_of c.args.expr.now)) c.loop-member.member.start c.loop-member.member (member_is (concordance (g.C.CountedLeaves.text c.args.source.now) (form_of c.args.expr.now)) (front_of c.loop-member.places) c.loop-member.member c.loop-member.invariant.stands.front c.loop-member.invariant.on) in
    let far : c.args.k ≤ c.loop-member.member.end = omega (arith, c.loop-member-test.false) in
    sym (ends_here (concordance (g.C.CountedLeaves.text c.args.source.now) (form_of c.args.expr.now)) (concordance_rises (g.C.CountedLeaves.text c.args.source.now) (form_of c.args.expr.now)) c.args.k c.loop-member.member has far) ∙ c.loop-member.invariant.answer

pub reading::node_end-returns-clause-moved : goal.reading::node_end-returns-clause-moved
reading::node_end-returns-clause-moved g t c = moved_on (front_of c.loop-member.places) (Some c.loop-member.member) c.loop-member.invariant.on

pub reading::start-returns-in-Width-clause-answer : goal.reading::start-returns-in-Width-clause-answer
reading::start-returns-in-Width-clause-answer g t c =
    c.width_first_start.ensures (g.C.CountedLeaves.text c.args.source.now) record { first_is = sym c.span.ensures.first; next_is = sym c.span.ensures.next } ∙ ap (λ l. first_start l c.args.k) (width_left (g.C.CountedLeaves.text c.args.source.now) (form_of c.args.expr.now) c.in-Width.width (form-Width c.args.expr.now c.in-Width.width c.in-Width.is) c.args.places.now c.requires.stands)

pub reading::start-returns-in-Width-clause-within : goal.reading::start-returns-in-Width-clause-within
reading::start-returns-in-Width-clause-within g t c =
    within_first (g.C.CountedLeaves.text c.args.source.now) (width c.in-Width.width) c.requires.sound c.args.k c.width_first_start.result (c.width_first_start.ensures (g.C.CountedLeaves.text c.args.source.now) record { first_is = sym c.span.ensures.first; next_is = sym c.span.ensures.next })

pub reading::start-returns-in-Some : goal.reading::start-returns-in-Some
reading::start-returns-in-Some g t c =
    let bounded = bounded_text (g.C.CountedLeaves.text c.args.source.now) (form_of c.args.expr.now) c.requires.sound in
    let at = subst (IsFrontOf (concordance (g.C.CountedLeaves.text c.args.source.now) (form_of c.args.expr.now))) (sym c.front_of.ensures) c.requires.stands.front in
    let told = subst (λ f. IsTold (concordance (g.C.CountedLeaves.text c.args.source.now) (form_of c.args.expr.now)) f c.args.k c.in-Some.front) c.front_of.ensures (c.in-Some.ensures.told (concordance (g.C.CountedLeaves.text c.args.source.now) (form_of c.args.expr.now)) (concordance_rises (g.C.CountedLeaves.text c.args.source.now) (form_of c.args.expr.now)) bounded at) in
    let asked = c.in-Some.ensures.asked ∙ ap asked_of c.front_of.ensures in
    let some = some_place (g.C.CountedLeaves.text c.args.source.now) (form_of c.args.expr.now) c.args.places.now (StandBelow (g.C.CountedLeaves.text c.args.source.now) (form_of c.args.expr.now) (drop 1 c.args.places.now)) c.requires.stands in
    let front : front_of c.put_front.new.places ≡ c.in-Some.front = ap front_of c.put_front.ensures ∙ front_with c.args.places.now c.in-Some.front some in
    let answer : c.member_of-member.result ≡ first_start (left_to (g.C.CountedLeaves.text c.args.source.now) (form_of c.args.expr.now) c.args.places.now) c.args.k = c.member_of-member.ensures ∙ told.answer in
    let moved : start_at c.put_front.new.places ≡ start_or_end c.member_of-member.result = ap start_left front ∙ told.moved ∙ ap start_or_end (sym c.member_of-member.ensures) in
    record {
      answer = answer;
      moved = omega arith;
      within = within_left (g.C.CountedLeaves.text c.args.source.now) (form_of c.args.expr.now) c.requires.sound (start_at c.args.places.now) c.args.k c.member_of-member.result answer;
      stands = subst (Stands (g.C.CountedLeaves.text c.args.source.now) (form_of c.args.expr.now)) (sym c.put_front.ensures) (restand_told (g.C.CountedLeaves.text c.args.source.now) (form_of c.args.expr.now) c.args.places.now c.in-Some.front c.requires.stands told.kept asked);
      on = λ _. ap member_of front ∙ sym c.member_of-member.ensures;
      counted = omega arith;
      cost = omega (arith, ap (cost_left (g.C.CountedLeaves.text c.args.source.now) (g.C.CountedLeaves.most c.args.source.now) (form_of c.args.expr.now)) c.put_front.ensures, told_cost (g.C.CountedLeaves.text c.args.source.now) (g.C.CountedLeaves.most c.args.source.now) (form_of c.args.expr.now) c.args.places.now c.in-Some.front some asked);
    }

pub reading::start-returns-in-None : goal.reading::start-returns-in-None
reading::start-returns-in-None g t c =
    let unknown = subst (λ f. IsUnknown f c.args.k) c.front_of.ensures (c.in-None.ensures.unknown refl) in
    let le = unknown_from (front_of c.args.places.now) c.args.k unknown in
    let moved : start_at c.look.new.places ≡ start_or_end c.look.result = ap start_left c.look.ensures.front ∙ start_front c.look.result in
    record {
      answer = c.look.ensures.answer ∙ sym (agrees_at (concordance (g.C.CountedLeaves.text c.args.source.now) (form_of c.args.expr.now)) (start_at c.args.places.now) c.args.k le);
      moved = omega arith;
      within = within_first (g.C.CountedLeaves.text c.args.source.now) (form_of c.args.expr.now) c.requires.sound c.args.k c.look.result c.look.ensures.answer;
      stands = c.look.ensures.stands;
      on = λ _. ap member_of c.look.ensures.front ∙ member_front c.look.result;
      counted = c.look.ensures.counted;
      cost = c.look.ensures.cost;
    }

-- the places and the costs of chains
pub chains::one_find-returns-clause-stands : goal.chains::one_find-returns-clause-stands
chains::one_find-returns-clause-stands g t c =
    stands_joined (g.C.CountedLeaves.text c.args.source.now) c.args.operands.now c.in-Some.others.now c.in-Some.operand.now c.in-Some.ensures.cases.0 c.start-answer.new.places c.one_find.new.places c.start-answer.ensures.stands c.one_find.ensures.stands

pub chains::one_find-returns-clause-len : goal.chains::one_find-returns-clause-len
chains::one_find-returns-clause-len g t c =
    let here = operand_at (g.C.CountedLeaves.text c.args.source.now) c.args.operands.now c.in-Some.others.now c.in-Some.operand.now c.in-Some.ensures.cases.0 c.args.places.now c.split_at_mut-mine.result.0.now c.split_at_mut-mine.result.1.now c.size_of-size.result c.requires.well_formed c.requires.stands c.size_of-size.ensures c.split_at_mut-mine.ensures.front c.split_at_mut-mine.ensures.back in
    joined_length (g.C.CountedLeaves.text c.args.source.now) (form_of c.in-Some.operand.now) c.args.places.now c.split_at_mut-mine.result.0.now c.split_at_mut-mine.result.1.now c.size_of-size.result c.split_at_mut-mine.ensures.front c.split_at_mut-mine.ensures.back here.stands c.start-answer.new.places c.one_find.new.places c.start-answer.ensures.stands c.one_find.ensures.len

pub chains::one_find-returns-clause-cost : goal.chains::one_find-returns-clause-cost
chains::one_find-returns-clause-cost g t c =
    let here = operand_at (g.C.CountedLeaves.text c.args.source.now) c.args.operands.now c.in-Some.others.now c.in-Some.operand.now c.in-Some.ensures.cases.0 c.args.places.now c.split_at_mut-mine.result.0.now c.split_at_mut-mine.result.1.now c.size_of-size.result c.requires.well_formed c.requires.stands c.size_of-size.ensures c.split_at_mut-mine.ensures.front c.split_at_mut-mine.ensures.back in
    chain_cost (g.C.CountedLeaves.text c.args.source.now) (g.C.CountedLeaves.most c.args.source.now) c.args.operands.now c.in-Some.others.now c.in-Some.operand.now c.in-Some.ensures.cases.0 c.args.places.now c.split_at_mut-mine.result.0.now c.split_at_mut-mine.result.1.now c.size_of-size.result c.split_at_mut-mine.ensures.front c.split_at_mut-mine.ensures.back here.stands c.start-answer.new.places c.one_find.new.places c.start-answer.ensures.stands (g.C.CountedLeaves.count c.args.counter.now) (g.C.CountedLeaves.count c.start-answer.new.counter) (g.C.CountedLeaves.count c.one_find.new.counter) c.start-answer.ensures.cost c.one_find.ensures.cost

pub chains::both_ends-returns-in_err-answer-clause-stands : goal.chains::both_ends-returns-in_err-answer-clause-stands
chains::both_ends-returns-in_err-answer-clause-stands g t c =
    stands_joined (g.C.CountedLeaves.text c.args.source.now) c.args.operands.now c.in-Some.others.now c.in-Some.operand.now c.in-Some.ensures.cases.0 c.start.new.places c.split_at_mut-mine.result.1.now c.start.ensures.stands (others_stand (g.C.CountedLeaves.text c.args.source.now) c.args.operands.now c.in-Some.others.now c.in-Some.operand.now c.in-Some.ensures.cases.0 c.args.places.now c.split_at_mut-mine.result.1.now c.size_of-size.result c.requires.stands c.size_of-size.ensures c.split_at_mut-mine.ensures.back)

pub chains::both_ends-returns-in_err-answer-clause-len : goal.chains::both_ends-returns-in_err-answer-clause-len
chains::both_ends-returns-in_err-answer-clause-len g t c =
    let here = operand_at (g.C.CountedLeaves.text c.args.source.now) c.args.operands.now c.in-Some.others.now c.in-Some.operand.now c.in-Some.ensures.cases.0 c.args.places.now c.split_at_mut-mine.result.0.now c.split_at_mut-mine.result.1.now c.size_of-size.result c.requires.well_formed c.requires.stands c.size_of-size.ensures c.split_at_mut-mine.ensures.front c.split_at_mut-mine.ensures.back in
    joined_length (g.C.CountedLeaves.text c.args.source.now) (form_of c.in-Some.operand.now) c.args.places.now c.split_at_mut-mine.result.0.now c.split_at_mut-mine.result.1.now c.size_of-size.result c.split_at_mut-mine.ensures.front c.split_at_mut-mine.ensures.back here.stands c.start.new.places c.split_at_mut-mine.result.1.now c.start.ensures.stands refl

pub chains::both_ends-returns-in_err-answer-clause-cost : goal.chains::both_ends-returns-in_err-answer-clause-cost
chains::both_ends-returns-in_err-answer-clause-cost g t c =
    let here = operand_at (g.C.CountedLeaves.text c.args.source.now) c.args.operands.now c.in-Some.others.now c.in-Some.operand.now c.in-Some.ensures.cases.0 c.args.places.now c.split_at_mut-mine.result.0.now c.split_at_mut-mine.result.1.now c.size_of-size.result c.requires.well_formed c.requires.stands c.size_of-size.ensures c.split_at_mut-mine.ensures.front c.split_at_mut-mine.ensures.back in
    chain_cost (g.C.CountedLeaves.text c.args.source.now) (g.C.CountedLeaves.most c.args.source.now) c.args.operands.now c.in-Some.others.now c.in-Some.operand.now c.in-Some.ensures.cases.0 c.args.places.now c.split_at_mut-mine.result.0.now c.split_at_mut-mine.result.1.now c.size_of-size.result c.split_at_mut-mine.ensures.front c.split_at_mut-mine.ensures.back here.stands c.start.new.places c.split_at_mut-mine.result.1.now c.start.ensures.stands (g.C.CountedLeaves.count c.args.counter.now) (g.C.CountedLeaves.count c.start.new.counter) (g.C.CountedLeaves.count c.start.new.counter) c.start.ensures.cost (le_refl ((g.C.CountedLeaves.count c.start.new.counter) + costs_left (g.C.CountedLeaves.text c.args.source.now) (g.C.CountedLeaves.most c.args.source.now) (operand_forms c.in-Some.others.now) c.split_at_mut-mine.result.1.now))

pub chains::both_ends-returns-clause-stands : goal.chains::both_ends-returns-clause-stands
chains::both_ends-returns-clause-stands g t c =
    stands_joined (g.C.CountedLeaves.text c.args.source.now) c.args.operands.now c.in-Some.others.now c.in-Some.operand.now c.in-Some.ensures.cases.0 c.start.new.places c.both_ends.new.places c.start.ensures.stands c.both_ends.ensures.stands

pub chains::both_ends-returns-clause-len : goal.chains::both_ends-returns-clause-len
chains::both_ends-returns-clause-len g t c =
    let here = operand_at (g.C.CountedLeaves.text c.args.source.now) c.args.operands.now c.in-Some.others.now c.in-Some.operand.now c.in-Some.ensures.cases.0 c.args.places.now c.split_at_mut-mine.result.0.now c.split_at_mut-mine.result.1.now c.size_of-size.result c.requires.well_formed c.requires.stands c.size_of-size.ensures c.split_at_mut-mine.ensures.front c.split_at_mut-mine.ensures.back in
    joined_length (g.C.CountedLeaves.text c.args.source.now) (form_of c.in-Some.operand.now) c.args.places.now c.split_at_mut-mine.result.0.now c.split_at_mut-mine.result.1.now c.size_of-size.result c.split_at_mut-mine.ensures.front c.split_at_mut-mine.ensures.back here.stands c.start.new.places c.both_ends.new.places c.start.ensures.stands c.both_ends.ensures.len

pub chains::both_ends-returns-clause-cost : goal.chains::both_ends-returns-clause-cost
chains::both_ends-returns-clause-cost g t c =
    let here = operand_at (g.C.CountedLeaves.text c.args.source.now) c.args.operands.now c.in-Some.others.now c.in-Some.operand.now c.in-Some.ensures.cases.0 c.args.places.now c.split_at_mut-mine.result.0.now c.split_at_mut-mine.result.1.now c.size_of-size.result c.requires.well_formed c.requires.stands c.size_of-size.ensures c.split_at_mut-mine.ensures.front c.split_at_mut-mine.ensures.back in
    chain_cost (g.C.CountedLeaves.text c.args.source.now) (g.C.CountedLeaves.most c.args.source.now) c.args.operands.now c.in-Some.others.now c.in-Some.operand.now c.in-Some.ensures.cases.0 c.args.places.now c.split_at_mut-mine.result.0.now c.split_at_mut-mine.result.1.now c.size_of-size.result c.split_at_mut-mine.ensures.front c.split_at_mut-mine.ensures.back here.stands c.start.new.places c.both_ends.new.places c.start.ensures.stands (g.C.CountedLeaves.count c.args.counter.now) (g.C.CountedLeaves.count c.start.new.counter) (g.C.CountedLeaves.count c.both_ends.new.counter) c.start.ensures.cost c.both_ends.ensures.cost

pub chains::both_starts-returns-in_err-answer-clause-stands : goal.chains::both_starts-returns-in_err-answer-clause-stands
chains::both_starts-returns-in_err-answer-clause-stands g t c =
    stands_joined (g.C.CountedLeaves.text c.args.source.now) c.args.operands.now c.in-Some.others.now c.in-Some.operand.now c.in-Some.ensures.cases.0 c.back.new.places c.split_at_mut-mine.result.1.now c.back.ensures.stands (others_stand (g.C.CountedLeaves.text c.args.source.now) c.args.operands.now c.in-Some.others.now c.in-Some.operand.now c.in-Some.ensures.cases.0 c.args.places.now c.split_at_mut-mine.result.1.now c.size_of-size.result c.requires.stands c.size_of-size.ensures c.split_at_mut-mine.ensures.back)

pub chains::both_starts-returns-in_err-answer-clause-len : goal.chains::both_starts-returns-in_err-answer-clause-len
chains::both_starts-returns-in_err-answer-clause-len g t c =
    let here = operand_at (g.C.CountedLeaves.text c.args.source.now) c.args.operands.now c.in-Some.others.now c.in-Some.operand.now c.in-Some.ensures.cases.0 c.args.places.now c.split_at_mut-mine.result.0.now c.split_at_mut-mine.result.1.now c.size_of-size.result c.requires.well_formed c.requires.stands c.size_of-size.ensures c.split_at_mut-mine.ensures.front c.split_at_mut-mine.ensures.back in
    joined_length (g.C.CountedLeaves.text c.args.source.now) (form_of c.in-Some.operand.now) c.args.places.now c.split_at_mut-mine.result.0.now c.split_at_mut-mine.result.1.now c.size_of-size.result c.split_at_mut-mine.ensures.front c.split_at_mut-mine.ensures.back here.stands c.back.new.places c.split_at_mut-mine.result.1.now c.back.ensures.stands refl

pub chains::both_starts-returns-in_err-answer-clause-cost : goal.chains::both_starts-returns-in_err-answer-clause-cost
chains::both_starts-returns-in_err-answer-clause-cost g t c =
    let here = operand_at (g.C.CountedLeaves.text c.args.source.now) c.args.operands.now c.in-Some.others.now c.in-Some.operand.now c.in-Some.ensures.cases.0 c.args.places.now c.split_at_mut-mine.result.0.now c.split_at_mut-mine.result.1.now c.size_of-size.result c.requires.well_formed c.requires.stands c.size_of-size.ensures c.split_at_mut-mine.ensures.front c.split_at_mut-mine.ensures.back in
    chain_cost_more (g.C.CountedLeaves.text c.args.source.now) (g.C.CountedLeaves.most c.args.source.now) c.args.operands.now c.in-Some.others.now c.in-Some.operand.now c.in-Some.ensures.cases.0 c.args.places.now c.split_at_mut-mine.result.0.now c.split_at_mut-mine.result.1.now c.size_of-size.result c.split_at_mut-mine.ensures.front c.split_at_mut-mine.ensures.back here.stands c.back.new.places c.split_at_mut-mine.result.1.now c.back.ensures.stands (g.C.CountedLeaves.count c.args.counter.now) (g.C.CountedLeaves.count c.back.new.counter) (g.C.CountedLeaves.count c.back.new.counter) (2 * g.C.CountedLeaves.most c.args.source.now) c.back.ensures.cost (le-add (g.C.CountedLeaves.count c.back.new.counter) (costs_left (g.C.CountedLeaves.text c.args.source.now) (g.C.CountedLeaves.most c.args.source.now) (operand_forms c.in-Some.others.now) c.split_at_mut-mine.result.1.now) (forms_count (operand_forms c.in-Some.others.now) * (2 * g.C.CountedLeaves.most c.args.source.now)))

pub chains::both_starts-returns-clause-stands : goal.chains::both_starts-returns-clause-stands
chains::both_starts-returns-clause-stands g t c =
    stands_joined (g.C.CountedLeaves.text c.args.source.now) c.args.operands.now c.in-Some.others.now c.in-Some.operand.now c.in-Some.ensures.cases.0 c.back.new.places c.both_starts.new.places c.back.ensures.stands c.both_starts.ensures.stands

pub chains::both_starts-returns-clause-len : goal.chains::both_starts-returns-clause-len
chains::both_starts-returns-clause-len g t c =
    let here = operand_at (g.C.CountedLeaves.text c.args.source.now) c.args.operands.now c.in-Some.others.now c.in-Some.operand.now c.in-Some.ensures.cases.0 c.args.places.now c.split_at_mut-mine.result.0.now c.split_at_mut-mine.result.1.now c.size_of-size.result c.requires.well_formed c.requires.stands c.size_of-size.ensures c.split_at_mut-mine.ensures.front c.split_at_mut-mine.ensures.back in
    joined_length (g.C.CountedLeaves.text c.args.source.now) (form_of c.in-Some.operand.now) c.args.places.now c.split_at_mut-mine.result.0.now c.split_at_mut-mine.result.1.now c.size_of-size.result c.split_at_mut-mine.ensures.front c.split_at_mut-mine.ensures.back here.stands c.back.new.places c.both_starts.new.places c.back.ensures.stands c.both_starts.ensures.len

pub chains::both_starts-returns-clause-cost : goal.chains::both_starts-returns-clause-cost
chains::both_starts-returns-clause-cost g t c =
    let here = operand_at (g.C.CountedLeaves.text c.args.source.now) c.args.operands.now c.in-Some.others.now c.in-Some.operand.now c.in-Some.ensures.cases.0 c.args.places.now c.split_at_mut-mine.result.0.now c.split_at_mut-mine.result.1.now c.size_of-size.result c.requires.well_formed c.requires.stands c.size_of-size.ensures c.split_at_mut-mine.ensures.front c.split_at_mut-mine.ensures.back in
    chain_cost_more (g.C.CountedLeaves.text c.args.source.now) (g.C.CountedLeaves.most c.args.source.now) c.args.operands.now c.in-Some.others.now c.in-Some.operand.now c.in-Some.ensures.cases.0 c.args.places.now c.split_at_mut-mine.result.0.now c.split_at_mut-mine.result.1.now c.size_of-size.result c.split_at_mut-mine.ensures.front c.split_at_mut-mine.ensures.back here.stands c.back.new.places c.both_starts.new.places c.back.ensures.stands (g.C.CountedLeaves.count c.args.counter.now) (g.C.CountedLeaves.count c.back.new.counter) (g.C.CountedLeaves.count c.both_starts.new.counter) (2 * g.C.CountedLeaves.most c.args.source.now) c.back.ensures.cost c.both_starts.ensures.cost

pub chains::seq_find-returns-in_err-first-clause-stands : goal.chains::seq_find-returns-in_err-first-clause-stands
chains::seq_find-returns-in_err-first-clause-stands g t c =
    stands_joined (g.C.CountedLeaves.text c.args.source.now) c.args.operands.now c.in_ok-operand.others.now c.in_ok-operand.operand.now c.in_ok-operand.ensures.cases.0 c.start.new.places c.split_at_mut-mine.result.1.now c.start.ensures.stands (others_stand (g.C.CountedLeaves.text c.args.source.now) c.args.operands.now c.in_ok-operand.others.now c.in_ok-operand.operand.now c.in_ok-operand.ensures.cases.0 c.args.places.now c.split_at_mut-mine.result.1.now c.size_of-size.result c.requires.stands c.size_of-size.ensures c.split_at_mut-mine.ensures.back)

pub chains::seq_find-returns-in_err-first-clause-len : goal.chains::seq_find-returns-in_err-first-clause-len
chains::seq_find-returns-in_err-first-clause-len g t c =
    let here = operand_at (g.C.CountedLeaves.text c.args.source.now) c.args.operands.now c.in_ok-operand.others.now c.in_ok-operand.operand.now c.in_ok-operand.ensures.cases.0 c.args.places.now c.split_at_mut-mine.result.0.now c.split_at_mut-mine.result.1.now c.size_of-size.result c.requires.well_formed c.requires.stands c.size_of-size.ensures c.split_at_mut-mine.ensures.front c.split_at_mut-mine.ensures.back in
    joined_length (g.C.CountedLeaves.text c.args.source.now) (form_of c.in_ok-operand.operand.now) c.args.places.now c.split_at_mut-mine.result.0.now c.split_at_mut-mine.result.1.now c.size_of-size.result c.split_at_mut-mine.ensures.front c.split_at_mut-mine.ensures.back here.stands c.start.new.places c.split_at_mut-mine.result.1.now c.start.ensures.stands refl

pub chains::seq_find-returns-in_err-first-clause-cost : goal.chains::seq_find-returns-in_err-first-clause-cost
chains::seq_find-returns-in_err-first-clause-cost g t c =
    let here = operand_at (g.C.CountedLeaves.text c.args.source.now) c.args.operands.now c.in_ok-operand.others.now c.in_ok-operand.operand.now c.in_ok-operand.ensures.cases.0 c.args.places.now c.split_at_mut-mine.result.0.now c.split_at_mut-mine.result.1.now c.size_of-size.result c.requires.well_formed c.requires.stands c.size_of-size.ensures c.split_at_mut-mine.ensures.front c.split_at_mut-mine.ensures.back in
    chain_cost_spare (g.C.CountedLeaves.text c.args.source.now) (g.C.CountedLeaves.most c.args.source.now) c.args.operands.now c.in_ok-operand.others.now c.in_ok-operand.operand.now c.in_ok-operand.ensures.cases.0 c.args.places.now c.split_at_mut-mine.result.0.now c.split_at_mut-mine.result.1.now c.size_of-size.result c.split_at_mut-mine.ensures.front c.split_at_mut-mine.ensures.back here.stands c.start.new.places c.split_at_mut-mine.result.1.now c.start.ensures.stands (g.C.CountedLeaves.count c.args.counter.now) (g.C.CountedLeaves.count c.start.new.counter) (g.C.CountedLeaves.count c.start.new.counter) (2 * g.C.CountedLeaves.most c.args.source.now) c.start.ensures.cost (le_refl _)

pub chains::seq_find-returns-then-is_empty-clause-stands : goal.chains::seq_find-returns-then-is_empty-clause-stands
chains::seq_find-returns-then-is_empty-clause-stands g t c =
    stands_joined (g.C.CountedLeaves.text c.args.source.now) c.args.operands.now c.in_ok-operand.others.now c.in_ok-operand.operand.now c.in_ok-operand.ensures.cases.0 c.start.new.places c.split_at_mut-mine.result.1.now c.start.ensures.stands (others_stand (g.C.CountedLeaves.text c.args.source.now) c.args.operands.now c.in_ok-operand.others.now c.in_ok-operand.operand.now c.in_ok-operand.ensures.cases.0 c.args.places.now c.split_at_mut-mine.result.1.now c.size_of-size.result c.requires.stands c.size_of-size.ensures c.split_at_mut-mine.ensures.back)

pub chains::seq_find-returns-then-is_empty-clause-len : goal.chains::seq_find-returns-then-is_empty-clause-len
chains::seq_find-returns-then-is_empty-clause-len g t c =
    let here = operand_at (g.C.CountedLeaves.text c.args.source.now) c.args.operands.now c.in_ok-operand.others.now c.in_ok-operand.operand.now c.in_ok-operand.ensures.cases.0 c.args.places.now c.split_at_mut-mine.result.0.now c.split_at_mut-mine.result.1.now c.size_of-size.result c.requires.well_formed c.requires.stands c.size_of-size.ensures c.split_at_mut-mine.ensures.front c.split_at_mut-mine.ensures.back in
    joined_length (g.C.CountedLeaves.text c.args.source.now) (form_of c.in_ok-operand.operand.now) c.args.places.now c.split_at_mut-mine.result.0.now c.split_at_mut-mine.result.1.now c.size_of-size.result c.split_at_mut-mine.ensures.front c.split_at_mut-mine.ensures.back here.stands c.start.new.places c.split_at_mut-mine.result.1.now c.start.ensures.stands refl

pub chains::seq_find-returns-then-is_empty-clause-cost : goal.chains::seq_find-returns-then-is_empty-clause-cost
chains::seq_find-returns-then-is_empty-clause-cost g t c =
    let here = operand_at (g.C.CountedLeaves.text c.args.source.now) c.args.operands.now c.in_ok-operand.others.now c.in_ok-operand.operand.now c.in_ok-operand.ensures.cases.0 c.args.places.now c.split_at_mut-mine.result.0.now c.split_at_mut-mine.result.1.now c.size_of-size.result c.requires.well_formed c.requires.stands c.size_of-size.ensures c.split_at_mut-mine.ensures.front c.split_at_mut-mine.ensures.back in
    chain_cost_spare (g.C.CountedLeaves.text c.args.source.now) (g.C.CountedLeaves.most c.args.source.now) c.args.operands.now c.in_ok-operand.others.now c.in_ok-operand.operand.now c.in_ok-operand.ensures.cases.0 c.args.places.now c.split_at_mut-mine.result.0.now c.split_at_mut-mine.result.1.now c.size_of-size.result c.split_at_mut-mine.ensures.front c.split_at_mut-mine.ensures.back here.stands c.start.new.places c.split_at_mut-mine.result.1.now c.start.ensures.stands (g.C.CountedLeaves.count c.args.counter.now) (g.C.CountedLeaves.count c.start.new.counter) (g.C.CountedLeaves.count c.start.new.counter) (2 * g.C.CountedLeaves.most c.args.source.now) c.start.ensures.cost (le_refl _)

pub chains::seq_find-returns-in_err-tail-clause-stands : goal.chains::seq_find-returns-in_err-tail-clause-stands
chains::seq_find-returns-in_err-tail-clause-stands g t c =
    stands_joined (g.C.CountedLeaves.text c.args.source.now) c.args.operands.now c.in_ok-operand.others.now c.in_ok-operand.operand.now c.in_ok-operand.ensures.cases.0 c.start.new.places c.seq_find.new.places c.start.ensures.stands c.seq_find.ensures.stands

pub chains::seq_find-returns-in_err-tail-clause-len : goal.chains::seq_find-returns-in_err-tail-clause-len
chains::seq_find-returns-in_err-tail-clause-len g t c =
    let here = operand_at (g.C.CountedLeaves.text c.args.source.now) c.args.operands.now c.in_ok-operand.others.now c.in_ok-operand.operand.now c.in_ok-operand.ensures.cases.0 c.args.places.now c.split_at_mut-mine.result.0.now c.split_at_mut-mine.result.1.now c.size_of-size.result c.requires.well_formed c.requires.stands c.size_of-size.ensures c.split_at_mut-mine.ensures.front c.split_at_mut-mine.ensures.back in
    joined_length (g.C.CountedLeaves.text c.args.source.now) (form_of c.in_ok-operand.operand.now) c.args.places.now c.split_at_mut-mine.result.0.now c.split_at_mut-mine.result.1.now c.size_of-size.result c.split_at_mut-mine.ensures.front c.split_at_mut-mine.ensures.back here.stands c.start.new.places c.seq_find.new.places c.start.ensures.stands c.seq_find.ensures.len

pub chains::seq_find-returns-in_err-tail-clause-cost : goal.chains::seq_find-returns-in_err-tail-clause-cost
chains::seq_find-returns-in_err-tail-clause-cost g t c =
    let here = operand_at (g.C.CountedLeaves.text c.args.source.now) c.args.operands.now c.in_ok-operand.others.now c.in_ok-operand.operand.now c.in_ok-operand.ensures.cases.0 c.args.places.now c.split_at_mut-mine.result.0.now c.split_at_mut-mine.result.1.now c.size_of-size.result c.requires.well_formed c.requires.stands c.size_of-size.ensures c.split_at_mut-mine.ensures.front c.split_at_mut-mine.ensures.back in
    chain_cost_tail (g.C.CountedLeaves.text c.args.source.now) (g.C.CountedLeaves.most c.args.source.now) c.args.operands.now c.in_ok-operand.others.now c.in_ok-operand.operand.now c.in_ok-operand.ensures.cases.0 c.args.places.now c.split_at_mut-mine.result.0.now c.split_at_mut-mine.result.1.now c.size_of-size.result c.split_at_mut-mine.ensures.front c.split_at_mut-mine.ensures.back here.stands c.start.new.places c.seq_find.new.places c.start.ensures.stands (g.C.CountedLeaves.count c.args.counter.now) (g.C.CountedLeaves.count c.start.new.counter) (g.C.CountedLeaves.count c.seq_find.new.counter) (2 * g.C.CountedLeaves.most c.args.source.now) c.start.ensures.cost c.seq_find.ensures.cost

pub chains::seq_find-returns-in_err-head-clause-stands : goal.chains::seq_find-returns-in_err-head-clause-stands
chains::seq_find-returns-in_err-head-clause-stands g t c =
    stands_joined (g.C.CountedLeaves.text c.args.source.now) c.args.operands.now c.in_ok-operand.others.now c.in_ok-operand.operand.now c.in_ok-operand.ensures.cases.0 c.back.new.places c.seq_find.new.places c.back.ensures.stands c.seq_find.ensures.stands

pub chains::seq_find-returns-in_err-head-clause-len : goal.chains::seq_find-returns-in_err-head-clause-len
chains::seq_find-returns-in_err-head-clause-len g t c =
    let here = operand_at (g.C.CountedLeaves.text c.args.source.now) c.args.operands.now c.in_ok-operand.others.now c.in_ok-operand.operand.now c.in_ok-operand.ensures.cases.0 c.args.places.now c.split_at_mut-mine.result.0.now c.split_at_mut-mine.result.1.now c.size_of-size.result c.requires.well_formed c.requires.stands c.size_of-size.ensures c.split_at_mut-mine.ensures.front c.split_at_mut-mine.ensures.back in
    joined_length (g.C.CountedLeaves.text c.args.source.now) (form_of c.in_ok-operand.operand.now) c.args.places.now c.split_at_mut-mine.result.0.now c.split_at_mut-mine.result.1.now c.size_of-size.result c.split_at_mut-mine.ensures.front c.split_at_mut-mine.ensures.back here.stands c.back.new.places c.seq_find.new.places c.back.ensures.stands c.seq_find.ensures.len

pub chains::seq_find-returns-in_err-head-clause-cost : goal.chains::seq_find-returns-in_err-head-clause-cost
chains::seq_find-returns-in_err-head-clause-cost g t c =
    let here = operand_at (g.C.CountedLeaves.text c.args.source.now) c.args.operands.now c.in_ok-operand.others.now c.in_ok-operand.operand.now c.in_ok-operand.ensures.cases.0 c.args.places.now c.split_at_mut-mine.result.0.now c.split_at_mut-mine.result.1.now c.size_of-size.result c.requires.well_formed c.requires.stands c.size_of-size.ensures c.split_at_mut-mine.ensures.front c.split_at_mut-mine.ensures.back in
    chain_cost_back (g.C.CountedLeaves.text c.args.source.now) (g.C.CountedLeaves.most c.args.source.now) c.args.operands.now c.in_ok-operand.others.now c.in_ok-operand.operand.now c.in_ok-operand.ensures.cases.0 c.args.places.now c.split_at_mut-mine.result.0.now c.split_at_mut-mine.result.1.now c.size_of-size.result c.split_at_mut-mine.ensures.front c.split_at_mut-mine.ensures.back here.stands c.back.new.places c.seq_find.new.places c.back.ensures.stands (g.C.CountedLeaves.count c.args.counter.now) (g.C.CountedLeaves.count c.start.new.counter) (g.C.CountedLeaves.count c.back.new.counter) (2 * g.C.CountedLeaves.most c.args.source.now) c.start.new.places (g.C.CountedLeaves.count c.seq_find.new.counter) c.start.ensures.cost c.seq_find.ensures.cost c.back.ensures.cost

pub chains::seq_find-returns-clause-stands : goal.chains::seq_find-returns-clause-stands
chains::seq_find-returns-clause-stands g t c =
    stands_joined (g.C.CountedLeaves.text c.args.source.now) c.args.operands.now c.in_ok-operand.others.now c.in_ok-operand.operand.now c.in_ok-operand.ensures.cases.0 c.back.new.places c.seq_find.new.places c.back.ensures.stands c.seq_find.ensures.stands

pub chains::seq_find-returns-clause-len : goal.chains::seq_find-returns-clause-len
chains::seq_find-returns-clause-len g t c =
    let here = operand_at (g.C.CountedLeaves.text c.args.source.now) c.args.operands.now c.in_ok-operand.others.now c.in_ok-operand.operand.now c.in_ok-operand.ensures.cases.0 c.args.places.now c.split_at_mut-mine.result.0.now c.split_at_mut-mine.result.1.now c.size_of-size.result c.requires.well_formed c.requires.stands c.size_of-size.ensures c.split_at_mut-mine.ensures.front c.split_at_mut-mine.ensures.back in
    joined_length (g.C.CountedLeaves.text c.args.source.now) (form_of c.in_ok-operand.operand.now) c.args.places.now c.split_at_mut-mine.result.0.now c.split_at_mut-mine.result.1.now c.size_of-size.result c.split_at_mut-mine.ensures.front c.split_at_mut-mine.ensures.back here.stands c.back.new.places c.seq_find.new.places c.back.ensures.stands c.seq_find.ensures.len

pub chains::seq_find-returns-clause-cost : goal.chains::seq_find-returns-clause-cost
chains::seq_find-returns-clause-cost g t c =
    let here = operand_at (g.C.CountedLeaves.text c.args.source.now) c.args.operands.now c.in_ok-operand.others.now c.in_ok-operand.operand.now c.in_ok-operand.ensures.cases.0 c.args.places.now c.split_at_mut-mine.result.0.now c.split_at_mut-mine.result.1.now c.size_of-size.result c.requires.well_formed c.requires.stands c.size_of-size.ensures c.split_at_mut-mine.ensures.front c.split_at_mut-mine.ensures.back in
    chain_cost_back (g.C.CountedLeaves.text c.args.source.now) (g.C.CountedLeaves.most c.args.source.now) c.args.operands.now c.in_ok-operand.others.now c.in_ok-operand.operand.now c.in_ok-operand.ensures.cases.0 c.args.places.now c.split_at_mut-mine.result.0.now c.split_at_mut-mine.result.1.now c.size_of-size.result c.split_at_mut-mine.ensures.front c.split_at_mut-mine.ensures.back here.stands c.back.new.places c.seq_find.new.places c.back.ensures.stands (g.C.CountedLeaves.count c.args.counter.now) (g.C.CountedLeaves.count c.start.new.counter) (g.C.CountedLeaves.count c.back.new.counter) (2 * g.C.CountedLeaves.most c.args.source.now) c.start.new.places (g.C.CountedLeaves.count c.seq_find.new.counter) c.start.ensures.cost c.seq_find.ensures.cost c.back.ensures.cost

pub containments::containment_find-returns-in_err-member-clause-stands : goal.containments::containment_find-returns-in_err-member-clause-stands
containments::containment_find-returns-in_err-member-clause-stands g t c =
    let here = contain_split c.operands-containment.result.0 (g.C.CountedLeaves.text c.args.source.now) (form_of c.args.expr.now) (form_of c.operands-containment.result.1.now) (form_of c.operands-containment.result.2.now) c.operands-containment.ensures c.args.places.now c.split_at_mut-first_places.result.0.now c.split_at_mut-first_places.result.1.now c.args.k c.size_of-size.result c.requires.stands c.requires.tells c.size_of-size.ensures c.split_at_mut-first_places.ensures.front c.split_at_mut-first_places.ensures.back in
    contain_joined c.operands-containment.result.0 (g.C.CountedLeaves.text c.args.source.now) (form_of c.args.expr.now) (form_of c.operands-containment.result.1.now) (form_of c.operands-containment.result.2.now) c.operands-containment.ensures c.start.new.places c.split_at_mut-first_places.result.1.now c.start.ensures.stands here.seconds

pub containments::containment_find-returns-in_err-member-clause-len : goal.containments::containment_find-returns-in_err-member-clause-len
containments::containment_find-returns-in_err-member-clause-len g t c =
    let here = contain_split c.operands-containment.result.0 (g.C.CountedLeaves.text c.args.source.now) (form_of c.args.expr.now) (form_of c.operands-containment.result.1.now) (form_of c.operands-containment.result.2.now) c.operands-containment.ensures c.args.places.now c.split_at_mut-first_places.result.0.now c.split_at_mut-first_places.result.1.now c.args.k c.size_of-size.result c.requires.stands c.requires.tells c.size_of-size.ensures c.split_at_mut-first_places.ensures.front c.split_at_mut-first_places.ensures.back in
    joined_length (g.C.CountedLeaves.text c.args.source.now) (form_of c.operands-containment.result.1.now) c.args.places.now c.split_at_mut-first_places.result.0.now c.split_at_mut-first_places.result.1.now c.size_of-size.result c.split_at_mut-first_places.ensures.front c.split_at_mut-first_places.ensures.back here.firsts c.start.new.places c.split_at_mut-first_places.result.1.now c.start.ensures.stands refl

pub containments::containment_find-returns-in_err-member-clause-cost : goal.containments::containment_find-returns-in_err-member-clause-cost
containments::containment_find-returns-in_err-member-clause-cost g t c =
    let here = contain_split c.operands-containment.result.0 (g.C.CountedLeaves.text c.args.source.now) (form_of c.args.expr.now) (form_of c.operands-containment.result.1.now) (form_of c.operands-containment.result.2.now) c.operands-containment.ensures c.args.places.now c.split_at_mut-first_places.result.0.now c.split_at_mut-first_places.result.1.now c.args.k c.size_of-size.result c.requires.stands c.requires.tells c.size_of-size.ensures c.split_at_mut-first_places.ensures.front c.split_at_mut-first_places.ensures.back in
    let after = contain_costs c.operands-containment.result.0 (g.C.CountedLeaves.text c.args.source.now) (g.C.CountedLeaves.most c.args.source.now) (form_of c.args.expr.now) (form_of c.operands-containment.result.1.now) (form_of c.operands-containment.result.2.now) c.operands-containment.ensures c.start.new.places c.split_at_mut-first_places.result.1.now c.start.ensures.stands.count in
    let before = contain_costs c.operands-containment.result.0 (g.C.CountedLeaves.text c.args.source.now) (g.C.CountedLeaves.most c.args.source.now) (form_of c.args.expr.now) (form_of c.operands-containment.result.1.now) (form_of c.operands-containment.result.2.now) c.operands-containment.ensures c.split_at_mut-first_places.result.0.now c.split_at_mut-first_places.result.1.now here.firsts.count in
    let whole = ap (cost_below (g.C.CountedLeaves.text c.args.source.now) (g.C.CountedLeaves.most c.args.source.now) (form_of c.args.expr.now)) c.split_at_mut-first_places.ensures.value in
    omega (arith, after, before, whole, c.start.ensures.cost)

pub containments::containment_find-returns-in-Accept-clause-stands : goal.containments::containment_find-returns-in-Accept-clause-stands
containments::containment_find-returns-in-Accept-clause-stands g t c =
    contain_joined c.operands-containment.result.0 (g.C.CountedLeaves.text c.args.source.now) (form_of c.args.expr.now) (form_of c.operands-containment.result.1.now) (form_of c.operands-containment.result.2.now) c.operands-containment.ensures c.loop-next.first_places c.ask-answer.new.places c.loop-next.invariant.first c.ask-answer.ensures.stands

pub containments::containment_find-returns-in-Accept-clause-len : goal.containments::containment_find-returns-in-Accept-clause-len
containments::containment_find-returns-in-Accept-clause-len g t c =
    let here = contain_split c.operands-containment.result.0 (g.C.CountedLeaves.text c.args.source.now) (form_of c.args.expr.now) (form_of c.operands-containment.result.1.now) (form_of c.operands-containment.result.2.now) c.operands-containment.ensures c.args.places.now c.split_at_mut-first_places.result.0.now c.split_at_mut-first_places.result.1.now c.args.k c.size_of-size.result c.requires.stands c.requires.tells c.size_of-size.ensures c.split_at_mut-first_places.ensures.front c.split_at_mut-first_places.ensures.back in
    joined_length (g.C.CountedLeaves.text c.args.source.now) (form_of c.operands-containment.result.1.now) c.args.places.now c.split_at_mut-first_places.result.0.now c.split_at_mut-first_places.result.1.now c.size_of-size.result c.split_at_mut-first_places.ensures.front c.split_at_mut-first_places.ensures.back here.firsts c.loop-next.first_places c.ask-answer.new.places c.loop-next.invariant.first (c.ask-answer.ensures.stands.count ∙ sym here.seconds.count)

pub containments::containment_find-returns-in-Accept-clause-cost : goal.containments::containment_find-returns-in-Accept-clause-cost
containments::containment_find-returns-in-Accept-clause-cost g t c =
    let after = contain_costs c.operands-containment.result.0 (g.C.CountedLeaves.text c.args.source.now) (g.C.CountedLeaves.most c.args.source.now) (form_of c.args.expr.now) (form_of c.operands-containment.result.1.now) (form_of c.operands-containment.result.2.now) c.operands-containment.ensures c.loop-next.first_places c.ask-answer.new.places c.loop-next.invariant.first.count in
    omega (arith, after, c.loop-next.invariant.cost, c.ask-answer.ensures.cost)

pub containments::containment_find-returns-in-Accept-clause-counted : goal.containments::containment_find-returns-in-Accept-clause-counted
containments::containment_find-returns-in-Accept-clause-counted g t c =
    omega (arith, c.loop-next.invariant.counted, c.ask-answer.ensures.counted)

pub containments::containment_find-returns-in-Finish-clause-stands : goal.containments::containment_find-returns-in-Finish-clause-stands
containments::containment_find-returns-in-Finish-clause-stands g t c =
    contain_joined c.operands-containment.result.0 (g.C.CountedLeaves.text c.args.source.now) (form_of c.args.expr.now) (form_of c.operands-containment.result.1.now) (form_of c.operands-containment.result.2.now) c.operands-containment.ensures c.loop-next.first_places c.ask-answer.new.places c.loop-next.invariant.first c.ask-answer.ensures.stands

pub containments::containment_find-returns-in-Finish-clause-len : goal.containments::containment_find-returns-in-Finish-clause-len
containments::containment_find-returns-in-Finish-clause-len g t c =
    let here = contain_split c.operands-containment.result.0 (g.C.CountedLeaves.text c.args.source.now) (form_of c.args.expr.now) (form_of c.operands-containment.result.1.now) (form_of c.operands-containment.result.2.now) c.operands-containment.ensures c.args.places.now c.split_at_mut-first_places.result.0.now c.split_at_mut-first_places.result.1.now c.args.k c.size_of-size.result c.requires.stands c.requires.tells c.size_of-size.ensures c.split_at_mut-first_places.ensures.front c.split_at_mut-first_places.ensures.back in
    joined_length (g.C.CountedLeaves.text c.args.source.now) (form_of c.operands-containment.result.1.now) c.args.places.now c.split_at_mut-first_places.result.0.now c.split_at_mut-first_places.result.1.now c.size_of-size.result c.split_at_mut-first_places.ensures.front c.split_at_mut-first_places.ensures.back here.firsts c.loop-next.first_places c.ask-answer.new.places c.loop-next.invariant.first (c.ask-answer.ensures.stands.count ∙ sym here.seconds.count)

pub containments::containment_find-returns-in-Finish-clause-cost : goal.containments::containment_find-returns-in-Finish-clause-cost
containments::containment_find-returns-in-Finish-clause-cost g t c =
    let after = contain_costs c.operands-containment.result.0 (g.C.CountedLeaves.text c.args.source.now) (g.C.CountedLeaves.most c.args.source.now) (form_of c.args.expr.now) (form_of c.operands-containment.result.1.now) (form_of c.operands-containment.result.2.now) c.operands-containment.ensures c.loop-next.first_places c.ask-answer.new.places c.loop-next.invariant.first.count in
    omega (arith, after, c.loop-next.invariant.cost, c.ask-answer.ensures.cost)

pub containments::containment_find-returns-in-Finish-clause-counted : goal.containments::containment_find-returns-in-Finish-clause-counted
containments::containment_find-returns-in-Finish-clause-counted g t c =
    omega (arith, c.loop-next.invariant.counted, c.ask-answer.ensures.counted)

pub containments::containment_find-returns-in_err-member-in-GoTo-clause-stands : goal.containments::containment_find-returns-in_err-member-in-GoTo-clause-stands
containments::containment_find-returns-in_err-member-in-GoTo-clause-stands g t c =
    contain_joined c.operands-containment.result.0 (g.C.CountedLeaves.text c.args.source.now) (form_of c.args.expr.now) (form_of c.operands-containment.result.1.now) (form_of c.operands-containment.result.2.now) c.operands-containment.ensures c.go_on.new.places c.ask-answer.new.places c.go_on.ensures.stands c.ask-answer.ensures.stands

pub containments::containment_find-returns-in_err-member-in-GoTo-clause-len : goal.containments::containment_find-returns-in_err-member-in-GoTo-clause-len
containments::containment_find-returns-in_err-member-in-GoTo-clause-len g t c =
    let here = contain_split c.operands-containment.result.0 (g.C.CountedLeaves.text c.args.source.now) (form_of c.args.expr.now) (form_of c.operands-containment.result.1.now) (form_of c.operands-containment.result.2.now) c.operands-containment.ensures c.args.places.now c.split_at_mut-first_places.result.0.now c.split_at_mut-first_places.result.1.now c.args.k c.size_of-size.result c.requires.stands c.requires.tells c.size_of-size.ensures c.split_at_mut-first_places.ensures.front c.split_at_mut-first_places.ensures.back in
    joined_length (g.C.CountedLeaves.text c.args.source.now) (form_of c.operands-containment.result.1.now) c.args.places.now c.split_at_mut-first_places.result.0.now c.split_at_mut-first_places.result.1.now c.size_of-size.result c.split_at_mut-first_places.ensures.front c.split_at_mut-first_places.ensures.back here.firsts c.go_on.new.places c.ask-answer.new.places c.go_on.ensures.stands (c.ask-answer.ensures.stands.count ∙ sym here.seconds.count)

pub containments::containment_find-returns-in_err-member-in-GoTo-clause-cost : goal.containments::containment_find-returns-in_err-member-in-GoTo-clause-cost
containments::containment_find-returns-in_err-member-in-GoTo-clause-cost g t c =
    let after = contain_costs c.operands-containment.result.0 (g.C.CountedLeaves.text c.args.source.now) (g.C.CountedLeaves.most c.args.source.now) (form_of c.args.expr.now) (form_of c.operands-containment.result.1.now) (form_of c.operands-containment.result.2.now) c.operands-containment.ensures c.go_on.new.places c.ask-answer.new.places c.go_on.ensures.stands.count in
    omega (arith, after, c.loop-next.invariant.cost, c.ask-answer.ensures.cost, c.go_on.ensures.cost)

pub containments::containment_find-returns-in_err-member-in-GoTo-clause-counted : goal.containments::containment_find-returns-in_err-member-in-GoTo-clause-counted
containments::containment_find-returns-in_err-member-in-GoTo-clause-counted g t c =
    omega (arith, c.loop-next.invariant.counted, c.ask-answer.ensures.counted, c.go_on.ensures.counted)

pub chains::one_find-returns-clause-counted : goal.chains::one_find-returns-clause-counted
chains::one_find-returns-clause-counted g t c =
    omega (arith, c.start-answer.ensures.counted, c.one_find.ensures.counted)

pub chains::both_ends-returns-clause-counted : goal.chains::both_ends-returns-clause-counted
chains::both_ends-returns-clause-counted g t c =
    omega (arith, c.start.ensures.counted, c.both_ends.ensures.counted)

pub chains::both_starts-returns-clause-counted : goal.chains::both_starts-returns-clause-counted
chains::both_starts-returns-clause-counted g t c =
    omega (arith, c.back.ensures.counted, c.both_starts.ensures.counted)

pub chains::both_find-returns-in_err-start-clause-counted : goal.chains::both_find-returns-in_err-start-clause-counted
chains::both_find-returns-in_err-start-clause-counted g t c =
    omega (arith, c.both_ends.ensures.counted, c.both_starts.ensures.counted)

pub chains::both_find-returns-clause-counted : goal.chains::both_find-returns-clause-counted
chains::both_find-returns-clause-counted g t c =
    omega (arith, c.both_ends.ensures.counted, c.both_starts.ensures.counted)

pub chains::seq_find-returns-in_err-tail-clause-counted : goal.chains::seq_find-returns-in_err-tail-clause-counted
chains::seq_find-returns-in_err-tail-clause-counted g t c =
    omega (arith, c.start.ensures.counted, c.seq_find.ensures.counted)

pub chains::seq_find-returns-in_err-head-clause-counted : goal.chains::seq_find-returns-in_err-head-clause-counted
chains::seq_find-returns-in_err-head-clause-counted g t c =
    omega (arith, c.start.ensures.counted, c.seq_find.ensures.counted, c.back.ensures.counted)

pub chains::seq_find-returns-clause-counted : goal.chains::seq_find-returns-clause-counted
chains::seq_find-returns-clause-counted g t c =
    omega (arith, c.start.ensures.counted, c.seq_find.ensures.counted, c.back.ensures.counted)

pub chains::both_find-returns-in_err-start-clause-cost : goal.chains::both_find-returns-in_err-start-clause-cost
chains::both_find-returns-in_err-start-clause-cost g t c =
    omega (arith, c.both_ends.ensures.cost, c.both_starts.ensures.cost)

pub chains::both_find-returns-in_err-start-clause-len : goal.chains::both_find-returns-in_err-start-clause-len
chains::both_find-returns-in_err-start-clause-len g t c =
    c.both_starts.ensures.len ∙ c.both_ends.ensures.len

pub chains::both_find-returns-clause-cost : goal.chains::both_find-returns-clause-cost
chains::both_find-returns-clause-cost g t c =
    omega (arith, c.both_ends.ensures.cost, c.both_starts.ensures.cost)

pub chains::both_find-returns-clause-len : goal.chains::both_find-returns-clause-len
chains::both_find-returns-clause-len g t c =
    c.both_starts.ensures.len ∙ c.both_ends.ensures.len

pub reading::find-returns-in-Both-clause-cost : goal.reading::find-returns-in-Both-clause-cost
reading::find-returns-in-Both-clause-cost g t c =
    let form = form-Both c.args.expr.now c.in-Both.operands c.deref.result.now c.in-Both.is c.deref.ensures.value in
    let same = c.in_default.ensures.none refl in
    find_by (g.C.CountedLeaves.text c.args.source.now) (g.C.CountedLeaves.most c.args.source.now) (form_of c.args.expr.now) (both (operand_forms c.deref.result.now)) form c.args.places.now c.both_find.new.places (g.C.CountedLeaves.count c.args.counter.now) (g.C.CountedLeaves.count c.both_find.new.counter) c.args.k c.both_find.result (subst (λ n. g.C.CountedLeaves.count c.both_find.new.counter + costs_left (g.C.CountedLeaves.text c.args.source.now) (g.C.CountedLeaves.most c.args.source.now) (operand_forms c.deref.result.now) c.both_find.new.places ≤ n + costs_left (g.C.CountedLeaves.text c.args.source.now) (g.C.CountedLeaves.most c.args.source.now) (operand_forms c.deref.result.now) c.args.places.now + forms_count (operand_forms c.deref.result.now) * (2 * g.C.CountedLeaves.most c.args.source.now)) same c.both_find.ensures.cost)

pub reading::find-returns-in-Both-clause-stands : goal.reading::find-returns-in-Both-clause-stands
reading::find-returns-in-Both-clause-stands g t c =
    let form = form-Both c.args.expr.now c.in-Both.operands c.deref.result.now c.in-Both.is c.deref.ensures.value in
    subst (λ f. StandBelow (g.C.CountedLeaves.text c.args.source.now) f c.both_find.new.places) (sym form) c.both_find.ensures.stands

pub reading::find-returns-in-One-clause-cost : goal.reading::find-returns-in-One-clause-cost
reading::find-returns-in-One-clause-cost g t c =
    let form = form-One c.args.expr.now c.in-One.operands c.deref-in-One.result.now c.in-One.is c.deref-in-One.ensures.value in
    let same = c.in_default.ensures.none refl in
    find_by (g.C.CountedLeaves.text c.args.source.now) (g.C.CountedLeaves.most c.args.source.now) (form_of c.args.expr.now) (one (operand_forms c.deref-in-One.result.now)) form c.args.places.now c.one_find.new.places (g.C.CountedLeaves.count c.args.counter.now) (g.C.CountedLeaves.count c.one_find.new.counter) c.args.k c.one_find.result (more_left (g.C.CountedLeaves.count c.args.counter.now) (g.C.CountedLeaves.count c.one_find.new.counter) (costs_left (g.C.CountedLeaves.text c.args.source.now) (g.C.CountedLeaves.most c.args.source.now) (operand_forms c.deref-in-One.result.now) c.one_find.new.places) (costs_left (g.C.CountedLeaves.text c.args.source.now) (g.C.CountedLeaves.most c.args.source.now) (operand_forms c.deref-in-One.result.now) c.args.places.now) 0 (subst (λ n. g.C.CountedLeaves.count c.one_find.new.counter + costs_left (g.C.CountedLeaves.text c.args.source.now) (g.C.CountedLeaves.most c.args.source.now) (operand_forms c.deref-in-One.result.now) c.one_find.new.places ≤ n + costs_left (g.C.CountedLeaves.text c.args.source.now) (g.C.CountedLeaves.most c.args.source.now) (operand_forms c.deref-in-One.result.now) c.args.places.now) same c.one_find.ensures.cost))

pub reading::find-returns-in-One-clause-stands : goal.reading::find-returns-in-One-clause-stands
reading::find-returns-in-One-clause-stands g t c =
    let form = form-One c.args.expr.now c.in-One.operands c.deref-in-One.result.now c.in-One.is c.deref-in-One.ensures.value in
    subst (λ f. StandBelow (g.C.CountedLeaves.text c.args.source.now) f c.one_find.new.places) (sym form) c.one_find.ensures.stands

pub reading::find-returns-in-Seq-clause-cost : goal.reading::find-returns-in-Seq-clause-cost
reading::find-returns-in-Seq-clause-cost g t c =
    let form = form-Seq c.args.expr.now c.in-Seq.operands c.deref-in-Seq.result.now c.in-Seq.is c.deref-in-Seq.ensures.value in
    let same = c.in_default.ensures.none refl in
    find_by (g.C.CountedLeaves.text c.args.source.now) (g.C.CountedLeaves.most c.args.source.now) (form_of c.args.expr.now) (seq (operand_forms c.deref-in-Seq.result.now)) form c.args.places.now c.seq_find.new.places (g.C.CountedLeaves.count c.args.counter.now) (g.C.CountedLeaves.count c.seq_find.new.counter) c.args.k c.seq_find.result (without _ _ (2 * g.C.CountedLeaves.most c.args.source.now) (subst (λ n. g.C.CountedLeaves.count c.seq_find.new.counter + costs_left (g.C.CountedLeaves.text c.args.source.now) (g.C.CountedLeaves.most c.args.source.now) (operand_forms c.deref-in-Seq.result.now) c.seq_find.new.places + 2 * g.C.CountedLeaves.most c.args.source.now ≤ n + costs_left (g.C.CountedLeaves.text c.args.source.now) (g.C.CountedLeaves.most c.args.source.now) (operand_forms c.deref-in-Seq.result.now) c.args.places.now + forms_count (operand_forms c.deref-in-Seq.result.now) * (2 * g.C.CountedLeaves.most c.args.source.now)) same c.seq_find.ensures.cost))

pub reading::find-returns-in-Seq-clause-stands : goal.reading::find-returns-in-Seq-clause-stands
reading::find-returns-in-Seq-clause-stands g t c =
    let form = form-Seq c.args.expr.now c.in-Seq.operands c.deref-in-Seq.result.now c.in-Seq.is c.deref-in-Seq.ensures.value in
    subst (λ f. StandBelow (g.C.CountedLeaves.text c.args.source.now) f c.seq_find.new.places) (sym form) c.seq_find.ensures.stands

pub chains::seq_onward-returns-in-Some-clause-onward : goal.chains::seq_onward-returns-in-Some-clause-onward
chains::seq_onward-returns-in-Some-clause-onward g t c =
    let has = first_member (concordance (g.C.CountedLeaves.text c.args.source.now) (form_of c.args.expr.now)) c.args.member.start c.args.member (member_is (concordance (g.C.CountedLeaves.text c.args.source.now) (form_of c.args.expr.now)) (front_of c.args.places.now) c.args.member c.requires.stands.front (ap member_of c.requires.on)) in
    let starts : c.args.member.start ≡ c.member.inside.start = sym (ap (λ (x : Extent). x.start) c.member.view_is) in
    goes_on_way (concordance (g.C.CountedLeaves.text c.args.source.now) (form_of c.args.expr.now)) (concordance_rises (g.C.CountedLeaves.text c.args.source.now) (form_of c.args.expr.now)) c.args.k c.args.member has c.requires.short c.in-Some.found c.in-Some.ensures.end
    (subst (λ n. IfSome c.in-Some.found (IsOnTheWay (concordance (g.C.CountedLeaves.text c.args.source.now) (form_of c.args.expr.now)) (n + 1) c.args.k)) (sym starts) c.in-Some.ensures.onward)

pub chains::seq_onward-returns-in-Some-clause-stands : goal.chains::seq_onward-returns-in-Some-clause-stands
chains::seq_onward-returns-in-Some-clause-stands g t c =
    let put : c.put_front.new.places ≡ with_front c.args.places.now (front_at c.in-Some.found) = c.put_front.ensures ∙ ap (with_front c.args.places.now) c.front_at.ensures in
    let goes = chains::seq_onward-returns-in-Some-clause-onward g t c in
    let tells = subst (λ f. Tell (g.C.CountedLeaves.text c.args.source.now) (form_of c.args.expr.now) f (drop 1 c.args.places.now)) c.requires.on c.requires.stands.tells in
    subst (Stands (g.C.CountedLeaves.text c.args.source.now) (form_of c.args.expr.now)) (sym put)
    (restand (g.C.CountedLeaves.text c.args.source.now) (form_of c.args.expr.now) c.args.places.now (front_at c.in-Some.found) c.requires.stands (front_onward (concordance (g.C.CountedLeaves.text c.args.source.now) (form_of c.args.expr.now)) c.args.k c.args.member c.in-Some.found goes)
    (tell_onward (g.C.CountedLeaves.text c.args.source.now) (form_of c.args.expr.now) (operand_forms c.args.operands.now) c.requires.form (drop 1 c.args.places.now) c.args.k c.args.member c.in-Some.found goes tells))

pub chains::seq_onward-returns-in-Some-clause-cost : goal.chains::seq_onward-returns-in-Some-clause-cost
chains::seq_onward-returns-in-Some-clause-cost g t c =
    let put : c.put_front.new.places ≡ with_front c.args.places.now (front_at c.in-Some.found) = c.put_front.ensures ∙ ap (with_front c.args.places.now) c.front_at.ensures in
    let goes = chains::seq_onward-returns-in-Some-clause-onward g t c in
    let has = first_member (concordance (g.C.CountedLeaves.text c.args.source.now) (form_of c.args.expr.now)) c.args.member.start c.args.member (member_is (concordance (g.C.CountedLeaves.text c.args.source.now) (form_of c.args.expr.now)) (front_of c.args.places.now) c.args.member c.requires.stands.front (ap member_of c.requires.on)) in
    let some = some_place (g.C.CountedLeaves.text c.args.source.now) (form_of c.args.expr.now) c.args.places.now (StandBelow (g.C.CountedLeaves.text c.args.source.now) (form_of c.args.expr.now) (drop 1 c.args.places.now)) c.requires.stands in
    subst (λ p. g.C.CountedLeaves.count c.element_onward.new.counter + cost_left (g.C.CountedLeaves.text c.args.source.now) (g.C.CountedLeaves.most c.args.source.now) (form_of c.args.expr.now) p ≤ g.C.CountedLeaves.count c.args.counter.now + cost_left (g.C.CountedLeaves.text c.args.source.now) (g.C.CountedLeaves.most c.args.source.now) (form_of c.args.expr.now) c.args.places.now) (sym put)
    (way_cost (g.C.CountedLeaves.text c.args.source.now) (g.C.CountedLeaves.most c.args.source.now) (form_of c.args.expr.now) c.args.places.now c.args.k c.args.member c.in-Some.found some c.requires.on has c.requires.short c.in-Some.ensures.end goes c.in-Some.ensures.element (g.C.CountedLeaves.count c.element_onward.new.counter) (g.C.CountedLeaves.count c.args.counter.now) c.in-Some.ensures.steps)

pub chains::seq_onward-returns-clause-onward : goal.chains::seq_onward-returns-clause-onward
chains::seq_onward-returns-clause-onward g t c =
    let has = first_member (concordance (g.C.CountedLeaves.text c.args.source.now) (form_of c.args.expr.now)) c.args.member.start c.args.member (member_is (concordance (g.C.CountedLeaves.text c.args.source.now) (form_of c.args.expr.now)) (front_of c.args.places.now) c.args.member c.requires.stands.front (ap member_of c.requires.on)) in
    let starts : c.args.member.start ≡ c.member.inside.start = sym (ap (λ (x : Extent). x.start) c.member.view_is) in
    let is : c.seq_find-found.result ≡ first_start (concordance (g.C.CountedLeaves.text c.args.source.now) (form_of c.args.expr.now)) (c.args.member.start + 1)
    = subst (λ n. c.seq_find-found.result ≡ first_start (concordance (g.C.CountedLeaves.text c.args.source.now) (form_of c.args.expr.now)) (n + 1)) (sym starts) (c.seq_find-found.ensures.answer ∙ ap (λ f. first_start (concordance (g.C.CountedLeaves.text c.args.source.now) f) (c.member.inside.start + 1)) (sym c.requires.form)) in
    goes_to_next (concordance (g.C.CountedLeaves.text c.args.source.now) (form_of c.args.expr.now)) (concordance_rises (g.C.CountedLeaves.text c.args.source.now) (form_of c.args.expr.now)) c.args.k c.args.member has c.requires.short c.seq_find-found.result is

pub chains::seq_onward-returns-clause-stands : goal.chains::seq_onward-returns-clause-stands
chains::seq_onward-returns-clause-stands g t c =
    let starts : c.args.member.start ≡ c.member.inside.start = sym (ap (λ (x : Extent). x.start) c.member.view_is) in
    let is : c.seq_find-found.result ≡ first_start (concordance (g.C.CountedLeaves.text c.args.source.now) (form_of c.args.expr.now)) (c.args.member.start + 1)
    = subst (λ n. c.seq_find-found.result ≡ first_start (concordance (g.C.CountedLeaves.text c.args.source.now) (form_of c.args.expr.now)) (n + 1)) (sym starts) (c.seq_find-found.ensures.answer ∙ ap (λ f. first_start (concordance (g.C.CountedLeaves.text c.args.source.now) f) (c.member.inside.start + 1)) (sym c.requires.form)) in
    let put : c.put_front-2.new.places ≡ with_front (take 1 c.args.places.now ++ c.seq_find-found.new.places) (front_at c.seq_find-found.result)
    = c.put_front-2.ensures ∙ ap (λ p. with_front (p ++ c.seq_find-found.new.places) c.front_at-2.result) c.split_at_mut-below.ensures.front ∙ ap (with_front (take 1 c.args.places.now ++ c.seq_find-found.new.places)) c.front_at-2.ensures in
    let len : length c.seq_find-found.new.places ≡ length (drop 1 c.args.places.now) = c.seq_find-found.ensures.len ∙ ap length c.split_at_mut-below.ensures.back in
    subst (Stands (g.C.CountedLeaves.text c.args.source.now) (form_of c.args.expr.now)) (sym put)
    (restand_below (g.C.CountedLeaves.text c.args.source.now) (form_of c.args.expr.now) c.args.places.now c.seq_find-found.new.places (front_at c.seq_find-found.result) c.requires.stands (front_found (concordance (g.C.CountedLeaves.text c.args.source.now) (form_of c.args.expr.now)) (concordance_rises (g.C.CountedLeaves.text c.args.source.now) (form_of c.args.expr.now)) (c.args.member.start + 1) c.seq_find-found.result is) len
    (subst (λ f. StandBelow (g.C.CountedLeaves.text c.args.source.now) f c.seq_find-found.new.places) (sym c.requires.form) c.seq_find-found.ensures.stands)
    (seq_tell (g.C.CountedLeaves.text c.args.source.now) (form_of c.args.expr.now) (operand_forms c.args.operands.now) c.requires.form c.seq_find-found.new.places c.seq_find-found.result c.seq_find-found.ensures.tells))

pub chains::seq_onward-returns-clause-cost : goal.chains::seq_onward-returns-clause-cost
chains::seq_onward-returns-clause-cost g t c =
    let starts : c.args.member.start ≡ c.member.inside.start = sym (ap (λ (x : Extent). x.start) c.member.view_is) in
    let is : c.seq_find-found.result ≡ first_start (concordance (g.C.CountedLeaves.text c.args.source.now) (form_of c.args.expr.now)) (c.args.member.start + 1)
    = subst (λ n. c.seq_find-found.result ≡ first_start (concordance (g.C.CountedLeaves.text c.args.source.now) (form_of c.args.expr.now)) (n + 1)) (sym starts) (c.seq_find-found.ensures.answer ∙ ap (λ f. first_start (concordance (g.C.CountedLeaves.text c.args.source.now) f) (c.member.inside.start + 1)) (sym c.requires.form)) in
    let put : c.put_front-2.new.places ≡ with_front (take 1 c.args.places.now ++ c.seq_find-found.new.places) (front_at c.seq_find-found.result)
    = c.put_front-2.ensures ∙ ap (λ p. with_front (p ++ c.seq_find-found.new.places) c.front_at-2.result) c.split_at_mut-below.ensures.front ∙ ap (with_front (take 1 c.args.places.now ++ c.seq_find-found.new.places)) c.front_at-2.ensures in
    let some = some_place (g.C.CountedLeaves.text c.args.source.now) (form_of c.args.expr.now) c.args.places.now (StandBelow (g.C.CountedLeaves.text c.args.source.now) (form_of c.args.expr.now) (drop 1 c.args.places.now)) c.requires.stands in
    let le = paid (g.C.CountedLeaves.count c.args.counter.now) (g.C.CountedLeaves.count c.element_onward.new.counter) (g.C.CountedLeaves.count c.seq_find-found.new.counter) (costs_left (g.C.CountedLeaves.text c.args.source.now) (g.C.CountedLeaves.most c.args.source.now) (operand_forms c.args.operands.now) c.seq_find-found.new.places) (costs_left (g.C.CountedLeaves.text c.args.source.now) (g.C.CountedLeaves.most c.args.source.now) (operand_forms c.args.operands.now) c.split_at_mut-below.result.1.now) (forms_count (operand_forms c.args.operands.now) * (2 * g.C.CountedLeaves.most c.args.source.now)) (2 * g.C.CountedLeaves.most c.args.source.now) c.seq_find-found.ensures.cost (c.in_default.ensures.few refl) in
    let found = find_by (g.C.CountedLeaves.text c.args.source.now) (g.C.CountedLeaves.most c.args.source.now) (form_of c.args.expr.now) (seq (operand_forms c.args.operands.now)) c.requires.form c.split_at_mut-below.result.1.now c.seq_find-found.new.places (g.C.CountedLeaves.count c.args.counter.now) (g.C.CountedLeaves.count c.seq_find-found.new.counter) (c.args.member.start + 1) c.seq_find-found.result le in
    let spent = subst (λ p. g.C.CountedLeaves.count c.seq_find-found.new.counter + cost_below (g.C.CountedLeaves.text c.args.source.now) (g.C.CountedLeaves.most c.args.source.now) (form_of c.args.expr.now) c.seq_find-found.new.places ≤ g.C.CountedLeaves.count c.args.counter.now + cost_below (g.C.CountedLeaves.text c.args.source.now) (g.C.CountedLeaves.most c.args.source.now) (form_of c.args.expr.now) p + find_cost (g.C.CountedLeaves.text c.args.source.now) (g.C.CountedLeaves.most c.args.source.now) (form_of c.args.expr.now) (c.args.member.start + 1) c.seq_find-found.result) c.split_at_mut-below.ensures.back found in
    let unknown = subst (λ f. IsUnknown f (c.args.member.start + 1)) (sym c.requires.on) (omega arith) in
    subst (λ p. g.C.CountedLeaves.count c.seq_find-found.new.counter + cost_left (g.C.CountedLeaves.text c.args.source.now) (g.C.CountedLeaves.most c.args.source.now) (form_of c.args.expr.now) p ≤ g.C.CountedLeaves.count c.args.counter.now + cost_left (g.C.CountedLeaves.text c.args.source.now) (g.C.CountedLeaves.most c.args.source.now) (form_of c.args.expr.now) c.args.places.now) (sym put)
    (look_cost (g.C.CountedLeaves.text c.args.source.now) (g.C.CountedLeaves.most c.args.source.now) (form_of c.args.expr.now) c.args.places.now c.seq_find-found.new.places (c.args.member.start + 1) c.seq_find-found.result some unknown is (g.C.CountedLeaves.count c.seq_find-found.new.counter) (g.C.CountedLeaves.count c.args.counter.now) spent)

pub reading::find-returns-in-Some-clause-tells : goal.reading::find-returns-in-Some-clause-tells
reading::find-returns-in-Some-clause-tells g t c =
    element_tells (g.C.CountedLeaves.text c.args.source.now) (form_of c.args.expr.now) c.in-Some.ensures.element c.args.places.now c.args.k c.in-Some.element c.in-Some.ensures.answer c.requires.tells

pub reading::onward-returns-in_default-clause-onward : goal.reading::onward-returns-in_default-clause-onward
reading::onward-returns-in_default-clause-onward g t c =
    let has = first_member (concordance (g.C.CountedLeaves.text c.args.source.now) (form_of c.args.expr.now)) c.args.member.start c.args.member (member_is (concordance (g.C.CountedLeaves.text c.args.source.now) (form_of c.args.expr.now)) (front_of c.args.places.now) c.args.member c.requires.stands.front c.requires.on) in
    let starts : c.args.member.start ≡ c.member.inside.start = sym (ap (λ (x : Extent). x.start) c.member.view_is) in
    let behind = moved_on (front_of c.args.places.now) (Some c.args.member) c.requires.on in
    let is : c.start.result ≡ first_start (concordance (g.C.CountedLeaves.text c.args.source.now) (form_of c.args.expr.now)) (c.args.member.start + 1)
    = subst (λ n. c.start.result ≡ first_start (left_to (g.C.CountedLeaves.text c.args.source.now) (form_of c.args.expr.now) c.args.places.now) (n + 1)) (sym starts) c.start.ensures.answer ∙ agrees_at (concordance (g.C.CountedLeaves.text c.args.source.now) (form_of c.args.expr.now)) (start_at c.args.places.now) (c.args.member.start + 1) (omega (arith, behind)) in
    goes_to_next (concordance (g.C.CountedLeaves.text c.args.source.now) (form_of c.args.expr.now)) (concordance_rises (g.C.CountedLeaves.text c.args.source.now) (form_of c.args.expr.now)) c.args.k c.args.member has c.requires.short c.start.result is

-- if nothing was found
pub chains::both_ends-returns-in_err-answer-clause-below : goal.chains::both_ends-returns-in_err-answer-clause-below
chains::both_ends-returns-in_err-answer-clause-below g t c = none_if _ c.from_residual.result c.from_residual.ensures

pub chains::both_ends-returns-in_err-answer-clause-moved : goal.chains::both_ends-returns-in_err-answer-clause-moved
chains::both_ends-returns-in_err-answer-clause-moved g t c = none_if _ c.from_residual.result c.from_residual.ensures

pub chains::both_starts-returns-in_err-answer-clause-moved : goal.chains::both_starts-returns-in_err-answer-clause-moved
chains::both_starts-returns-in_err-answer-clause-moved g t c = none_if _ c.from_residual.result c.from_residual.ensures

pub chains::seq_find-returns-in_err-operand-clause-within : goal.chains::seq_find-returns-in_err-operand-clause-within
chains::seq_find-returns-in_err-operand-clause-within g t c = none_if _ c.from_residual.result c.from_residual.ensures

pub chains::seq_find-returns-in_err-operand-clause-tells : goal.chains::seq_find-returns-in_err-operand-clause-tells
chains::seq_find-returns-in_err-operand-clause-tells g t c = none_if _ c.from_residual.result c.from_residual.ensures

pub chains::seq_find-returns-in_err-first-clause-within : goal.chains::seq_find-returns-in_err-first-clause-within
chains::seq_find-returns-in_err-first-clause-within g t c = none_if _ c.from_residual-in_err-first.result c.from_residual-in_err-first.ensures

pub chains::seq_find-returns-in_err-first-clause-tells : goal.chains::seq_find-returns-in_err-first-clause-tells
chains::seq_find-returns-in_err-first-clause-tells g t c = none_if _ c.from_residual-in_err-first.result c.from_residual-in_err-first.ensures

pub chains::seq_find-returns-in_err-tail-clause-within : goal.chains::seq_find-returns-in_err-tail-clause-within
chains::seq_find-returns-in_err-tail-clause-within g t c = none_if _ c.from_residual-in_err-tail.result c.from_residual-in_err-tail.ensures

pub chains::seq_find-returns-in_err-tail-clause-tells : goal.chains::seq_find-returns-in_err-tail-clause-tells
chains::seq_find-returns-in_err-tail-clause-tells g t c = none_if _ c.from_residual-in_err-tail.result c.from_residual-in_err-tail.ensures

pub chains::seq_find-returns-in_err-head-clause-within : goal.chains::seq_find-returns-in_err-head-clause-within
chains::seq_find-returns-in_err-head-clause-within g t c = none_if _ c.from_residual-in_err-head.result c.from_residual-in_err-head.ensures

pub chains::seq_find-returns-in_err-head-clause-tells : goal.chains::seq_find-returns-in_err-head-clause-tells
chains::seq_find-returns-in_err-head-clause-tells g t c = none_if _ c.from_residual-in_err-head.result c.from_residual-in_err-head.ensures

pub reading::node_back-returns-in_err-member-clause-moved : goal.reading::node_back-returns-in_err-member-clause-moved
reading::node_back-returns-in_err-member-clause-moved g t c = none_if _ c.from_residual.result c.from_residual.ensures

pub reading::node_back-returns-in_err-member-clause-within : goal.reading::node_back-returns-in_err-member-clause-within
reading::node_back-returns-in_err-member-clause-within g t c = none_if _ c.from_residual.result c.from_residual.ensures

pub reading::node_end-returns-in_err-member-clause-within : goal.reading::node_end-returns-in_err-member-clause-within
reading::node_end-returns-in_err-member-clause-within g t c = none_if _ c.from_residual.result c.from_residual.ensures

pub reading::node_end-returns-in_err-member-2-clause-within : goal.reading::node_end-returns-in_err-member-2-clause-within
reading::node_end-returns-in_err-member-2-clause-within g t c = none_if _ c.from_residual-in_err-member-2.result c.from_residual-in_err-member-2.ensures

pub reading::node_end-returns-in_err-member-clause-moved : goal.reading::node_end-returns-in_err-member-clause-moved
reading::node_end-returns-in_err-member-clause-moved g t c = subst (λ o. start_at c.start.new.places ≤ start_or_end o) (sym c.from_residual.ensures) c.in_err-member.ensures.moved

pub chains::both_find-returns-in_err-end-clause-tells : goal.chains::both_find-returns-in_err-end-clause-tells
chains::both_find-returns-in_err-end-clause-tells g t c = both_asks_none (g.C.CountedLeaves.text c.args.source.now) (operand_forms c.args.operands.now) c.both_ends.new.places c.from_residual.result c.from_residual.ensures

pub chains::both_find-returns-in_err-start-clause-tells : goal.chains::both_find-returns-in_err-start-clause-tells
chains::both_find-returns-in_err-start-clause-tells g t c = both_asks_none (g.C.CountedLeaves.text c.args.source.now) (operand_forms c.args.operands.now) c.both_starts.new.places c.from_residual-in_err-start.result c.from_residual-in_err-start.ensures

pub containments::containment_find-returns-in-Finish-clause-tells : goal.containments::containment_find-returns-in-Finish-clause-tells
containments::containment_find-returns-in-Finish-clause-tells g t c = contain_none c.operands-containment.result.0 (g.C.CountedLeaves.text c.args.source.now) (form_of c.args.expr.now) (form_of c.operands-containment.result.1.now) (form_of c.operands-containment.result.2.now) c.operands-containment.ensures (c.loop-next.first_places ++ c.ask-answer.new.places) None refl

pub containments::containment_find-returns-in_err-member-clause-tells : goal.containments::containment_find-returns-in_err-member-clause-tells
containments::containment_find-returns-in_err-member-clause-tells g t c = contain_none c.operands-containment.result.0 (g.C.CountedLeaves.text c.args.source.now) (form_of c.args.expr.now) (form_of c.operands-containment.result.1.now) (form_of c.operands-containment.result.2.now) c.operands-containment.ensures (c.start.new.places ++ c.split_at_mut-first_places.result.1.now) c.from_residual.result c.from_residual.ensures

pub containments::containment_find-returns-in_err-member-in-GoTo-clause-tells : goal.containments::containment_find-returns-in_err-member-in-GoTo-clause-tells
containments::containment_find-returns-in_err-member-in-GoTo-clause-tells g t c = contain_none c.operands-containment.result.0 (g.C.CountedLeaves.text c.args.source.now) (form_of c.args.expr.now) (form_of c.operands-containment.result.1.now) (form_of c.operands-containment.result.2.now) c.operands-containment.ensures (c.go_on.new.places ++ c.ask-answer.new.places) c.from_residual-in_err-member-in-GoTo.result c.from_residual-in_err-member-in-GoTo.ensures

pub reading::find-returns-in-Both-clause-tells : goal.reading::find-returns-in-Both-clause-tells
reading::find-returns-in-Both-clause-tells g t c =
    let form = form-Both c.args.expr.now c.in-Both.operands c.deref.result.now c.in-Both.is c.deref.ensures.value in
    subst (λ f. Tell (g.C.CountedLeaves.text c.args.source.now) f (front_at c.both_find.result) c.both_find.new.places) (sym form) c.both_find.ensures.tells

-- what the calls require
pub chains::both_ends-both_ends-requires : goal.chains::both_ends-both_ends-requires
chains::both_ends-both_ends-requires g t c =
    let here = operand_at (g.C.CountedLeaves.text c.args.source.now) c.args.operands.now c.in-Some.others.now c.in-Some.operand.now c.in-Some.ensures.cases.0 c.args.places.now c.split_at_mut-mine.result.0.now c.split_at_mut-mine.result.1.now c.size_of-size.result c.requires.well_formed c.requires.stands c.size_of-size.ensures c.split_at_mut-mine.ensures.front c.split_at_mut-mine.ensures.back in
    let fewer = here.fewer in
    let some = here.some in
    λ κs l. (omega arith, (l.0, (l.1, ((subst (λ es. AreWellFormed (operand_forms es)) c.in-Some.ensures.cases.0 c.requires.well_formed).1, (c.requires.below, (c.requires.sound, (others_stand (g.C.CountedLeaves.text c.args.source.now) c.args.operands.now c.in-Some.others.now c.in-Some.operand.now c.in-Some.ensures.cases.0 c.args.places.now c.split_at_mut-mine.result.1.now c.size_of-size.result c.requires.stands c.size_of-size.ensures c.split_at_mut-mine.ensures.back, omega (arith, c.both_forward_end-so_far.ensures, c.requires.so_far, c.in_ok-answer.ensures.within))))))))

pub chains::both_starts-both_starts-requires : goal.chains::both_starts-both_starts-requires
chains::both_starts-both_starts-requires g t c =
    let here = operand_at (g.C.CountedLeaves.text c.args.source.now) c.args.operands.now c.in-Some.others.now c.in-Some.operand.now c.in-Some.ensures.cases.0 c.args.places.now c.split_at_mut-mine.result.0.now c.split_at_mut-mine.result.1.now c.size_of-size.result c.requires.well_formed c.requires.stands c.size_of-size.ensures c.split_at_mut-mine.ensures.front c.split_at_mut-mine.ensures.back in
    let fewer = here.fewer in
    let some = here.some in
    λ κs l. (omega arith, (l.0, (l.1, ((subst (λ es. AreWellFormed (operand_forms es)) c.in-Some.ensures.cases.0 c.requires.well_formed).1, (c.requires.below, (c.requires.sound, others_stand (g.C.CountedLeaves.text c.args.source.now) c.args.operands.now c.in-Some.others.now c.in-Some.operand.now c.in-Some.ensures.cases.0 c.args.places.now c.split_at_mut-mine.result.1.now c.size_of-size.result c.requires.stands c.size_of-size.ensures c.split_at_mut-mine.ensures.back))))))

pub chains::one_find-one_find-requires : goal.chains::one_find-one_find-requires
chains::one_find-one_find-requires g t c =
    let here = operand_at (g.C.CountedLeaves.text c.args.source.now) c.args.operands.now c.in-Some.others.now c.in-Some.operand.now c.in-Some.ensures.cases.0 c.args.places.now c.split_at_mut-mine.result.0.now c.split_at_mut-mine.result.1.now c.size_of-size.result c.requires.well_formed c.requires.stands c.size_of-size.ensures c.split_at_mut-mine.ensures.front c.split_at_mut-mine.ensures.back in
    let fewer = here.fewer in
    let some = here.some in
    λ κs l. (omega arith, (l.0, (l.1, ((subst (λ es. AreWellFormed (operand_forms es)) c.in-Some.ensures.cases.0 c.requires.well_formed).1, (c.requires.below, (c.requires.sound, (others_stand (g.C.CountedLeaves.text c.args.source.now) c.args.operands.now c.in-Some.others.now c.in-Some.operand.now c.in-Some.ensures.cases.0 c.args.places.now c.split_at_mut-mine.result.1.now c.size_of-size.result c.requires.stands c.size_of-size.ensures c.split_at_mut-mine.ensures.back, (subst (λ es. AllAnswerFrom (operand_lists (g.C.CountedLeaves.text c.args.source.now) es) (start_at c.split_at_mut-mine.result.0.now ∷ starts_at (operand_forms c.in-Some.others.now) c.split_at_mut-mine.result.1.now) c.args.k) c.in-Some.ensures.cases.0 (subst (λ xs. AllAnswerFrom (operand_lists (g.C.CountedLeaves.text c.args.source.now) c.args.operands.now) xs c.args.k) here.starts c.requires.tells)).1)))))))

pub chains::both_find-both_ends-requires : goal.chains::both_find-both_ends-requires
chains::both_find-both_ends-requires g t c =
    λ κs l. (omega arith, (l.0, (l.1, (c.requires.operands.each, (c.requires.below, (c.requires.sound, (c.requires.stands, c.requires.below)))))))

pub chains::both_find-both_starts-requires : goal.chains::both_find-both_starts-requires
chains::both_find-both_starts-requires g t c =
    λ κs l. (omega arith, (l.0, (l.1, (c.requires.operands.each, (c.in_ok-end.ensures.below, (c.requires.sound, c.both_ends.ensures.stands))))))

pub reading::end-start-requires : goal.reading::end-start-requires
reading::end-start-requires g t c =
    λ κs l. (omega arith, (l.0, (l.1, (c.requires.well_formed, (c.requires.below, (c.requires.sound, c.requires.stands))))))

pub reading::node_end-start-requires : goal.reading::node_end-start-requires
reading::node_end-start-requires g t c =
    λ κs l. (omega arith, (l.0, (l.1, (c.requires.well_formed, (omega arith, (c.requires.sound, c.requires.stands))))))

pub reading::node_back-start-requires : goal.reading::node_back-start-requires
reading::node_back-start-requires g t c =
    λ κs l. (omega arith, (l.0, (l.1, (c.requires.well_formed, (omega arith, (c.requires.sound, c.requires.stands))))))

pub reading::node_back-peek-requires : goal.reading::node_back-peek-requires
reading::node_back-peek-requires g t c =
    λ κs l. (omega arith, (l.0, (l.1, (c.requires.node, (c.requires.well_formed, (c.loop-next.invariant.within, (c.requires.sound, (c.loop-next.invariant.stands, c.loop-next.invariant.on))))))))

pub reading::node_end-onward-requires : goal.reading::node_end-onward-requires
reading::node_end-onward-requires g t c =
    let ends : c.loop-member.member.end ≡ c.member.inside.end = sym (ap (λ (x : Extent). x.end) c.member.view_is) in
    λ κs l. (omega arith, (l.0, (l.1, (c.requires.node, (c.requires.well_formed, (c.requires.below, (c.requires.sound, (c.loop-member.invariant.stands, (c.loop-member.invariant.on, omega (arith, ends, c.loop-member-test.true))))))))))

-- what a call hands on
pub containments::ask-returns-in-Containing-clause-moved : goal.containments::ask-returns-in-Containing-clause-moved
containments::ask-returns-in-Containing-clause-moved g t c = c.start.ensures.moved

pub containments::ask-returns-in-Containing-clause-within : goal.containments::ask-returns-in-Containing-clause-within
containments::ask-returns-in-Containing-clause-within g t c = c.start.ensures.within

pub containments::ask-returns-in-Containing-clause-stands : goal.containments::ask-returns-in-Containing-clause-stands
containments::ask-returns-in-Containing-clause-stands g t c = c.start.ensures.stands

pub containments::ask-returns-in-Containing-clause-counted : goal.containments::ask-returns-in-Containing-clause-counted
containments::ask-returns-in-Containing-clause-counted g t c = c.start.ensures.counted

pub containments::ask-returns-in-Containing-clause-cost : goal.containments::ask-returns-in-Containing-clause-cost
containments::ask-returns-in-Containing-clause-cost g t c = c.start.ensures.cost

pub containments::ask-returns-in-ContainedIn-clause-moved : goal.containments::ask-returns-in-ContainedIn-clause-moved
containments::ask-returns-in-ContainedIn-clause-moved g t c = c.end.ensures.moved

pub containments::ask-returns-in-ContainedIn-clause-within : goal.containments::ask-returns-in-ContainedIn-clause-within
containments::ask-returns-in-ContainedIn-clause-within g t c = c.end.ensures.within

pub containments::ask-returns-in-ContainedIn-clause-stands : goal.containments::ask-returns-in-ContainedIn-clause-stands
containments::ask-returns-in-ContainedIn-clause-stands g t c = c.end.ensures.stands

pub containments::ask-returns-in-ContainedIn-clause-counted : goal.containments::ask-returns-in-ContainedIn-clause-counted
containments::ask-returns-in-ContainedIn-clause-counted g t c = c.end.ensures.counted

pub containments::ask-returns-in-ContainedIn-clause-cost : goal.containments::ask-returns-in-ContainedIn-clause-cost
containments::ask-returns-in-ContainedIn-clause-cost g t c = c.end.ensures.cost

pub containments::ask-returns-in-NotContaining-clause-moved : goal.containments::ask-returns-in-NotContaining-clause-moved
containments::ask-returns-in-NotContaining-clause-moved g t c = c.start-in-NotContaining.ensures.moved

pub containments::ask-returns-in-NotContaining-clause-within : goal.containments::ask-returns-in-NotContaining-clause-within
containments::ask-returns-in-NotContaining-clause-within g t c = c.start-in-NotContaining.ensures.within

pub containments::ask-returns-in-NotContaining-clause-stands : goal.containments::ask-returns-in-NotContaining-clause-stands
containments::ask-returns-in-NotContaining-clause-stands g t c = c.start-in-NotContaining.ensures.stands

pub containments::ask-returns-in-NotContaining-clause-counted : goal.containments::ask-returns-in-NotContaining-clause-counted
containments::ask-returns-in-NotContaining-clause-counted g t c = c.start-in-NotContaining.ensures.counted

pub containments::ask-returns-in-NotContaining-clause-cost : goal.containments::ask-returns-in-NotContaining-clause-cost
containments::ask-returns-in-NotContaining-clause-cost g t c = c.start-in-NotContaining.ensures.cost

pub containments::ask-returns-in-NotContainedIn-clause-moved : goal.containments::ask-returns-in-NotContainedIn-clause-moved
containments::ask-returns-in-NotContainedIn-clause-moved g t c = c.end-in-NotContainedIn.ensures.moved

pub containments::ask-returns-in-NotContainedIn-clause-within : goal.containments::ask-returns-in-NotContainedIn-clause-within
containments::ask-returns-in-NotContainedIn-clause-within g t c = c.end-in-NotContainedIn.ensures.within

pub containments::ask-returns-in-NotContainedIn-clause-stands : goal.containments::ask-returns-in-NotContainedIn-clause-stands
containments::ask-returns-in-NotContainedIn-clause-stands g t c = c.end-in-NotContainedIn.ensures.stands

pub containments::ask-returns-in-NotContainedIn-clause-counted : goal.containments::ask-returns-in-NotContainedIn-clause-counted
containments::ask-returns-in-NotContainedIn-clause-counted g t c = c.end-in-NotContainedIn.ensures.counted

pub containments::ask-returns-in-NotContainedIn-clause-cost : goal.containments::ask-returns-in-NotContainedIn-clause-cost
containments::ask-returns-in-NotContainedIn-clause-cost g t c = c.end-in-NotContainedIn.ensures.cost

pub containments::go_on-returns-in-Containing-clause-moved : goal.containments::go_on-returns-in-Containing-clause-moved
containments::go_on-returns-in-Containing-clause-moved g t c = c.end.ensures.moved

pub containments::go_on-returns-in-Containing-clause-within : goal.containments::go_on-returns-in-Containing-clause-within
containments::go_on-returns-in-Containing-clause-within g t c = c.end.ensures.within

pub containments::go_on-returns-in-Containing-clause-stands : goal.containments::go_on-returns-in-Containing-clause-stands
containments::go_on-returns-in-Containing-clause-stands g t c = c.end.ensures.stands

pub containments::go_on-returns-in-Containing-clause-counted : goal.containments::go_on-returns-in-Containing-clause-counted
containments::go_on-returns-in-Containing-clause-counted g t c = c.end.ensures.counted

pub containments::go_on-returns-in-Containing-clause-cost : goal.containments::go_on-returns-in-Containing-clause-cost
containments::go_on-returns-in-Containing-clause-cost g t c = c.end.ensures.cost

pub containments::go_on-returns-in-ContainedIn-clause-moved : goal.containments::go_on-returns-in-ContainedIn-clause-moved
containments::go_on-returns-in-ContainedIn-clause-moved g t c = c.start.ensures.moved

pub containments::go_on-returns-in-ContainedIn-clause-within : goal.containments::go_on-returns-in-ContainedIn-clause-within
containments::go_on-returns-in-ContainedIn-clause-within g t c = c.start.ensures.within

pub containments::go_on-returns-in-ContainedIn-clause-stands : goal.containments::go_on-returns-in-ContainedIn-clause-stands
containments::go_on-returns-in-ContainedIn-clause-stands g t c = c.start.ensures.stands

pub containments::go_on-returns-in-ContainedIn-clause-counted : goal.containments::go_on-returns-in-ContainedIn-clause-counted
containments::go_on-returns-in-ContainedIn-clause-counted g t c = c.start.ensures.counted

pub containments::go_on-returns-in-ContainedIn-clause-cost : goal.containments::go_on-returns-in-ContainedIn-clause-cost
containments::go_on-returns-in-ContainedIn-clause-cost g t c = c.start.ensures.cost

pub containments::go_on-returns-in-NotContaining-clause-moved : goal.containments::go_on-returns-in-NotContaining-clause-moved
containments::go_on-returns-in-NotContaining-clause-moved g t c = c.start-in-NotContaining.ensures.moved

pub containments::go_on-returns-in-NotContaining-clause-within : goal.containments::go_on-returns-in-NotContaining-clause-within
containments::go_on-returns-in-NotContaining-clause-within g t c = c.start-in-NotContaining.ensures.within

pub containments::go_on-returns-in-NotContaining-clause-stands : goal.containments::go_on-returns-in-NotContaining-clause-stands
containments::go_on-returns-in-NotContaining-clause-stands g t c = c.start-in-NotContaining.ensures.stands

pub containments::go_on-returns-in-NotContaining-clause-counted : goal.containments::go_on-returns-in-NotContaining-clause-counted
containments::go_on-returns-in-NotContaining-clause-counted g t c = c.start-in-NotContaining.ensures.counted

pub containments::go_on-returns-in-NotContaining-clause-cost : goal.containments::go_on-returns-in-NotContaining-clause-cost
containments::go_on-returns-in-NotContaining-clause-cost g t c = c.start-in-NotContaining.ensures.cost

pub containments::go_on-returns-in-NotContainedIn-clause-moved : goal.containments::go_on-returns-in-NotContainedIn-clause-moved
containments::go_on-returns-in-NotContainedIn-clause-moved g t c = c.end-in-NotContainedIn.ensures.moved

pub containments::go_on-returns-in-NotContainedIn-clause-within : goal.containments::go_on-returns-in-NotContainedIn-clause-within
containments::go_on-returns-in-NotContainedIn-clause-within g t c = c.end-in-NotContainedIn.ensures.within

pub containments::go_on-returns-in-NotContainedIn-clause-stands : goal.containments::go_on-returns-in-NotContainedIn-clause-stands
containments::go_on-returns-in-NotContainedIn-clause-stands g t c = c.end-in-NotContainedIn.ensures.stands

pub containments::go_on-returns-in-NotContainedIn-clause-counted : goal.containments::go_on-returns-in-NotContainedIn-clause-counted
containments::go_on-returns-in-NotContainedIn-clause-counted g t c = c.end-in-NotContainedIn.ensures.counted

pub containments::go_on-returns-in-NotContainedIn-clause-cost : goal.containments::go_on-returns-in-NotContainedIn-clause-cost
containments::go_on-returns-in-NotContainedIn-clause-cost g t c = c.end-in-NotContainedIn.ensures.cost

pub reading::node_end-returns-in_err-member-clause-stands : goal.reading::node_end-returns-in_err-member-clause-stands
reading::node_end-returns-in_err-member-clause-stands g t c = c.start.ensures.stands

pub reading::node_end-returns-in_err-member-clause-counted : goal.reading::node_end-returns-in_err-member-clause-counted
reading::node_end-returns-in_err-member-clause-counted g t c = c.start.ensures.counted

pub reading::node_end-returns-in_err-member-clause-cost : goal.reading::node_end-returns-in_err-member-clause-cost
reading::node_end-returns-in_err-member-clause-cost g t c = c.start.ensures.cost

pub reading::node_end-returns-in_err-member-2-clause-stands : goal.reading::node_end-returns-in_err-member-2-clause-stands
reading::node_end-returns-in_err-member-2-clause-stands g t c = c.onward.ensures.stands

pub reading::node_end-returns-in_err-member-2-clause-counted : goal.reading::node_end-returns-in_err-member-2-clause-counted
reading::node_end-returns-in_err-member-2-clause-counted g t c = omega (arith, c.loop-member.invariant.counted, c.onward.ensures.counted)

pub reading::node_end-returns-in_err-member-2-clause-cost : goal.reading::node_end-returns-in_err-member-2-clause-cost
reading::node_end-returns-in_err-member-2-clause-cost g t c = omega (arith, c.loop-member.invariant.cost, c.onward.ensures.cost)

pub reading::node_end-returns-clause-stands : goal.reading::node_end-returns-clause-stands
reading::node_end-returns-clause-stands g t c = c.loop-member.invariant.stands

pub reading::node_end-returns-clause-within : goal.reading::node_end-returns-clause-within
reading::node_end-returns-clause-within g t c = c.loop-member.invariant.within

pub reading::node_end-returns-clause-counted : goal.reading::node_end-returns-clause-counted
reading::node_end-returns-clause-counted g t c = c.loop-member.invariant.counted

pub reading::node_end-returns-clause-cost : goal.reading::node_end-returns-clause-cost
reading::node_end-returns-clause-cost g t c = c.loop-member.invariant.cost

pub reading::node_back-returns-in_err-member-clause-stands : goal.reading::node_back-returns-in_err-member-clause-stands
reading::node_back-returns-in_err-member-clause-stands g t c = c.start.ensures.stands

pub reading::node_back-returns-in_err-member-clause-counted : goal.reading::node_back-returns-in_err-member-clause-counted
reading::node_back-returns-in_err-member-clause-counted g t c = c.start.ensures.counted

pub reading::node_back-returns-in_err-member-clause-cost : goal.reading::node_back-returns-in_err-member-clause-cost
reading::node_back-returns-in_err-member-clause-cost g t c = omega (arith, c.start.ensures.cost)

pub reading::node_back-returns-then-k-member-clause-stands : goal.reading::node_back-returns-then-k-member-clause-stands
reading::node_back-returns-then-k-member-clause-stands g t c = c.start.ensures.stands

pub reading::node_back-returns-then-k-member-clause-counted : goal.reading::node_back-returns-then-k-member-clause-counted
reading::node_back-returns-then-k-member-clause-counted g t c = c.start.ensures.counted

pub reading::node_back-returns-then-k-member-clause-cost : goal.reading::node_back-returns-then-k-member-clause-cost
reading::node_back-returns-then-k-member-clause-cost g t c = omega (arith, c.start.ensures.cost)

pub reading::node_back-returns-then-k-member-clause-moved : goal.reading::node_back-returns-then-k-member-clause-moved
reading::node_back-returns-then-k-member-clause-moved g t c = tt

pub reading::node_back-returns-then-k-member-clause-within : goal.reading::node_back-returns-then-k-member-clause-within
reading::node_back-returns-then-k-member-clause-within g t c = tt

pub reading::node_back-returns-clause-stands : goal.reading::node_back-returns-clause-stands
reading::node_back-returns-clause-stands g t c = c.peek.ensures.stands

pub reading::node_back-returns-clause-within : goal.reading::node_back-returns-clause-within
reading::node_back-returns-clause-within g t c = c.loop-next.invariant.within

pub reading::node_back-returns-clause-counted : goal.reading::node_back-returns-clause-counted
reading::node_back-returns-clause-counted g t c = omega (arith, c.loop-next.invariant.counted, c.peek.ensures.counted)

pub reading::node_back-returns-clause-cost : goal.reading::node_back-returns-clause-cost
reading::node_back-returns-clause-cost g t c = omega (arith, c.loop-next.invariant.cost, c.peek.ensures.cost)

pub reading::node_back-returns-clause-moved : goal.reading::node_back-returns-clause-moved
reading::node_back-returns-clause-moved g t c = omega (arith, ap start_left c.peek.ensures.front)

pub reading::peek-returns-clause-answer : goal.reading::peek-returns-clause-answer
reading::peek-returns-clause-answer g t c =
    let starts : c.args.member.start ≡ c.member.inside.start = sym (ap (λ (x : Extent). x.start) c.member.view_is) in
    c.look-next.ensures.answer ∙ ap (λ n. first_start (concordance (g.C.CountedLeaves.text c.args.source.now) (form_of c.args.expr.now)) (n + 1)) (sym starts)

pub reading::peek-returns-clause-counted : goal.reading::peek-returns-clause-counted
reading::peek-returns-clause-counted g t c = c.look-next.ensures.counted

pub reading::find-returns-in-Both-clause-counted : goal.reading::find-returns-in-Both-clause-counted
reading::find-returns-in-Both-clause-counted g t c = omega (arith, c.element_at_hand.ensures.counted, c.both_find.ensures.counted)

pub reading::find-returns-in-Both-clause-len : goal.reading::find-returns-in-Both-clause-len
reading::find-returns-in-Both-clause-len g t c = c.both_find.ensures.len

pub reading::find-returns-in-One-clause-counted : goal.reading::find-returns-in-One-clause-counted
reading::find-returns-in-One-clause-counted g t c = omega (arith, c.element_at_hand.ensures.counted, c.one_find.ensures.counted)

pub reading::find-returns-in-One-clause-len : goal.reading::find-returns-in-One-clause-len
reading::find-returns-in-One-clause-len g t c = c.one_find.ensures.len

pub reading::find-returns-in-Seq-clause-counted : goal.reading::find-returns-in-Seq-clause-counted
reading::find-returns-in-Seq-clause-counted g t c = omega (arith, c.element_at_hand.ensures.counted, c.seq_find.ensures.counted)

pub reading::find-returns-in-Seq-clause-len : goal.reading::find-returns-in-Seq-clause-len
reading::find-returns-in-Seq-clause-len g t c = c.seq_find.ensures.len

pub reading::find-returns-in-Containing-clause-counted : goal.reading::find-returns-in-Containing-clause-counted
reading::find-returns-in-Containing-clause-counted g t c = omega (arith, c.element_at_hand.ensures.counted, c.containment_find.ensures.counted)

pub reading::find-returns-in-Containing-clause-len : goal.reading::find-returns-in-Containing-clause-len
reading::find-returns-in-Containing-clause-len g t c = c.containment_find.ensures.len

pub reading::find-returns-in-Containing-clause-answer : goal.reading::find-returns-in-Containing-clause-answer
reading::find-returns-in-Containing-clause-answer g t c = c.containment_find.ensures.answer

pub reading::find-returns-in-Containing-clause-stands : goal.reading::find-returns-in-Containing-clause-stands
reading::find-returns-in-Containing-clause-stands g t c = c.containment_find.ensures.stands

pub reading::find-returns-in-Containing-clause-tells : goal.reading::find-returns-in-Containing-clause-tells
reading::find-returns-in-Containing-clause-tells g t c = c.containment_find.ensures.tells

pub reading::find-returns-in-Containing-clause-cost : goal.reading::find-returns-in-Containing-clause-cost
reading::find-returns-in-Containing-clause-cost g t c =
    let same = c.in_default.ensures.none refl in
    find_by (g.C.CountedLeaves.text c.args.source.now) (g.C.CountedLeaves.most c.args.source.now) (form_of c.args.expr.now) (form_of c.args.expr.now) refl c.args.places.now c.containment_find.new.places (g.C.CountedLeaves.count c.args.counter.now) (g.C.CountedLeaves.count c.containment_find.new.counter) c.args.k c.containment_find.result
    (subst (λ n. g.C.CountedLeaves.count c.containment_find.new.counter + cost_below (g.C.CountedLeaves.text c.args.source.now) (g.C.CountedLeaves.most c.args.source.now) (form_of c.args.expr.now) c.containment_find.new.places ≤ n + cost_below (g.C.CountedLeaves.text c.args.source.now) (g.C.CountedLeaves.most c.args.source.now) (form_of c.args.expr.now) c.args.places.now + member_cost (g.C.CountedLeaves.text c.args.source.now) (g.C.CountedLeaves.most c.args.source.now) (form_of c.args.expr.now)) same c.containment_find.ensures.cost)

pub reading::find-returns-in-Seq-clause-tells : goal.reading::find-returns-in-Seq-clause-tells
reading::find-returns-in-Seq-clause-tells g t c =
    let form = form-Seq c.args.expr.now c.in-Seq.operands c.deref-in-Seq.result.now c.in-Seq.is c.deref-in-Seq.ensures.value in
    seq_tell (g.C.CountedLeaves.text c.args.source.now) (form_of c.args.expr.now) (operand_forms c.deref-in-Seq.result.now) form c.seq_find.new.places c.seq_find.result c.seq_find.ensures.tells

pub reading::find-returns-in-Term-clause-answer : goal.reading::find-returns-in-Term-clause-answer
reading::find-returns-in-Term-clause-answer g t c = c.term_find.ensures.answer ∙ ap (λ f. first_start (concordance (g.C.CountedLeaves.text c.args.source.now) f) c.args.k) (sym (form-Term c.args.expr.now c.in-Term.token c.in-Term.is))

pub reading::find-returns-in-Term-clause-tells : goal.reading::find-returns-in-Term-clause-tells
reading::find-returns-in-Term-clause-tells g t c = subst (λ f. Tell (g.C.CountedLeaves.text c.args.source.now) f (front_at c.term_find.result) c.args.places.now) (sym (form-Term c.args.expr.now c.in-Term.token c.in-Term.is)) tt

pub reading::find-returns-in-Term-clause-counted : goal.reading::find-returns-in-Term-clause-counted
reading::find-returns-in-Term-clause-counted g t c = omega (arith, c.element_at_hand.ensures.counted, c.term_find.ensures.counted)

pub reading::find-returns-in-Term-clause-len : goal.reading::find-returns-in-Term-clause-len
reading::find-returns-in-Term-clause-len g t c = refl

pub reading::find-returns-in-Term-clause-stands : goal.reading::find-returns-in-Term-clause-stands
reading::find-returns-in-Term-clause-stands g t c = c.requires.stands

pub reading::find-returns-in-Phrase-clause-len : goal.reading::find-returns-in-Phrase-clause-len
reading::find-returns-in-Phrase-clause-len g t c = refl

pub reading::find-returns-in-Phrase-clause-stands : goal.reading::find-returns-in-Phrase-clause-stands
reading::find-returns-in-Phrase-clause-stands g t c = c.requires.stands

pub reading::find-returns-in-Some-clause-answer : goal.reading::find-returns-in-Some-clause-answer
reading::find-returns-in-Some-clause-answer g t c = c.in-Some.ensures.answer

pub reading::find-returns-in-Some-clause-counted : goal.reading::find-returns-in-Some-clause-counted
reading::find-returns-in-Some-clause-counted g t c = c.element_at_hand.ensures.counted

pub reading::find-returns-in-Some-clause-stands : goal.reading::find-returns-in-Some-clause-stands
reading::find-returns-in-Some-clause-stands g t c = c.requires.stands

pub reading::find-returns-in-Some-clause-len : goal.reading::find-returns-in-Some-clause-len
reading::find-returns-in-Some-clause-len g t c = refl

pub reading::end-returns-in-Term-clause-moved : goal.reading::end-returns-in-Term-clause-moved
reading::end-returns-in-Term-clause-moved g t c = c.start.ensures.moved

pub reading::end-returns-in-Term-clause-within : goal.reading::end-returns-in-Term-clause-within
reading::end-returns-in-Term-clause-within g t c = c.start.ensures.within

pub reading::end-returns-in-Term-clause-stands : goal.reading::end-returns-in-Term-clause-stands
reading::end-returns-in-Term-clause-stands g t c = c.start.ensures.stands

pub reading::end-returns-in-Term-clause-counted : goal.reading::end-returns-in-Term-clause-counted
reading::end-returns-in-Term-clause-counted g t c = c.start.ensures.counted

pub reading::end-returns-in-Term-clause-cost : goal.reading::end-returns-in-Term-clause-cost
reading::end-returns-in-Term-clause-cost g t c = c.start.ensures.cost

pub reading::start-returns-in-Width-clause-stands : goal.reading::start-returns-in-Width-clause-stands
reading::start-returns-in-Width-clause-stands g t c = c.requires.stands

pub reading::end-returns-in-Width-clause-stands : goal.reading::end-returns-in-Width-clause-stands
reading::end-returns-in-Width-clause-stands g t c = c.requires.stands

pub reading::back-returns-in-Width-clause-stands : goal.reading::back-returns-in-Width-clause-stands
reading::back-returns-in-Width-clause-stands g t c = c.requires.stands

pub reading::onward-returns-in_default-clause-cost : goal.reading::onward-returns-in_default-clause-cost
reading::onward-returns-in_default-clause-cost g t c = c.start.ensures.cost

pub reading::onward-returns-in_default-clause-counted : goal.reading::onward-returns-in_default-clause-counted
reading::onward-returns-in_default-clause-counted g t c = c.start.ensures.counted

pub reading::onward-returns-in_default-clause-stands : goal.reading::onward-returns-in_default-clause-stands
reading::onward-returns-in_default-clause-stands g t c = c.start.ensures.stands

pub reading::onward-returns-in_default-clause-on : goal.reading::onward-returns-in_default-clause-on
reading::onward-returns-in_default-clause-on g t c = c.start.ensures.on c.requires.node

pub reading::onward-returns-in-Seq-On-clause-cost : goal.reading::onward-returns-in-Seq-On-clause-cost
reading::onward-returns-in-Seq-On-clause-cost g t c = c.seq_onward.ensures.cost

pub reading::onward-returns-in-Seq-On-clause-counted : goal.reading::onward-returns-in-Seq-On-clause-counted
reading::onward-returns-in-Seq-On-clause-counted g t c = c.seq_onward.ensures.counted

pub reading::onward-returns-in-Seq-On-clause-stands : goal.reading::onward-returns-in-Seq-On-clause-stands
reading::onward-returns-in-Seq-On-clause-stands g t c = c.seq_onward.ensures.stands

pub reading::onward-returns-in-Seq-On-clause-onward : goal.reading::onward-returns-in-Seq-On-clause-onward
reading::onward-returns-in-Seq-On-clause-onward g t c = c.seq_onward.ensures.onward

pub reading::onward-returns-in-Seq-On-clause-on : goal.reading::onward-returns-in-Seq-On-clause-on
reading::onward-returns-in-Seq-On-clause-on g t c = ap member_of c.seq_onward.ensures.front ∙ member_front c.seq_onward.result

pub chains::both_find-returns-in_err-end-clause-counted : goal.chains::both_find-returns-in_err-end-clause-counted
chains::both_find-returns-in_err-end-clause-counted g t c = c.both_ends.ensures.counted

pub chains::both_find-returns-in_err-end-clause-len : goal.chains::both_find-returns-in_err-end-clause-len
chains::both_find-returns-in_err-end-clause-len g t c = c.both_ends.ensures.len

pub chains::both_find-returns-in_err-end-clause-stands : goal.chains::both_find-returns-in_err-end-clause-stands
chains::both_find-returns-in_err-end-clause-stands g t c = c.both_ends.ensures.stands

pub chains::both_find-returns-in_err-end-clause-cost : goal.chains::both_find-returns-in_err-end-clause-cost
chains::both_find-returns-in_err-end-clause-cost g t c = omega (arith, c.both_ends.ensures.cost)

pub chains::both_find-returns-in_err-start-clause-stands : goal.chains::both_find-returns-in_err-start-clause-stands
chains::both_find-returns-in_err-start-clause-stands g t c = c.both_starts.ensures.stands

pub chains::both_find-returns-clause-stands : goal.chains::both_find-returns-clause-stands
chains::both_find-returns-clause-stands g t c = c.both_starts.ensures.stands

pub chains::seq_find-returns-in_err-first-clause-counted : goal.chains::seq_find-returns-in_err-first-clause-counted
chains::seq_find-returns-in_err-first-clause-counted g t c = c.start.ensures.counted

pub chains::seq_find-returns-then-is_empty-clause-counted : goal.chains::seq_find-returns-then-is_empty-clause-counted
chains::seq_find-returns-then-is_empty-clause-counted g t c = c.start.ensures.counted

pub chains::seq_find-returns-then-is_empty-clause-within : goal.chains::seq_find-returns-then-is_empty-clause-within
chains::seq_find-returns-then-is_empty-clause-within g t c = c.in_ok-first.ensures.within

pub chains::both_ends-returns-in_err-answer-clause-counted : goal.chains::both_ends-returns-in_err-answer-clause-counted
chains::both_ends-returns-in_err-answer-clause-counted g t c = c.start.ensures.counted

pub chains::both_starts-returns-in_err-answer-clause-counted : goal.chains::both_starts-returns-in_err-answer-clause-counted
chains::both_starts-returns-in_err-answer-clause-counted g t c = c.back.ensures.counted

pub chains::seq_onward-returns-in-Some-clause-counted : goal.chains::seq_onward-returns-in-Some-clause-counted
chains::seq_onward-returns-in-Some-clause-counted g t c = c.element_onward.ensures.counted

pub chains::seq_onward-returns-clause-counted : goal.chains::seq_onward-returns-clause-counted
chains::seq_onward-returns-clause-counted g t c = omega (arith, c.element_onward.ensures.counted, c.seq_find-found.ensures.counted)

pub containments::containment_find-returns-in_err-member-clause-counted : goal.containments::containment_find-returns-in_err-member-clause-counted
containments::containment_find-returns-in_err-member-clause-counted g t c = c.start.ensures.counted

pub reading::look-returns-clause-answer : goal.reading::look-returns-clause-answer
reading::look-returns-clause-answer g t c = c.find-found.ensures.answer

pub reading::look-returns-clause-counted : goal.reading::look-returns-clause-counted
reading::look-returns-clause-counted g t c = c.find-found.ensures.counted

pub reading::peek-returns-in-Between-clause-stands : goal.reading::peek-returns-in-Between-clause-stands
reading::peek-returns-in-Between-clause-stands g t c = c.requires.stands

pub reading::find-one_find-requires : goal.reading::find-one_find-requires
reading::find-one_find-requires g t c =
    let form = form-One c.args.expr.now c.in-One.operands c.deref-in-One.result.now c.in-One.is c.deref-in-One.ensures.value in
    let fewer = ap nodes form in
    λ κs l. (omega arith, (l.0, (l.1, ((subst IsWellFormed form c.requires.well_formed).1, (c.requires.below, (c.requires.sound, (subst (λ f. StandBelow (g.C.CountedLeaves.text c.args.source.now) f c.args.places.now) form c.requires.stands, subst (λ f. TellsFrom (g.C.CountedLeaves.text c.args.source.now) f c.args.places.now c.args.k) form c.requires.tells)))))))

pub containments::containment_find-ask-answer-requires : goal.containments::containment_find-ask-answer-requires
containments::containment_find-ask-answer-requires g t c =
    let parts = both_operands c.operands-containment.result.0 (form_of c.args.expr.now) (form_of c.operands-containment.result.1.now) (form_of c.operands-containment.result.2.now) c.operands-containment.ensures c.requires.well_formed in
    let here = contain_split c.operands-containment.result.0 (g.C.CountedLeaves.text c.args.source.now) (form_of c.args.expr.now) (form_of c.operands-containment.result.1.now) (form_of c.operands-containment.result.2.now) c.operands-containment.ensures c.args.places.now c.split_at_mut-first_places.result.0.now c.split_at_mut-first_places.result.1.now c.args.k c.size_of-size.result c.requires.stands c.requires.tells c.size_of-size.ensures c.split_at_mut-first_places.ensures.front c.split_at_mut-first_places.ensures.back in
    let fewer = here.fewer in
    λ κs l. (omega arith, (l.0, (l.1, (parts.second, (c.loop-next.invariant.within, (c.requires.sound, c.loop-next.invariant.second))))))

pub containments::containment_find-turn-requires-clause-member_below : goal.containments::containment_find-turn-requires-clause-member_below
containments::containment_find-turn-requires-clause-member_below g t c = omega (arith, c.loop-next.invariant.within)

pub containments::containment_find-turn-requires-clause-answer_below : goal.containments::containment_find-turn-requires-clause-answer_below
containments::containment_find-turn-requires-clause-answer_below g t c = IfSome_then c.ask-answer.result c.ask-answer.ensures.within (λ b lt. omega (arith, lt))

pub containments::ask-returns-in-Containing-clause-answer : goal.containments::ask-returns-in-Containing-clause-answer
containments::ask-returns-in-Containing-clause-answer g t c =
    let at : c.args.member.start ≡ c.member.inside.start = sym (ap (λ (x : Extent). x.start) c.member.view_is) in
    c.start.ensures.answer ∙ ap (first_start (left_to (g.C.CountedLeaves.text c.args.source.now) (form_of c.args.second.now) c.args.places.now)) (sym at) ∙ ap (λ k. (loop_of Forward k).ask (left_to (g.C.CountedLeaves.text c.args.source.now) (form_of c.args.second.now) c.args.places.now) c.args.member) (sym c.in-Containing.is)

pub containments::ask-returns-in-ContainedIn-clause-answer : goal.containments::ask-returns-in-ContainedIn-clause-answer
containments::ask-returns-in-ContainedIn-clause-answer g t c =
    let at : c.args.member.end ≡ c.member.inside.end = sym (ap (λ (x : Extent). x.end) c.member.view_is) in
    c.end.ensures.answer ∙ ap (first_end (left_to (g.C.CountedLeaves.text c.args.source.now) (form_of c.args.second.now) c.args.places.now)) (sym at) ∙ ap (λ k. (loop_of Forward k).ask (left_to (g.C.CountedLeaves.text c.args.source.now) (form_of c.args.second.now) c.args.places.now) c.args.member) (sym c.in-ContainedIn.is)

pub containments::ask-returns-in-NotContaining-clause-answer : goal.containments::ask-returns-in-NotContaining-clause-answer
containments::ask-returns-in-NotContaining-clause-answer g t c =
    let at : c.args.member.start ≡ c.member.inside.start = sym (ap (λ (x : Extent). x.start) c.member.view_is) in
    c.start-in-NotContaining.ensures.answer ∙ ap (first_start (left_to (g.C.CountedLeaves.text c.args.source.now) (form_of c.args.second.now) c.args.places.now)) (sym at) ∙ ap (λ k. (loop_of Forward k).ask (left_to (g.C.CountedLeaves.text c.args.source.now) (form_of c.args.second.now) c.args.places.now) c.args.member) (sym c.in-NotContaining.is)

pub containments::ask-returns-in-NotContainedIn-clause-answer : goal.containments::ask-returns-in-NotContainedIn-clause-answer
containments::ask-returns-in-NotContainedIn-clause-answer g t c =
    let at : c.args.member.end ≡ c.member.inside.end = sym (ap (λ (x : Extent). x.end) c.member.view_is) in
    c.end-in-NotContainedIn.ensures.answer ∙ ap (first_end (left_to (g.C.CountedLeaves.text c.args.source.now) (form_of c.args.second.now) c.args.places.now)) (sym at) ∙ ap (λ k. (loop_of Forward k).ask (left_to (g.C.CountedLeaves.text c.args.source.now) (form_of c.args.second.now) c.args.places.now) c.args.member) (sym c.in-NotContainedIn.is)

pub chains::both_ends-returns-in_default-clause-answer : goal.chains::both_ends-returns-in_default-clause-answer
chains::both_ends-returns-in_default-clause-answer g t c =
    let nil : c.args.operands.now ≡ [] = nil_from_length c.args.operands.now c.in_default.ensures.cases in
    subst (λ es. Some c.args.so_far ≡ end_so_far (all_left (operand_lists (g.C.CountedLeaves.text c.args.source.now) es) (starts_at (operand_forms es) c.args.places.now)) c.args.k c.args.so_far) (sym nil) refl

pub chains::both_starts-returns-in_default-clause-answer : goal.chains::both_starts-returns-in_default-clause-answer
chains::both_starts-returns-in_default-clause-answer g t c =
    let nil : c.args.operands.now ≡ [] = nil_from_length c.args.operands.now c.in_default.ensures.cases in
    subst (λ es. Some c.args.so_far ≡ start_so_far (all_left (operand_lists (g.C.CountedLeaves.text c.args.source.now) es) (starts_at (operand_forms es) c.args.places.now)) c.args.k c.args.so_far) (sym nil) refl

pub chains::both_ends-returns-in_default-clause-moved : goal.chains::both_ends-returns-in_default-clause-moved
chains::both_ends-returns-in_default-clause-moved g t c =
    let nil : c.args.operands.now ≡ [] = nil_from_length c.args.operands.now c.in_default.ensures.cases in
    subst (λ es. HaveMoved (operand_lists (g.C.CountedLeaves.text c.args.source.now) es) (starts_at (operand_forms es) c.args.places.now) (starts_at (operand_forms es) c.args.places.now) c.args.k) (sym nil) tt

pub chains::both_starts-returns-in_default-clause-moved : goal.chains::both_starts-returns-in_default-clause-moved
chains::both_starts-returns-in_default-clause-moved g t c =
    let nil : c.args.operands.now ≡ [] = nil_from_length c.args.operands.now c.in_default.ensures.cases in
    subst (λ es. HaveMovedBack (operand_lists (g.C.CountedLeaves.text c.args.source.now) es) (starts_at (operand_forms es) c.args.places.now) (starts_at (operand_forms es) c.args.places.now) c.args.k) (sym nil) tt

pub chains::one_find-returns-in_default-clause-answer : goal.chains::one_find-returns-in_default-clause-answer
chains::one_find-returns-in_default-clause-answer g t c =
    let nil : c.args.operands.now ≡ [] = nil_from_length c.args.operands.now c.in_default.ensures.cases in
    subst (λ es. c.args.best ≡ best_forward (operand_lists (g.C.CountedLeaves.text c.args.source.now) es) c.args.k c.args.best) (sym nil) refl

pub chains::one_find-returns-in_default-clause-tells : goal.chains::one_find-returns-in_default-clause-tells
chains::one_find-returns-in_default-clause-tells g t c = c.requires.tells

pub chains::both_ends-returns-in_default-clause-stands : goal.chains::both_ends-returns-in_default-clause-stands
chains::both_ends-returns-in_default-clause-stands g t c = c.requires.stands

pub chains::both_starts-returns-in_default-clause-stands : goal.chains::both_starts-returns-in_default-clause-stands
chains::both_starts-returns-in_default-clause-stands g t c = c.requires.stands

pub chains::one_find-returns-in_default-clause-stands : goal.chains::one_find-returns-in_default-clause-stands
chains::one_find-returns-in_default-clause-stands g t c = c.requires.stands

pub chains::seq_find-returns-in_err-operand-clause-answer : goal.chains::seq_find-returns-in_err-operand-clause-answer
chains::seq_find-returns-in_err-operand-clause-answer g t c = absurd (omega (arith, c.requires.some, c.in_err-operand.ensures.cases))

pub chains::seq_find-returns-in_err-operand-clause-cost : goal.chains::seq_find-returns-in_err-operand-clause-cost
chains::seq_find-returns-in_err-operand-clause-cost g t c = absurd (omega (arith, c.requires.some, c.in_err-operand.ensures.cases))

pub chains::seq_find-returns-in_err-operand-clause-stands : goal.chains::seq_find-returns-in_err-operand-clause-stands
chains::seq_find-returns-in_err-operand-clause-stands g t c = c.requires.stands
