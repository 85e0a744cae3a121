use Rattle.std.proofs.Common.{◌≡◌, ℕ, ◌+◌, ◌<◌, ◌≤◌, true, List, [], ◌∷◌, ◌++◌, get_or, subst, sym, ap, slice_set, length, length-append, ◌∙◌, arith, le_refl}
use Rattle.std.specs.List.{concat}
use Rattle.std.proofs.lemmas.List.{get_or_at, length-set}
use Rattle.index_shard.specs.Tables.{TermEntry}
use Rattle.slot_terms.specs.Leasts.{IsLeastAt}
use Rattle.slot_terms.specs.Parts.{PartContent, alive, head_postings, is_headed, past}
use Rattle.slot_terms.specs.declared.least.Least.{Least}
use Rattle.slot_terms.proofs.Taken.{taken_all, taken_alone, taken_first, taken_length, taken_more}
use Rattle.slot_terms.proofs.terms.take_term_lists.Goals as goal

pub returns-then-least-eq0-clause-lists : goal.returns-then-least-eq0-clause-lists
returns-then-least-eq0-clause-lists c =
    let parts = c.args.parts.now in
    let least = c.args.least.now in
    let base = concat c.args.lists.now.items in
    let first = taken_first parts least base (concat c.take_first.new.lists.items) c.index-parts-least.result c.take_first.new.self c.requires c.in_ok-take_first.ensures.lists c.in_ok-take_first.ensures.past in
    (taken_all least.first.term.now parts _ base _ (length parts) (le_refl (length parts)) (taken_alone parts _ least base _ c.requires c.if-least-eq0.true first)).0

pub returns-then-least-eq0-clause-past : goal.returns-then-least-eq0-clause-past
returns-then-least-eq0-clause-past c =
    let parts = c.args.parts.now in
    let least = c.args.least.now in
    let base = concat c.args.lists.now.items in
    let first = taken_first parts least base (concat c.take_first.new.lists.items) c.index-parts-least.result c.take_first.new.self c.requires c.in_ok-take_first.ensures.lists c.in_ok-take_first.ensures.past in
    (taken_all least.first.term.now parts _ base _ (length parts) (le_refl (length parts)) (taken_alone parts _ least base _ c.requires c.if-least-eq0.true first)).1

pub loop-place-init : goal.loop-place-init
loop-place-init c =
    taken_first c.args.parts.now c.args.least.now (concat c.args.lists.now.items) (concat c.take_first.new.lists.items) c.index-parts-least.result c.take_first.new.self c.requires
    c.in_ok-take_first.ensures.lists c.in_ok-take_first.ensures.past

pub loop-place-preserved : goal.loop-place-preserved
loop-place-preserved c =
    let parts = c.args.parts.now in
    let base = concat c.args.lists.now.items in
    let out = concat c.loop-place.lists.items in
    let term = c.args.least.now.first.term.now in
    let item = c.index-parts-place.result in
    let first =
    taken_first parts c.args.least.now base (concat c.take_first.new.lists.items) c.index-parts-least.result c.take_first.new.self c.requires c.in_ok-take_first.ensures.lists c.in_ok-take_first.ensures.past in
    let long = taken_length term parts c.loop-place.parts base out c.loop-place.place c.loop-place.invariant in
    let end = taken_length term parts (slice_set parts c.args.least.now.place c.take_first.new.self) base (concat c.take_first.new.lists.items) (c.args.least.now.place + 1) first in
    taken_more term parts c.loop-place.parts base out (concat c.take_list.new.lists.items) c.loop-place.place item c.take_list.new.self (omega (arith, long, end)) c.loop-place.invariant
    c.index-parts-place.is
    (c.in_ok-take_list.ensures.past ∙ ap (past term) (sym c.index-parts-place.is))
    (c.in_ok-take_list.ensures.lists ∙ ap (λ (p : PartContent). out ++ alive p.mask (head_postings p.left term)) (sym c.index-parts-place.is))

some_left : (left : List TermEntry) (term : List ℕ) → is_headed left term ≡ true → 0 < length left
some_left [] term headed = absurd (cc headed)
some_left (entry ∷ entries) term headed = omega arith

least_there : (parts : List PartContent) (least : Least) (d : PartContent) → IsLeastAt parts least → (least.place < length parts) × (0 < length (get_or parts least.place d).left)
least_there parts least d at =
    let long = ap length at.parts_are ∙ length-append at.before (at.part ∷ at.behind) in
    let place = at.place_is in
    let there : get_or parts least.place d ≡ at.part = ap (λ l. get_or l least.place d) at.parts_are ∙ get_or_at at.before at.part at.behind d least.place (sym place) in
    (omega (arith, long, place), subst (λ (p : PartContent). 0 < length p.left) (sym there) (some_left at.part.left least.first.term.now at.has))

pub bounds-parts-least : goal.bounds-parts-least
bounds-parts-least c = (least_there c.args.parts.now c.args.least.now c.requires.part c.requires).0

pub take_first-requires : goal.take_first-requires
take_first-requires c = (least_there c.args.parts.now c.args.least.now c.index-parts-least.result c.requires).1

pub take_list-requires : goal.take_list-requires
take_list-requires c = c.requires.is

pub bounds-parts-place : goal.bounds-parts-place
bounds-parts-place c = subst (λ n. c.loop-place.place < n) (sym c.loop-place.auto.parts) c.loop-place-test.true

pub returns-clause-lists : goal.returns-clause-lists
returns-clause-lists c =
    let parts = c.args.parts.now in
    let all = subst (λ n. n ≤ c.loop-place.place) (length-set parts c.args.least.now.place c.take_first.new.self) c.loop-place-test.false in
    (taken_all c.args.least.now.first.term.now parts c.loop-place.parts (concat c.args.lists.now.items) (concat c.loop-place.lists.items) c.loop-place.place all c.loop-place.invariant).0

pub returns-clause-past : goal.returns-clause-past
returns-clause-past c =
    let parts = c.args.parts.now in
    let all = subst (λ n. n ≤ c.loop-place.place) (length-set parts c.args.least.now.place c.take_first.new.self) c.loop-place-test.false in
    (taken_all c.args.least.now.first.term.now parts c.loop-place.parts (concat c.args.lists.now.items) (concat c.loop-place.lists.items) c.loop-place.place all c.loop-place.invariant).1
