use Rattle.std.proofs.Common.{◌≡◌, ◌+◌, ◌-◌, ◌*◌, ◌<◌, ◌≤◌, Some, None, length, ap, sym, subst, ◌∙◌, inl, inr, arith}
use Rattle.gcl_model.specs.Cost.{fewest_places}
use Rattle.gcl_model.specs.Texts.{previous_place}
use Rattle.phrase_walk.proofs.Rows.{IsInPlace, token_at, token_is}
use Rattle.phrase_walk.proofs.Asked.{asked_start, asked_turns, rounds_within}
use Rattle.phrase_walk.proofs.Steps.{Leads, NoneBehind, IsAskedBackward, passed_downto, from_last, backward_short, backward_init, backward_on, backward_found, backward_cost, none_behind_previous, no_previous, no_room, previous_within, closer_back}
use Rattle.phrase_walk.proofs.walks.last_upto.Goals as goal
use Rattle.phrase_walk.proofs.walks.last_upto.Goals.{then-latest-start, else-latest-start}

pub returns-in_default-clause-answer : goal.returns-in_default-clause-answer
returns-in_default-clause-answer g c =
    let next : c.span.result.next ≡ (g.C.CountedLeaves.text c.args.source.now).next = c.span.ensures.next in
    let short : length c.args.tokens.now ≤ c.span.result.next → ⊥ = rw c.in_default.is at c.checked_sub.ensures in
    backward_short (g.C.CountedLeaves.text c.args.source.now) c.args.tokens.now c.span.ensures.sound c.requires c.args.k (omega arith)

pub loop-agreed-init : goal.loop-agreed-init
loop-agreed-init g c =
    let text = g.C.CountedLeaves.text c.args.source.now in
    let next : c.span.result.next ≡ text.next = c.span.ensures.next in
    let room = rw c.in-Some.is at c.checked_sub.ensures in
    let start = c.min-start.ensures in
    let some : 1 ≤ length c.args.tokens.now = c.requires in
    record {
      asked = asked_start (length c.args.tokens.now) (g.C.CountedLeaves.most c.args.source.now) (g.C.CountedLeaves.count c.args.counter.now)
          (passed_downto text c.args.tokens.now c.min-start.result) (λ i. IsInPlace text c.args.tokens.now c.min-start.result (from_last c.args.tokens.now i));
      behind = backward_init text c.args.tokens.now c.span.ensures.sound c.requires c.args.k c.min-start.result (λ lt. omega (arith, room.0, room.1));
      upto = omega arith;
      within = omega arith;
      turn = omega arith;
      agreed = omega arith;
      counted = omega arith;
      capped = λ cap caps old. old;
    }

pub returns-in_default-2-clause-answer : goal.returns-in_default-2-clause-answer
returns-in_default-2-clause-answer g c =
    let text = g.C.CountedLeaves.text c.args.source.now in
    let tokens = c.args.tokens.now in
    let start = c.loop-agreed.start in
    let turn = c.loop-agreed.turn in
    let at = length tokens - 1 - turn in
    let kept = c.loop-agreed.invariant in
    let token : c.as_slice.result.now ≡ token_at tokens at = token_is tokens at c.index-tokens-at.result c.as_slice.result.now (omega (arith, kept.turn)) (c.as_slice.ensures ∙ c.index-tokens-at.is) in
    no_previous text tokens c.in_ok-place.ensures.sound c.requires c.args.k start at (omega (arith, kept.turn)) (subst (λ t. None ≡ previous_place text.words t (start + at)) token (rw c.in_default-2.is at c.in_ok-place.ensures.answer)) kept.behind

pub returns-in_default-2-clause-rounds : goal.returns-in_default-2-clause-rounds
returns-in_default-2-clause-rounds g c =
    let kept = c.loop-agreed.invariant in
    backward_cost (g.C.CountedLeaves.text c.args.source.now) c.args.tokens.now c.span.ensures.sound c.requires c.loop-agreed.turn c.loop-agreed.agreed c.loop-agreed.start
    (g.C.CountedLeaves.most c.args.source.now) (g.C.CountedLeaves.count c.args.counter.now) (g.C.CountedLeaves.count c.loop-agreed.counter) (g.C.CountedLeaves.count c.prev.new.counter) kept.turn c.in_ok-place.ensures.cost kept.asked

pub returns-in_default-2-clause-cost : goal.returns-in_default-2-clause-cost
returns-in_default-2-clause-cost g c =
    rounds_within (length c.args.tokens.now) (fewest_places (g.C.CountedLeaves.text c.args.source.now).words c.args.tokens.now) (g.C.CountedLeaves.most c.args.source.now)
    (g.C.CountedLeaves.count c.args.counter.now) (g.C.CountedLeaves.count c.prev.new.counter) (returns-in_default-2-clause-rounds g c)

pub returns-in_default-checked_sub-clause-answer : goal.returns-in_default-checked_sub-clause-answer
returns-in_default-checked_sub-clause-answer g c =
    let text = g.C.CountedLeaves.text c.args.source.now in
    let tokens = c.args.tokens.now in
    let start = c.loop-agreed.start in
    let turn = c.loop-agreed.turn in
    let at = length tokens - 1 - turn in
    let kept = c.loop-agreed.invariant in
    let token : c.as_slice.result.now ≡ token_at tokens at = token_is tokens at c.index-tokens-at.result c.as_slice.result.now (omega (arith, kept.turn)) (c.as_slice.ensures ∙ c.index-tokens-at.is) in
    let place = c.in-Some-2.place in
    let is : Some place ≡ previous_place text.words (token_at tokens at) (start + at) = subst (λ t. Some place ≡ previous_place text.words t (start + at)) token (sym c.in-Some-2.is ∙ c.in_ok-place.ensures.answer) in
    no_room text tokens c.in_ok-place.ensures.sound c.requires c.args.k start at place (omega (arith, kept.turn)) is (rw c.in_default-checked_sub.is at c.checked_sub-in-loop-agreed.ensures) kept.behind

pub returns-in_default-checked_sub-clause-rounds : goal.returns-in_default-checked_sub-clause-rounds
returns-in_default-checked_sub-clause-rounds g c =
    let kept = c.loop-agreed.invariant in
    backward_cost (g.C.CountedLeaves.text c.args.source.now) c.args.tokens.now c.span.ensures.sound c.requires c.loop-agreed.turn c.loop-agreed.agreed c.loop-agreed.start
    (g.C.CountedLeaves.most c.args.source.now) (g.C.CountedLeaves.count c.args.counter.now) (g.C.CountedLeaves.count c.loop-agreed.counter) (g.C.CountedLeaves.count c.prev.new.counter) kept.turn c.in_ok-place.ensures.cost kept.asked

pub returns-in_default-checked_sub-clause-cost : goal.returns-in_default-checked_sub-clause-cost
returns-in_default-checked_sub-clause-cost g c =
    rounds_within (length c.args.tokens.now) (fewest_places (g.C.CountedLeaves.text c.args.source.now).words c.args.tokens.now) (g.C.CountedLeaves.most c.args.source.now)
    (g.C.CountedLeaves.count c.args.counter.now) (g.C.CountedLeaves.count c.prev.new.counter) (returns-in_default-checked_sub-clause-rounds g c)

pub loop-agreed-smaller : goal.loop-agreed-smaller
loop-agreed-smaller g c =
    let text = g.C.CountedLeaves.text c.args.source.now in
    let tokens = c.args.tokens.now in
    let start = c.loop-agreed.start in
    let turn = c.loop-agreed.turn in
    let at = length tokens - 1 - turn in
    let kept = c.loop-agreed.invariant in
    let token : c.as_slice.result.now ≡ token_at tokens at = token_is tokens at c.index-tokens-at.result c.as_slice.result.now (omega (arith, kept.turn)) (c.as_slice.ensures ∙ c.index-tokens-at.is) in
    let place = c.in-Some-2.place in
    let is : Some place ≡ previous_place text.words (token_at tokens at) (start + at) = subst (λ t. Some place ≡ previous_place text.words t (start + at)) token (sym c.in-Some-2.is ∙ c.in_ok-place.ensures.answer) in
    let room = rw c.in-Some-checked_sub.is at c.checked_sub-in-loop-agreed.ensures in
    let latest : c.in-Some-checked_sub.latest ≡ place - at = omega (arith, room.0, room.1) in
    let following = c.if-latest-start.agreed in
    let leads : Leads (place - at) start c.loop-agreed.agreed following =
    subst (λ n. Leads n start c.loop-agreed.agreed following) latest
    (elim c.if-latest-start.branch [ then-latest-start w ↦ inl (w.if-latest-start.true, w.agreed-is) | else-latest-start w ↦ inr (w.if-latest-start.false, w.agreed-is) ]) in
    let upto = previous_within text tokens c.in_ok-place.ensures.sound c.requires at start place is in
    subst (λ n. n * (length tokens + 1) + (length tokens - following) < start * (length tokens + 1) + (length tokens - c.loop-agreed.agreed)) (sym latest)
    (closer_back start place at (length tokens) c.loop-agreed.agreed following c.loop-agreed-test.true room.0 upto leads)

pub loop-agreed-preserved : goal.loop-agreed-preserved
loop-agreed-preserved g c =
    let text = g.C.CountedLeaves.text c.args.source.now in
    let tokens = c.args.tokens.now in
    let start = c.loop-agreed.start in
    let turn = c.loop-agreed.turn in
    let at = length tokens - 1 - turn in
    let kept = c.loop-agreed.invariant in
    let token : c.as_slice.result.now ≡ token_at tokens at = token_is tokens at c.index-tokens-at.result c.as_slice.result.now (omega (arith, kept.turn)) (c.as_slice.ensures ∙ c.index-tokens-at.is) in
    let place = c.in-Some-2.place in
    let is : Some place ≡ previous_place text.words (token_at tokens at) (start + at) = subst (λ t. Some place ≡ previous_place text.words t (start + at)) token (sym c.in-Some-2.is ∙ c.in_ok-place.ensures.answer) in
    let room = rw c.in-Some-checked_sub.is at c.checked_sub-in-loop-agreed.ensures in
    let latest : c.in-Some-checked_sub.latest ≡ place - at = omega (arith, room.0, room.1) in
    let following = c.if-latest-start.agreed in
    let leads : Leads (place - at) start c.loop-agreed.agreed following =
    subst (λ n. Leads n start c.loop-agreed.agreed following) latest
    (elim c.if-latest-start.branch [ then-latest-start w ↦ inl (w.if-latest-start.true, w.agreed-is) | else-latest-start w ↦ inr (w.if-latest-start.false, w.agreed-is) ]) in
    let upto = previous_within text tokens c.in_ok-place.ensures.sound c.requires at start place is in
    let asked : IsAskedBackward text tokens (turn + 1) following c.in-Some-checked_sub.latest (g.C.CountedLeaves.most c.args.source.now) (g.C.CountedLeaves.count c.args.counter.now) (g.C.CountedLeaves.count c.prev.new.counter) =
    subst (λ n. IsAskedBackward text tokens (turn + 1) following n (g.C.CountedLeaves.most c.args.source.now) (g.C.CountedLeaves.count c.args.counter.now) (g.C.CountedLeaves.count c.prev.new.counter)) (sym latest)
    (backward_on text tokens c.in_ok-place.ensures.sound c.requires turn c.loop-agreed.agreed following start (g.C.CountedLeaves.most c.args.source.now) (g.C.CountedLeaves.count c.args.counter.now) (g.C.CountedLeaves.count c.loop-agreed.counter) (g.C.CountedLeaves.count c.prev.new.counter) place
    c.loop-agreed-test.true c.in_ok-place.ensures.cost is room.0 leads kept.asked) in
    let turns = asked_turns (length tokens) turn c.next_turn-turn.result following (passed_downto text tokens c.in-Some-checked_sub.latest) (λ i. IsInPlace text tokens c.in-Some-checked_sub.latest (from_last tokens i))
    (g.C.CountedLeaves.most c.args.source.now) (g.C.CountedLeaves.count c.args.counter.now) (g.C.CountedLeaves.count c.prev.new.counter) kept.turn c.next_turn-turn.ensures.wraps c.next_turn-turn.ensures.goes_on asked in
    record {
      asked = turns.1;
      behind = subst (NoneBehind text tokens c.args.k) (sym latest) (none_behind_previous text tokens c.in_ok-place.ensures.sound c.requires c.args.k start at place (omega (arith, kept.turn)) is kept.behind);
      upto = omega (arith, latest, upto, kept.upto);
      within = omega (arith, latest, upto, kept.within);
      turn = turns.0;
      agreed = elim leads [ inl e ↦ omega (arith, e.1, c.loop-agreed-test.true) | inr e ↦ omega (arith, e.1, c.loop-agreed-test.true) ];
      counted = omega (arith, kept.counted, c.in_ok-place.ensures.counted);
      capped = λ cap caps old. c.in_ok-place.ensures.capped cap caps (kept.capped cap caps old);
    }

pub returns-clause-answer : goal.returns-clause-answer
returns-clause-answer g c =
    let text = g.C.CountedLeaves.text c.args.source.now in
    let tokens = c.args.tokens.now in
    let kept = c.loop-agreed.invariant in
    let all : c.loop-agreed.agreed ≡ length tokens = omega (arith, kept.agreed, c.loop-agreed-test.false) in
    ap Some c.new.ensures
    ∙ backward_found text tokens c.span.ensures.sound c.requires c.args.k c.loop-agreed.start c.loop-agreed.turn (g.C.CountedLeaves.most c.args.source.now) (g.C.CountedLeaves.count c.args.counter.now) (g.C.CountedLeaves.count c.loop-agreed.counter)
    (omega (arith, kept.turn)) kept.upto kept.behind
    (subst (λ n. IsAskedBackward text tokens c.loop-agreed.turn n c.loop-agreed.start (g.C.CountedLeaves.most c.args.source.now) (g.C.CountedLeaves.count c.args.counter.now) (g.C.CountedLeaves.count c.loop-agreed.counter)) all kept.asked)

pub returns-clause-rounds : goal.returns-clause-rounds
returns-clause-rounds g c =
    let kept = c.loop-agreed.invariant in
    backward_cost (g.C.CountedLeaves.text c.args.source.now) c.args.tokens.now c.span.ensures.sound c.requires c.loop-agreed.turn c.loop-agreed.agreed c.loop-agreed.start
    (g.C.CountedLeaves.most c.args.source.now) (g.C.CountedLeaves.count c.args.counter.now) (g.C.CountedLeaves.count c.loop-agreed.counter) (g.C.CountedLeaves.count c.loop-agreed.counter) kept.turn (omega arith) kept.asked

pub returns-clause-cost : goal.returns-clause-cost
returns-clause-cost g c =
    rounds_within (length c.args.tokens.now) (fewest_places (g.C.CountedLeaves.text c.args.source.now).words c.args.tokens.now) (g.C.CountedLeaves.most c.args.source.now)
    (g.C.CountedLeaves.count c.args.counter.now) (g.C.CountedLeaves.count c.loop-agreed.counter) (returns-clause-rounds g c)
