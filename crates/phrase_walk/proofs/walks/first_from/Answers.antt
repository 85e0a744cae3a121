use Rattle.std.proofs.Common.{◌≡◌, ◌+◌, ◌-◌, ◌<◌, ◌≤◌, Some, None, length, ap, sym, subst, refl, ◌∙◌, inl, inr, arith}
use Rattle.gcl_model.specs.Cost.{fewest_places}
use Rattle.phrase_walk.specs.Starts.{IsInPlace}
use Rattle.phrase_walk.proofs.Asked.{asked_turns, rounds_within}
use Rattle.phrase_walk.proofs.Steps.{Leads, IsAskedForward, passed_upto, forward_on, forward_found, forward_past, forward_none, forward_some, passed_rounds, none_before_on, no_more, closer_on}
use Rattle.phrase_walk.proofs.walks.first_from.Goals as goal
use Rattle.phrase_walk.proofs.walks.first_from.Goals.{then-earliest-start, else-earliest-start}

pub returns-then-span-k-clause-answer : goal.returns-then-span-k-clause-answer
returns-then-span-k-clause-answer g c =
    let next : c.span.result.next ≡ (g.C.CountedLeaves.text c.args.source.now).next = c.span.ensures.next in
    let past : c.span.result.next ≤ c.args.k = c.if-span-k.true in
    forward_past (g.C.CountedLeaves.text c.args.source.now) c.args.tokens.now c.span.ensures.sound c.requires c.args.k (omega (arith, next, past))

pub returns-in_default-clause-answer : goal.returns-in_default-clause-answer
returns-in_default-clause-answer g c =
    let text = g.C.CountedLeaves.text c.args.source.now in
    no_more text c.args.tokens.now c.span.ensures.sound c.requires c.args.k c.loop-agreed.start c.loop-agreed.invariant.before (c.in_ok-found.ensures.none (rw c.in_default.is refl))

pub returns-in_default-clause-passed : goal.returns-in_default-clause-passed
returns-in_default-clause-passed g c =
    let kept = c.loop-agreed.invariant in
    forward_none (g.C.CountedLeaves.text c.args.source.now) c.args.tokens.now c.span.ensures.sound c.requires c.args.k c.loop-agreed.turn c.loop-agreed.agreed c.loop-agreed.start (g.C.CountedLeaves.most c.args.source.now)
    (g.C.CountedLeaves.count c.args.counter.now) (g.C.CountedLeaves.count c.loop-agreed.counter) (g.C.CountedLeaves.count c.next_token.new.counter) kept.turn kept.from kept.below c.in_ok-found.ensures.cost kept.asked

pub returns-in_default-clause-rounds : goal.returns-in_default-clause-rounds
returns-in_default-clause-rounds g c =
    passed_rounds (g.C.CountedLeaves.text c.args.source.now) c.args.tokens.now c.span.ensures.sound c.requires c.args.k (g.C.CountedLeaves.most c.args.source.now) (g.C.CountedLeaves.count c.args.counter.now) (g.C.CountedLeaves.count c.next_token.new.counter) None (returns-in_default-clause-passed g c)

pub returns-in_default-clause-cost : goal.returns-in_default-clause-cost
returns-in_default-clause-cost g c =
    rounds_within (length c.args.tokens.now) (fewest_places (g.C.CountedLeaves.text c.args.source.now).words c.args.tokens.now) (g.C.CountedLeaves.most c.args.source.now)
    (g.C.CountedLeaves.count c.args.counter.now) (g.C.CountedLeaves.count c.next_token.new.counter) (returns-in_default-clause-rounds g c)

pub overflow_sub-earliest : goal.overflow_sub-earliest
overflow_sub-earliest g c = let told = rw c.in-Some.is at c.in_ok-found.ensures.found in let from = told.from in omega (arith, from)

pub loop-agreed-smaller : goal.loop-agreed-smaller
loop-agreed-smaller g c =
    let text = g.C.CountedLeaves.text c.args.source.now in
    let tokens = c.args.tokens.now in
    let start = c.loop-agreed.start in
    let turn = c.loop-agreed.turn in
    let place = c.in-Some.found.place in
    let agreed = c.if-earliest-start.agreed in
    let leads : Leads (place - turn) start c.loop-agreed.agreed agreed =
    elim c.if-earliest-start.branch [ then-earliest-start w ↦ inl (w.if-earliest-start.true, w.agreed-is) | else-earliest-start w ↦ inr (w.if-earliest-start.false, w.agreed-is) ] in
    let told = rw c.in-Some.is at c.in_ok-found.ensures.found in
    closer_on text.next start turn place (length tokens) c.loop-agreed.agreed agreed c.loop-agreed-test.true told.from told.within leads

pub loop-agreed-preserved : goal.loop-agreed-preserved
loop-agreed-preserved g c =
    let text = g.C.CountedLeaves.text c.args.source.now in
    let tokens = c.args.tokens.now in
    let start = c.loop-agreed.start in
    let turn = c.loop-agreed.turn in
    let kept = c.loop-agreed.invariant in
    let place = c.in-Some.found.place in
    let agreed = c.if-earliest-start.agreed in
    let leads : Leads (place - turn) start c.loop-agreed.agreed agreed =
    elim c.if-earliest-start.branch [ then-earliest-start w ↦ inl (w.if-earliest-start.true, w.agreed-is) | else-earliest-start w ↦ inr (w.if-earliest-start.false, w.agreed-is) ] in
    let told = rw c.in-Some.is at c.in_ok-found.ensures.found in
    let above : start + turn ≤ place = told.from in
    let within : place < text.next = told.within in
    let asked : IsAskedForward text tokens c.args.k (turn + 1) agreed (place - turn) (g.C.CountedLeaves.most c.args.source.now) (g.C.CountedLeaves.count c.args.counter.now) (g.C.CountedLeaves.count c.next_token.new.counter) =
    forward_on text tokens c.span.ensures.sound c.requires c.args.k turn c.loop-agreed.agreed agreed start (g.C.CountedLeaves.most c.args.source.now)
    (g.C.CountedLeaves.count c.args.counter.now) (g.C.CountedLeaves.count c.loop-agreed.counter) (g.C.CountedLeaves.count c.next_token.new.counter) place
    c.loop-agreed-test.true c.in_ok-found.ensures.cost kept.from above told.held leads kept.asked in
    let turns = asked_turns (length tokens) turn c.next_turn-turn.result agreed (passed_upto text tokens c.args.k (place - turn)) (IsInPlace text tokens (place - turn))
    (g.C.CountedLeaves.most c.args.source.now) (g.C.CountedLeaves.count c.args.counter.now) (g.C.CountedLeaves.count c.next_token.new.counter) kept.turn c.next_turn-turn.ensures.wraps c.next_turn-turn.ensures.goes_on asked in
    record {
      asked = turns.1;
      before = none_before_on text tokens c.args.k start (place - turn) kept.before told.none;
      from = omega (arith, kept.from, above);
      below = omega (arith, within);
      turn = turns.0;
      agreed = elim leads [ inl e ↦ omega (arith, e.1, c.loop-agreed-test.true) | inr e ↦ omega (arith, e.1, c.loop-agreed-test.true) ];
      stands = λ followed.
          let next = (rw c.in-Some.is at c.in_ok-found.ensures.followed) followed in
          subst (IsInPlace text tokens (place - turn)) (sym (c.next_turn-turn.ensures.goes_on next.more)) next.behind;
      counted = omega (arith, kept.counted, c.in_ok-found.ensures.counted);
      capped = λ cap caps old. c.in_ok-found.ensures.capped cap caps (kept.capped cap caps old);
    }

pub returns-clause-answer : goal.returns-clause-answer
returns-clause-answer g c =
    let text = g.C.CountedLeaves.text c.args.source.now in
    let tokens = c.args.tokens.now in
    let kept = c.loop-agreed.invariant in
    let all : c.loop-agreed.agreed ≡ length tokens = omega (arith, kept.agreed, c.loop-agreed-test.false) in
    ap Some c.new.ensures
    ∙ forward_found text tokens c.span.ensures.sound c.requires c.args.k c.loop-agreed.start c.loop-agreed.turn (g.C.CountedLeaves.most c.args.source.now) (g.C.CountedLeaves.count c.args.counter.now) (g.C.CountedLeaves.count c.loop-agreed.counter)
    (omega (arith, kept.turn)) kept.from kept.before
    (subst (λ n. IsAskedForward text tokens c.args.k c.loop-agreed.turn n c.loop-agreed.start (g.C.CountedLeaves.most c.args.source.now) (g.C.CountedLeaves.count c.args.counter.now) (g.C.CountedLeaves.count c.loop-agreed.counter)) all kept.asked)

pub returns-clause-passed : goal.returns-clause-passed
returns-clause-passed g c =
    let kept = c.loop-agreed.invariant in
    rw c.new.ensures
    (forward_some (g.C.CountedLeaves.text c.args.source.now) c.args.tokens.now c.span.ensures.sound c.requires c.args.k c.loop-agreed.turn c.loop-agreed.agreed c.loop-agreed.start (c.loop-agreed.start + (length c.args.tokens.now - 1)) (g.C.CountedLeaves.most c.args.source.now)
    (g.C.CountedLeaves.count c.args.counter.now) (g.C.CountedLeaves.count c.loop-agreed.counter) kept.turn kept.from kept.asked)

pub returns-clause-rounds : goal.returns-clause-rounds
returns-clause-rounds g c =
    passed_rounds (g.C.CountedLeaves.text c.args.source.now) c.args.tokens.now c.span.ensures.sound c.requires c.args.k (g.C.CountedLeaves.most c.args.source.now) (g.C.CountedLeaves.count c.args.counter.now) (g.C.CountedLeaves.count c.loop-agreed.counter) (Some c.new.result) (returns-clause-passed g c)

pub returns-clause-cost : goal.returns-clause-cost
returns-clause-cost g c =
    rounds_within (length c.args.tokens.now) (fewest_places (g.C.CountedLeaves.text c.args.source.now).words c.args.tokens.now) (g.C.CountedLeaves.most c.args.source.now)
    (g.C.CountedLeaves.count c.args.counter.now) (g.C.CountedLeaves.count c.loop-agreed.counter) (returns-clause-rounds g c)
