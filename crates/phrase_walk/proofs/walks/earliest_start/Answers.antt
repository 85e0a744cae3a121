use Rattle.std.proofs.Common.{◌≡◌, ◌+◌, ◌-◌, ◌<◌, ◌∙◌, subst, arith}
use Rattle.phrase_walk.specs.Starts.{IsInPlace}
use Rattle.phrase_walk.proofs.Places.{Held, held_within}
use Rattle.phrase_walk.proofs.Steps.{none_before_pair}
use Rattle.phrase_walk.proofs.Rows.{token_at, token_is}
use Rattle.phrase_walk.proofs.walks.earliest_start.Goals as goal

pub returns-then-pair-clause-within : goal.returns-then-pair-clause-within
returns-then-pair-clause-within g c =
    let text = g.C.CountedLeaves.text c.args.source.now in
    let below : c.earliest_pair-pair.result.at < text.next = (held_within text.next text.first text.words c.as_slice.result.now c.earliest_pair-pair.result.at c.span-span.ensures.sound.rising (c.earliest_pair-pair.ensures.found c.if-pair.true).0).1 in
    omega (arith, below)

pub returns-then-pair-clause-none : goal.returns-then-pair-clause-none
returns-then-pair-clause-none g c =
    let tokens = c.args.tokens.now in
    let two = c.if-tokens-lt2.false in
    let first : c.as_slice.result.now ≡ token_at tokens 0 = token_is tokens 0 c.index-tokens-0.result c.as_slice.result.now (omega (arith, two)) (c.as_slice.ensures ∙ c.index-tokens-0.is) in
    let second : c.as_slice-2.result.now ≡ token_at tokens 1 = token_is tokens 1 c.index-tokens-1.result c.as_slice-2.result.now (omega (arith, two)) (c.as_slice-2.ensures ∙ c.index-tokens-1.is) in
    none_before_pair (g.C.CountedLeaves.text c.args.source.now) tokens c.as_slice.result.now c.as_slice-2.result.now c.args.start c.earliest_pair-pair.result.at c.earliest_pair-pair.result.at
    (omega (arith, two)) first second (omega arith) c.earliest_pair-pair.ensures.none

pub returns-then-pair-clause-found : goal.returns-then-pair-clause-found
returns-then-pair-clause-found g c = λ found.
    let text = g.C.CountedLeaves.text c.args.source.now in
    let tokens = c.args.tokens.now in
    let at = c.earliest_pair-pair.result.at in
    let two = c.if-tokens-lt2.false in
    let first : c.as_slice.result.now ≡ token_at tokens 0 = token_is tokens 0 c.index-tokens-0.result c.as_slice.result.now (omega (arith, two)) (c.as_slice.ensures ∙ c.index-tokens-0.is) in
    let second : c.as_slice-2.result.now ≡ token_at tokens 1 = token_is tokens 1 c.index-tokens-1.result c.as_slice-2.result.now (omega (arith, two)) (c.as_slice-2.ensures ∙ c.index-tokens-1.is) in
    let start : c.args.turn ≡ 0 = omega (arith, c.if-turn-gt0.false) in
    let here : at ≡ at + 0 = omega arith in
    let back : at ≡ at - c.args.turn = omega (arith, start) in
    let next : 1 ≡ c.args.turn + 1 = omega (arith, start) in
    let held = c.earliest_pair-pair.ensures.found c.if-pair.true in (
      start,
      subst (Held text (token_at tokens 0)) here (subst (λ t. Held text t at) first held.0),
      record {
        more = omega (arith, start, two);
        behind = subst (λ s. IsInPlace text tokens s (c.args.turn + 1)) back (subst (IsInPlace text tokens at) next (subst (λ t. Held text t (at + 1)) second held.1));
      },
    )

pub returns-clause-none : goal.returns-clause-none
returns-clause-none g c =
    let tokens = c.args.tokens.now in
    let two = c.if-tokens-lt2.false in
    let first : c.as_slice.result.now ≡ token_at tokens 0 = token_is tokens 0 c.index-tokens-0.result c.as_slice.result.now (omega (arith, two)) (c.as_slice.ensures ∙ c.index-tokens-0.is) in
    let second : c.as_slice-2.result.now ≡ token_at tokens 1 = token_is tokens 1 c.index-tokens-1.result c.as_slice-2.result.now (omega (arith, two)) (c.as_slice-2.ensures ∙ c.index-tokens-1.is) in
    none_before_pair (g.C.CountedLeaves.text c.args.source.now) tokens c.as_slice.result.now c.as_slice-2.result.now c.args.start c.min.result c.earliest_pair-pair.result.at
    (omega (arith, two)) first second (omega (arith, c.min.ensures)) c.earliest_pair-pair.ensures.none
