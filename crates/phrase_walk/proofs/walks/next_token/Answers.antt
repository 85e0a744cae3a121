use Rattle.std.proofs.Common.{◌≡◌, ◌+◌, None, Some, sym, subst, ◌∙◌, arith, le_refl}
use Rattle.gcl_model.specs.Texts.{next_place}
use Rattle.phrase_walk.specs.Starts.{LeadsTo}
use Rattle.phrase_walk.proofs.Rows.{token_at, token_is}
use Rattle.phrase_walk.proofs.Steps.{leads_to_next, leads_to_place, none_from_next}
use Rattle.phrase_walk.proofs.walks.next_token.Goals as goal

pub returns-then-stands-clause-found : goal.returns-then-stands-clause-found
returns-then-stands-clause-found g c =
    let start = c.args.start in
    leads_to_place (g.C.CountedLeaves.text c.args.source.now) c.args.tokens.now c.requires.sound (omega (arith, c.requires.turn)) start start c.args.turn c.requires.turn (le_refl start)
    (λ r ge less row. omega (arith, ge, less)) (c.requires.stands c.if-stands.true)

pub returns-then-pair-clause-found : goal.returns-then-pair-clause-found
returns-then-pair-clause-found g c =
    let text = g.C.CountedLeaves.text c.args.source.now in
    let tokens = c.args.tokens.now in
    let start = c.args.start in
    let at = c.earliest_start-pair.result.at in
    let told = c.earliest_start-pair.ensures in
    let met = told.found c.if-pair.true in
    let first : 0 ≡ c.args.turn = sym met.0 in
    let here : at + 0 ≡ at = omega arith in
    let led = leads_to_place text tokens c.requires.sound (omega (arith, c.requires.turn)) start at 0 (omega (arith, c.requires.turn)) told.from told.none met.1 in
    subst (λ q. LeadsTo text tokens c.args.turn start q) here (subst (λ t. LeadsTo text tokens t start (at + 0)) first led)

pub returns-then-pair-clause-followed : goal.returns-then-pair-clause-followed
returns-then-pair-clause-followed g c = λ followed. (c.earliest_start-pair.ensures.found c.if-pair.true).2

pub returns-in_default-clause-none : goal.returns-in_default-clause-none
returns-in_default-clause-none g c =
    let text = g.C.CountedLeaves.text c.args.source.now in
    let tokens = c.args.tokens.now in
    let turn = c.args.turn in
    let from = c.earliest_start-pair.result.at in
    let token : c.as_slice.result.now ≡ token_at tokens turn = token_is tokens turn c.index-tokens-turn.result c.as_slice.result.now c.requires.turn (c.as_slice.ensures ∙ c.index-tokens-turn.is) in
    λ nothing.
    none_from_next text tokens c.requires.sound (omega (arith, c.requires.turn)) c.args.start from turn c.requires.turn c.earliest_start-pair.ensures.none
    (subst (λ t. None ≡ next_place text.words t (from + turn)) token (sym c.in_default.is ∙ c.in_ok-place.ensures.answer))

pub returns-clause-found : goal.returns-clause-found
returns-clause-found g c =
    let text = g.C.CountedLeaves.text c.args.source.now in
    let tokens = c.args.tokens.now in
    let turn = c.args.turn in
    let from = c.earliest_start-pair.result.at in
    let place = c.in-Some.place in
    let token : c.as_slice.result.now ≡ token_at tokens turn = token_is tokens turn c.index-tokens-turn.result c.as_slice.result.now c.requires.turn (c.as_slice.ensures ∙ c.index-tokens-turn.is) in
    leads_to_next text tokens c.requires.sound (omega (arith, c.requires.turn)) c.args.start from turn place c.requires.turn c.earliest_start-pair.ensures.from c.earliest_start-pair.ensures.none
    (subst (λ t. Some place ≡ next_place text.words t (from + turn)) token (sym c.in-Some.is ∙ c.in_ok-place.ensures.answer))
