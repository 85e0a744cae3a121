use Rattle.std.proofs.Common.{◌≡◌, ◌+◌, ◌≤◌, sym, ap, ◌∙◌, arith}
use Rattle.std.proofs.lemmas.Result.{IfOk-weaker}
use Rattle.gcl_model.specs.Extents.{Extent}
use Rattle.gcl_model.specs.Texts.{next_place}
use Rattle.gcl_model.specs.Forms.{phrase}
use Rattle.gcl_model.specs.Meaning.{concordance}
use Rattle.phrase_walk.specs.Starts.{token_at}
use Rattle.phrase_walk.proofs.Places.{next_tells}
use Rattle.phrase_walk.proofs.OneWord.{run_goes_on, run_leaps, run_ends, later_start}
use Rattle.phrase_walk.proofs.runs.counted_next_row.Goals as goal

pub returns-in_default-clause-answer : goal.returns-in_default-clause-answer
returns-in_default-clause-answer g c =
    let text = g.C.CountedLeaves.text c.args.source.now in
    let asked : c.in_ok-place.field-0 ≡ next_place text.words (token_at c.args.tokens.now 0) (c.args.row.end + 1) = c.in_ok-place.ensures.answer ∙ ap (λ t. next_place text.words t (c.row.inside.end + 1)) c.first_word.ensures ∙ ap (λ (a : Extent). next_place text.words (token_at c.args.tokens.now 0) (a.end + 1)) c.row.view_is in
    sym (run_ends text c.in_ok-place.ensures.sound c.args.tokens.now c.requires.tokens c.requires.one_word c.args.row c.requires.row c.in_ok-place.field-0 asked c.in_default.is)

pub returns-then-place-behind-clause-answer : goal.returns-then-place-behind-clause-answer
returns-then-place-behind-clause-answer g c =
    let text = g.C.CountedLeaves.text c.args.source.now in
    let asked : c.in_ok-place.field-0 ≡ next_place text.words (token_at c.args.tokens.now 0) (c.args.row.end + 1) = c.in_ok-place.ensures.answer ∙ ap (λ t. next_place text.words t (c.row.inside.end + 1)) c.first_word.ensures ∙ ap (λ (a : Extent). next_place text.words (token_at c.args.tokens.now 0) (a.end + 1)) c.row.view_is in
    let place : c.in-Some.place ≡ c.args.row.end + 1 = c.if-place-behind.true ∙ ap (λ (a : Extent). a.end + 1) c.row.view_is in
    rw (c.new.ensures, ap (λ (a : Extent). a.start) c.row.view_is) (sym (run_goes_on text c.in_ok-place.ensures.sound c.args.tokens.now c.requires.tokens c.requires.one_word c.args.row c.requires.row c.in_ok-place.field-0 c.in-Some.place asked c.in-Some.is place))

pub counted_first_start-requires-clause-address : goal.counted_first_start-requires-clause-address
counted_first_start-requires-clause-address g c =
    let text = g.C.CountedLeaves.text c.args.source.now in
    let asked : c.in_ok-place.field-0 ≡ next_place text.words (token_at c.args.tokens.now 0) (c.args.row.end + 1) = c.in_ok-place.ensures.answer ∙ ap (λ t. next_place text.words t (c.row.inside.end + 1)) c.first_word.ensures ∙ ap (λ (a : Extent). next_place text.words (token_at c.args.tokens.now 0) (a.end + 1)) c.row.view_is in
    let told = next_tells text (token_at c.args.tokens.now 0) c.in_ok-place.ensures.sound (c.args.row.end + 1) c.in-Some.place (sym asked ∙ c.in-Some.is) in
    let within = told.within in
    let bound = c.in_ok-place.ensures.sound.in_range in
    omega (arith, within, bound)

pub returns-clause-answer : goal.returns-clause-answer
returns-clause-answer g c =
    let text = g.C.CountedLeaves.text c.args.source.now in
    let asked : c.in_ok-place.field-0 ≡ next_place text.words (token_at c.args.tokens.now 0) (c.args.row.end + 1) = c.in_ok-place.ensures.answer ∙ ap (λ t. next_place text.words t (c.row.inside.end + 1)) c.first_word.ensures ∙ ap (λ (a : Extent). next_place text.words (token_at c.args.tokens.now 0) (a.end + 1)) c.row.view_is in
    let told = next_tells text (token_at c.args.tokens.now 0) c.in_ok-place.ensures.sound (c.args.row.end + 1) c.in-Some.place (sym asked ∙ c.in-Some.is) in
    let from = told.from in
    let end : c.row.inside.end ≡ c.args.row.end = ap (λ (a : Extent). a.end) c.row.view_is in
    let other = c.if-place-behind.false in
    IfOk-weaker c.counted_first_start.result _ _
    (λ found is. is ∙ sym (run_leaps text c.in_ok-place.ensures.sound c.args.tokens.now c.requires.tokens c.requires.one_word c.args.row c.requires.row c.in_ok-place.field-0 c.in-Some.place asked c.in-Some.is (omega (arith, from, end, other))))
    c.counted_first_start.ensures.answer

pub returns-clause-once : goal.returns-clause-once
returns-clause-once g c =
    let text = g.C.CountedLeaves.text c.args.source.now in
    let asked : c.in_ok-place.field-0 ≡ next_place text.words (token_at c.args.tokens.now 0) (c.args.row.end + 1) = c.in_ok-place.ensures.answer ∙ ap (λ t. next_place text.words t (c.row.inside.end + 1)) c.first_word.ensures ∙ ap (λ (a : Extent). next_place text.words (token_at c.args.tokens.now 0) (a.end + 1)) c.row.view_is in
    let from = (next_tells text (token_at c.args.tokens.now 0) c.in_ok-place.ensures.sound (c.args.row.end + 1) c.in-Some.place (sym asked ∙ c.in-Some.is)).from in
    let wide = c.requires.row.wide in
    let several = c.requires.tokens in
    IfOk-weaker c.counted_first_start.result _ _
    (λ found is. later_start (g.C.CountedLeaves.count c.counted_first_start.new.counter ≤ g.C.CountedLeaves.count c.args.counter.now + g.C.CountedLeaves.most c.args.source.now) (concordance text (phrase c.args.tokens.now)) c.in-Some.place (c.args.row.start + 1) found is (omega (arith, from, wide, several)))
    c.counted_first_start.ensures.answer
