use Rattle.std.proofs.Common.{length, ◌∙◌, sym, ap, subst, arith, drop, ◌++◌, ◌-◌}
use Rattle.word_tokens.specs.Lexemes.{lexeme_tokens}
use Rattle.word_tokens.proofs.PartLemmas.{FitsIn, part_of_fits}
use Rattle.token_places.specs.Places.{stretch, placed_at}
use Rattle.token_places.specs.Cursors.{placed_behind}
use Rattle.token_places.proofs.PlaceLemmas.{placed_behind-part}
use Rattle.token_places.proofs.cursor.cut_lexeme.Goals as goal

pub split_at-requires : goal.split_at-requires
split_at-requires c = (subst (FitsIn (length c.args.text.now)) (sym c.first_lexeme-size.ensures) (part_of_fits c.args.text.now c.requires)).fits

pub returns-clause-placed : goal.returns-clause-placed
returns-clause-placed c n le =
    let text = c.args.text.now in
    placed_behind-part n text c.requires le
    ∙ ap (λ part. placed_at (stretch (n - length text) (n - length (drop part.size text))) part.tokens ++ placed_behind n (drop part.size text)) (sym c.first_lexeme-size.ensures)
    ∙ ap (λ rest. placed_at (stretch (n - length text) (n - length rest)) (lexeme_tokens c.first_lexeme-size.result.0) ++ placed_behind n rest) (sym c.split_at.ensures.back)

pub returns-clause-shorter : goal.returns-clause-shorter
returns-clause-shorter c =
    let fit = subst (FitsIn (length c.args.text.now)) (sym c.first_lexeme-size.ensures) (part_of_fits c.args.text.now c.requires) in
    omega (arith, fit.some, fit.fits, c.split_at.ensures.back_len)
