use Rattle.std.proofs.Common.{length, ◌∙◌, sym, ap, subst, arith, drop, ◌++◌}
use Rattle.gcl_model.specs.Tokens.{tokens_of}
use Rattle.word_tokens.specs.Lexemes.{lexeme_tokens}
use Rattle.word_tokens.proofs.PartLemmas.{FitsIn, part_of_fits, tokens_of-part}
use Rattle.word_tokens.proofs.lexeme.split_lexeme.Goals as goal

pub split_at-requires : goal.split_at-requires
split_at-requires c = (subst (FitsIn (length c.args.text.now)) (sym c.first_lexeme-size.ensures) (part_of_fits c.args.text.now c.requires)).fits

pub returns-clause-whole : goal.returns-clause-whole
returns-clause-whole c =
    tokens_of-part c.args.text.now ∙ ap (λ part. part.tokens ++ tokens_of (drop part.size c.args.text.now)) (sym c.first_lexeme-size.ensures)
    ∙ ap (λ rest. lexeme_tokens c.first_lexeme-size.result.0 ++ tokens_of rest) (sym c.split_at.ensures.back)

pub returns-clause-shorter : goal.returns-clause-shorter
returns-clause-shorter c =
    let fit = subst (FitsIn (length c.args.text.now)) (sym c.first_lexeme-size.ensures) (part_of_fits c.args.text.now c.requires) in
    omega (arith, fit.some, fit.fits, c.split_at.ensures.back_len)

pub returns-clause-few : goal.returns-clause-few
returns-clause-few c =
    let fit = subst (FitsIn (length c.args.text.now)) (sym c.first_lexeme-size.ensures) (part_of_fits c.args.text.now c.requires) in
    omega (arith, fit.some, fit.fits, fit.few, c.split_at.ensures.back_len)
