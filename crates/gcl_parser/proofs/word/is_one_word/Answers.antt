use Rattle.std.proofs.Common.{◌≡◌, ◌<◌, ◌∷◌, ◌++◌, length, drop, map, nat_eq, ap, sym, ◌∙◌, arith, rules}
use Rattle.std.specs.Char.{to_ascii_lowercase}
use Rattle.gcl_model.specs.Tokens.{open_token, close_token, tokens_of}
use Rattle.word_tokens.specs.declared.lexeme.Lexeme.TheVariants.{EmptyTag}
use Rattle.word_tokens.specs.Lexemes.{lexeme_tokens}
use Rattle.gcl_parser.specs.QueryTokens.{is_one_word}
use Rattle.gcl_parser.proofs.OneWord.{is_cut, alone, no_word, opening_no_word, closing_no_word}
use Rattle.gcl_parser.proofs.word.is_one_word.Goals as goal

pub split_at-requires : goal.split_at-requires
split_at-requires c =
    let some : 0 < length c.loop-rest.rest.now = search rules in
    (is_cut c.loop-rest.rest.now c.first_lexeme-size.result some c.first_lexeme-size.ensures).fits

pub loop-rest-smaller : goal.loop-rest-smaller
loop-rest-smaller c =
    let some : 0 < length c.loop-rest.rest.now = search rules in
    let cut = is_cut c.loop-rest.rest.now c.first_lexeme-size.result some c.first_lexeme-size.ensures in
    omega (arith, cut.some, cut.fits, c.split_at.ensures.back_len)

pub loop-rest-preserved : goal.loop-rest-preserved
loop-rest-preserved c =
    let rest = c.loop-rest.rest.now in
    let found = c.first_lexeme-size.result in
    let some : 0 < length rest = search rules in
    let same : tokens_of rest ≡ tokens_of c.split_at.result.1.now =
    (is_cut rest found some c.first_lexeme-size.ensures).tokens
    ∙ ap (λ l. lexeme_tokens l ++ tokens_of (drop found.1 rest)) c.in-Separator.is
    ∙ ap tokens_of (sym c.split_at.ensures.back) in
    sym (ap is_one_word same) ∙ c.loop-rest.invariant

pub returns-then-is_word : goal.returns-then-is_word
returns-then-is_word c =
    let rest = c.loop-rest.rest.now in
    let found = c.first_lexeme-size.result in
    let word = c.in-Word.word.now in
    let some : 0 < length rest = search rules in
    let whole : tokens_of rest ≡ map to_ascii_lowercase word ∷ tokens_of c.split_at.result.1.now =
    (is_cut rest found some c.first_lexeme-size.ensures).tokens
    ∙ ap (λ l. lexeme_tokens l ++ tokens_of (drop found.1 rest)) c.in-Word.is
    ∙ ap (λ behind. map to_ascii_lowercase word ∷ tokens_of behind) (sym c.split_at.ensures.back) in
    ap (λ n. nat_eq n 0) c.token_count.ensures
    ∙ sym (alone word (tokens_of c.split_at.result.1.now) (sym c.is_word.ensures ∙ c.if-is_word.true))
    ∙ sym (ap is_one_word whole) ∙ c.loop-rest.invariant

pub returns-else-is_word : goal.returns-else-is_word
returns-else-is_word c =
    let rest = c.loop-rest.rest.now in
    let found = c.first_lexeme-size.result in
    let word = c.in-Word.word.now in
    let some : 0 < length rest = search rules in
    let whole : tokens_of rest ≡ map to_ascii_lowercase word ∷ tokens_of c.split_at.result.1.now =
    (is_cut rest found some c.first_lexeme-size.ensures).tokens
    ∙ ap (λ l. lexeme_tokens l ++ tokens_of (drop found.1 rest)) c.in-Word.is
    ∙ ap (λ behind. map to_ascii_lowercase word ∷ tokens_of behind) (sym c.split_at.ensures.back) in
    c.if-is_word.false
    ∙ sym (no_word word (tokens_of c.split_at.result.1.now) (sym c.is_word.ensures ∙ c.if-is_word.false))
    ∙ sym (ap is_one_word whole) ∙ c.loop-rest.invariant

pub returns-in-OpenTag : goal.returns-in-OpenTag
returns-in-OpenTag c =
    let rest = c.loop-rest.rest.now in
    let found = c.first_lexeme-size.result in
    let name = map to_ascii_lowercase c.in-OpenTag.field-0.now in
    let some : 0 < length rest = search rules in
    let whole : tokens_of rest ≡ open_token name ∷ tokens_of (drop found.1 rest) =
    (is_cut rest found some c.first_lexeme-size.ensures).tokens ∙ ap (λ l. lexeme_tokens l ++ tokens_of (drop found.1 rest)) c.in-OpenTag.is in
    sym (opening_no_word name (tokens_of (drop found.1 rest))) ∙ sym (ap is_one_word whole) ∙ c.loop-rest.invariant

pub returns-in-CloseTag : goal.returns-in-CloseTag
returns-in-CloseTag c =
    let rest = c.loop-rest.rest.now in
    let found = c.first_lexeme-size.result in
    let name = map to_ascii_lowercase c.in-CloseTag.field-0.now in
    let some : 0 < length rest = search rules in
    let whole : tokens_of rest ≡ close_token name ∷ tokens_of (drop found.1 rest) =
    (is_cut rest found some c.first_lexeme-size.ensures).tokens ∙ ap (λ l. lexeme_tokens l ++ tokens_of (drop found.1 rest)) c.in-CloseTag.is in
    sym (closing_no_word name (tokens_of (drop found.1 rest))) ∙ sym (ap is_one_word whole) ∙ c.loop-rest.invariant

pub returns-in-EmptyTag : goal.returns-in-EmptyTag
returns-in-EmptyTag c =
    let rest = c.loop-rest.rest.now in
    let found = c.first_lexeme-size.result in
    let some : 0 < length rest = search rules in
    let whole : tokens_of rest ≡ lexeme_tokens (EmptyTag c.in-EmptyTag.field-0) ++ tokens_of (drop found.1 rest) =
    (is_cut rest found some c.first_lexeme-size.ensures).tokens ∙ ap (λ l. lexeme_tokens l ++ tokens_of (drop found.1 rest)) c.in-EmptyTag.is in
    sym (ap is_one_word whole) ∙ c.loop-rest.invariant
