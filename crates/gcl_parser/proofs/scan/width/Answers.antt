use Rattle.std.proofs.Common.{◌≡◌, ◌+◌, ◌-◌, ◌<◌, drop, length, ap, sym, ◌∙◌, arith, true, false, rules}
use Rattle.gcl_model.specs.Tokens.{starts_with_byte}
use Rattle.gcl_parser.specs.declared.fault.QueryKind.TheVariants.{BadWidth}
use Rattle.gcl_parser.specs.declared.token.Token.TheVariants as T
use Rattle.gcl_parser.specs.QueryTokens.{width_piece, one_token}
use Rattle.gcl_parser.proofs.Runs.{piece_of, digits_pass, no_width, width_behind}
use Rattle.gcl_parser.proofs.scan.width.Goals as goal

pub width_of-requires : goal.width_of-requires
width_of-requires c =
    let from = c.args.at + 1 in
    let size = c.digit_count-size.result in
    digits_pass c.args.text.now from (from + size - from) size c.digit_count-size.ensures (omega arith)

pub returns : goal.returns
returns c =
    let text = c.args.text.now in
    let at = c.args.at in
    let from = at + 1 in
    let size = c.digit_count-size.result in
    let stands : starts_with_byte 93 (drop (from + size) text) ≡ true = search rules in
    let found = width_behind text from size (from + size - from) c.digit_count-size.ensures (omega arith) stands in
    let short : from + size < length text = found.short in
    piece_of text at (width_piece (drop from text)) c.placed-2.result (size + 2) c.width_of.result c.placed-2.ensures
    (found.piece ∙ ap (λ token. one_token token (size + 2)) (sym (c.width_of.ensures.token text))) (omega arith) (c.width_of.ensures.range text)

pub returns-then-not-stands : goal.returns-then-not-stands
returns-then-not-stands c =
    let text = c.args.text.now in
    let at = c.args.at in
    let size = c.digit_count-size.result in
    let none : starts_with_byte 93 (drop (at + 1 + size) text) ≡ false = sym c.stands.ensures ∙ c.if-not-stands.true in
    piece_of text at (width_piece (drop (at + 1) text)) c.placed.result 1 (T.Broken BadWidth) c.placed.ensures
    (no_width text (at + 1) size c.digit_count-size.ensures none) (omega arith) tt
