use Rattle.std.proofs.Common.{◌≡◌, ◌+◌, ◌-◌, ◌<◌, drop, length, take, ap, sym, ◌∙◌, arith, length-take, length-drop, Bool, false, true}
use Rattle.gcl_model.specs.Tokens.{starts_with_byte, tokens_of}
use Rattle.word_tokens.proofs.PartLemmas.{starts_with_byte-some}
use Rattle.gcl_parser.specs.QueryTokens.{closed_piece, quoted_token, prefix_token, terms_of, one_token}
use Rattle.gcl_parser.proofs.Runs.{piece_of}
use Rattle.gcl_parser.proofs.scan.closed.Goals as goal

pub returns-then-not-stands : goal.returns-then-not-stands
returns-then-not-stands c =
    let text = c.args.text.now in
    let at = c.args.at in
    let end = c.args.end in
    let inside = take (end - (at + 1)) (drop (at + 1) text) in
    let size : length inside + 2 ≡ end + 1 - at =
    omega (arith, length-take (end - (at + 1)) (drop (at + 1) text), length-drop (at + 1) text, c.requires.order, c.requires.within) in
    piece_of text at (closed_piece inside (starts_with_byte 42 (drop (end + 1) text))) c.placed.result (end + 1 - at) c.content.result c.placed.ensures
    (ap (λ (starred : Bool). closed_piece inside starred) (sym c.stands.ensures ∙ c.if-not-stands.true)
    ∙ ap (λ n. one_token (quoted_token (terms_of inside)) n) size
    ∙ ap (λ token. one_token token (end + 1 - at)) (sym c.content.ensures.token))
    (omega (arith, c.requires.order, c.requires.within)) c.content.ensures.range

pub returns : goal.returns
returns c =
    let text = c.args.text.now in
    let at = c.args.at in
    let end = c.args.end in
    let inside = take (end - (at + 1)) (drop (at + 1) text) in
    let size : length inside + 3 ≡ end + 1 - at + 1 =
    omega (arith, length-take (end - (at + 1)) (drop (at + 1) text), length-drop (at + 1) text, c.requires.order, c.requires.within) in
    let starred : starts_with_byte 42 (drop (end + 1) text) ≡ true = sym c.stands.ensures ∙ c.if-not-stands.false in
    let short : end + 1 < length text = starts_with_byte-some 42 text (end + 1) starred in
    piece_of text at (closed_piece inside (starts_with_byte 42 (drop (end + 1) text))) c.placed-2.result (end + 1 - at + 1) c.prefix.result c.placed-2.ensures
    (ap (λ (star : Bool). closed_piece inside star) starred
    ∙ ap (λ n. one_token (prefix_token (tokens_of inside)) n) size
    ∙ ap (λ token. one_token token (end + 1 - at + 1)) (sym c.prefix.ensures.token))
    (omega (arith, c.requires.order, short)) c.prefix.ensures.range
