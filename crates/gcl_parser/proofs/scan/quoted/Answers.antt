use Rattle.std.proofs.Common.{◌≡◌, ◌+◌, ◌-◌, drop, take, ap, sym, subst, ◌∙◌, arith}
use Rattle.gcl_model.specs.Tokens.{starts_with_byte}
use Rattle.gcl_parser.specs.declared.fault.QueryKind.TheVariants.{OpenQuote}
use Rattle.gcl_parser.specs.declared.token.Token.TheVariants as T
use Rattle.gcl_parser.specs.QueryTokens.{quoted_piece, closed_piece}
use Rattle.gcl_parser.specs.Scanned.{IsPiece}
use Rattle.gcl_parser.proofs.Runs.{piece_of, quote_behind, no_quote_behind}
use Rattle.gcl_parser.proofs.scan.quoted.Goals as goal

pub returns-in-None : goal.returns-in-None
returns-in-None c =
    let text = c.args.text.now in
    let at = c.args.at in
    piece_of text at (quoted_piece (drop (at + 1) text)) c.placed.result 1 (T.Broken OpenQuote) c.placed.ensures
    (no_quote_behind text (at + 1) c.in-None.ensures) (omega arith) tt

pub closed-requires : goal.closed-requires
closed-requires c =
    let found = quote_behind c.args.text.now (c.args.at + 1) c.in-Some.size c.in-Some.ensures.0 c.in-Some.ensures.1 in
    record { order = omega arith; within = found.short }

pub returns-in-Some : goal.returns-in-Some
returns-in-Some c =
    let text = c.args.text.now in
    let at = c.args.at in
    let bytes = drop (at + 1) text in
    let k = c.in-Some.size in
    let found = quote_behind text (at + 1) k c.in-Some.ensures.0 c.in-Some.ensures.1 in
    let width : at + 1 + k - (at + 1) ≡ k = omega arith in
    subst (λ piece. IsPiece text at piece c.closed.result)
    (ap (λ n. closed_piece (take n bytes) (starts_with_byte 42 (drop (at + 1 + k + 1) text))) width ∙ sym found.piece) c.closed.ensures
