-- The query tokens of a text are those of its first piece and those of the rest.
use Rattle.std.proofs.Common.{◌≡◌, ℕ, zero, suc, ◌+◌, ◌<◌, ◌≤◌, Bool, true, false, cond, List, [], ◌∷◌, ◌++◌, length, drop, get_or, ◌==◌, refl, ap, sym, subst, ◌∙◌, arith, length-drop}
use Rattle.std.proofs.lemmas.List.{drop_more, drop-drop}
use Rattle.std.specs.Prelude.{take_while, ◌&&◌}
use Rattle.std.specs.Char.{is_ascii_digit}
use Rattle.gcl_model.specs.Tokens.{starts_with_byte}
use Rattle.gcl_parser.specs.declared.token.PlacedToken.{PlacedToken}
use Rattle.gcl_parser.specs.declared.fault.QueryKind.TheVariants.{Character}
use Rattle.gcl_parser.specs.declared.token.Joint.TheVariants.{FollowedBy, BothOf, OneOf}
use Rattle.gcl_model.specs.declared.containment.Containment.TheVariants.{Containing, ContainedIn, NotContaining, NotContainedIn}
use Rattle.gcl_parser.specs.QueryTokens.{QueryToken, joint, containment, open_bracket, close_bracket, broken, Piece, placed, first_piece, closed_piece, quoted_piece, width_piece, sign_piece, is_no_quote, one_token, tokens_of_pieces, tokens_behind}
use Rattle.gcl_parser.specs.Scanned.{shown, IsPiece, IsNext, tokens_from}

record IsSized (piece : Piece) : Type 0 where
  at_least : 1 ≤ piece.size

either : (c : Bool) (p q : Piece) → IsSized p → IsSized q → IsSized (cond c p q)
either true p q h k = h
either false p q h k = k

one_size : (token : QueryToken) (n : ℕ) → 1 ≤ n → IsSized (one_token token n)
one_size token n le = record { at_least = le }

sign_size : (b : ℕ) (bytes : List ℕ) → IsSized (sign_piece b bytes)
sign_size b bytes =
    let one : 1 ≤ 1 = omega arith in
    let two : 1 ≤ 2 = omega arith in
    either (b == 94) (one_token (joint BothOf) 1) _ (one_size (joint BothOf) 1 one) (
    either (b == 43) (one_token (joint OneOf) 1) _ (one_size (joint OneOf) 1 one) (
    either (b == 62) (one_token (containment Containing) 1) _ (one_size (containment Containing) 1 one) (
    either (b == 60) (one_token (containment ContainedIn) 1) _ (one_size (containment ContainedIn) 1 one) (
    either (b == 40) (one_token open_bracket 1) _ (one_size open_bracket 1 one) (
    either (b == 41) (one_token close_bracket 1) _ (one_size close_bracket 1 one) (
    either ((b == 46) && starts_with_byte 46 bytes) (one_token (joint FollowedBy) 2) _ (one_size (joint FollowedBy) 2 two) (
    either ((b == 47) && starts_with_byte 62 bytes) (one_token (containment NotContaining) 2) _ (one_size (containment NotContaining) 2 two) (
    either ((b == 47) && starts_with_byte 60 bytes) (one_token (containment NotContainedIn) 2) _ (one_size (containment NotContainedIn) 2 two) (
    one_size (broken Character) 1 one)))))))))

closed_size : (content : List ℕ) (starred : Bool) → IsSized (closed_piece content starred)
closed_size content starred = either _ _ _ (one_size _ (length content + 3) (omega arith)) (one_size _ (length content + 2) (omega arith))

quoted_size : (bytes : List ℕ) → IsSized (quoted_piece bytes)
quoted_size bytes = either _ _ _ (closed_size (take_while is_no_quote bytes) _) (one_size _ 1 (omega arith))

width_size : (bytes : List ℕ) → IsSized (width_piece bytes)
width_size bytes = either _ _ _ (one_size _ (length (take_while is_ascii_digit bytes) + 2) (omega arith)) (one_size _ 1 (omega arith))

blank_size : IsSized record { size = 1; tokens = [] }
blank_size = record { at_least = omega arith }

piece_size : (b : ℕ) (bytes : List ℕ) → IsSized (first_piece b bytes)
piece_size b bytes = either _ _ _ blank_size (either _ _ _ (quoted_size bytes) (either _ _ _ (width_size bytes) (sign_size b bytes)))

-- more pieces than bytes make no difference
pieces_enough : (n m at : ℕ) (bytes : List ℕ) → length bytes ≤ n → length bytes ≤ m → tokens_of_pieces n at bytes ≡ tokens_of_pieces m at bytes
pieces_enough zero zero at bytes p q = refl
pieces_enough zero (suc m) at [] p q = refl
pieces_enough zero (suc m) at (b ∷ bytes) p q = absurd (omega arith)
pieces_enough (suc n) zero at [] p q = refl
pieces_enough (suc n) zero at (b ∷ bytes) p q = absurd (omega arith)
pieces_enough (suc n) (suc m) at [] p q = refl
pieces_enough (suc n) (suc m) at (b ∷ bytes) p q =
    let piece = first_piece b bytes in
    let h : 1 ≤ piece.size = (piece_size b bytes).at_least in
    let shorter : length (drop piece.size (b ∷ bytes)) ≤ length bytes = omega (arith, length-drop piece.size (b ∷ bytes)) in
    ap (λ rest. placed at piece.tokens ++ rest) (pieces_enough n m (at + piece.size) (drop piece.size (b ∷ bytes)) (omega arith) (omega arith))

step : (n at b : ℕ) (bytes : List ℕ) → n ≡ suc (length bytes) →
    tokens_of_pieces n at (b ∷ bytes) ≡ placed at (first_piece b bytes).tokens ++ tokens_behind (at + (first_piece b bytes).size) (drop (first_piece b bytes).size (b ∷ bytes))
step zero at b bytes is = absurd (omega arith)
step (suc n) at b bytes is =
    let piece = first_piece b bytes in
    let h : 1 ≤ piece.size = (piece_size b bytes).at_least in
    let shorter : length (drop piece.size (b ∷ bytes)) ≤ length bytes = omega (arith, length-drop piece.size (b ∷ bytes)) in
    ap (λ rest. placed at piece.tokens ++ rest) (pieces_enough n (length (drop piece.size (b ∷ bytes))) (at + piece.size) (drop piece.size (b ∷ bytes)) (omega arith) (omega arith))

tokens_behind-cons : (at b : ℕ) (bytes : List ℕ) →
    tokens_behind at (b ∷ bytes) ≡ placed at (first_piece b bytes).tokens ++ tokens_behind (at + (first_piece b bytes).size) (drop (first_piece b bytes).size (b ∷ bytes))
tokens_behind-cons at b bytes = step (length (b ∷ bytes)) at b bytes (omega arith)

pub tokens_from-step : (text : List ℕ) (at : ℕ) (piece : Piece) → at < length text → first_piece (get_or text at 0) (drop (at + 1) text) ≡ piece →
    (tokens_from text at ≡ placed at piece.tokens ++ tokens_from text (at + piece.size)) × (1 ≤ piece.size)
tokens_from-step text at piece lt is =
    let b = get_or text at 0 in
    let bytes = drop (at + 1) text in
    let here : drop at text ≡ b ∷ bytes = drop_more text at 0 lt in
    let cut : tokens_from text at ≡ placed at (first_piece b bytes).tokens ++ tokens_from text (at + (first_piece b bytes).size) =
    ap (λ xs. tokens_behind at xs) here ∙ tokens_behind-cons at b bytes
    ∙ ap (λ xs. placed at (first_piece b bytes).tokens ++ tokens_behind (at + (first_piece b bytes).size) xs)
    (ap (λ xs. drop (first_piece b bytes).size xs) (sym here) ∙ drop-drop (first_piece b bytes).size at text) in
    (subst (λ p. tokens_from text at ≡ placed at p.tokens ++ tokens_from text (at + p.size)) is cut, subst (λ p. 1 ≤ p.size) is (piece_size b bytes).at_least)

-- the piece at a place is the first token there
pub next_at : (text : List ℕ) (at : ℕ) (l : PlacedToken) → at < length text → IsPiece text at (first_piece (get_or text at 0) (drop (at + 1) text)) l → IsNext text at l
next_at text at l lt piece =
    let p = first_piece (get_or text at 0) (drop (at + 1) text) in
    let cut = tokens_from-step text at p lt refl in
    let size : at + p.size ≡ l.end = piece.size in
    let least : 1 ≤ p.size = cut.1 in
    record {
      tokens = cut.0 ∙ ap (λ ts. placed at ts ++ tokens_from text (at + p.size)) piece.tokens
          ∙ ap (λ n. record { at = at; token = shown text l.token } ∷ tokens_from text n) piece.size
          ∙ ap (λ n. record { at = n; token = shown text l.token } ∷ tokens_from text l.end) (sym piece.begins);
      later = omega arith;
      within = piece.within;
      range = piece.range;
    }

-- blanks before it do not matter
pub next_from : (text : List ℕ) (from at : ℕ) (l : PlacedToken) → from ≤ at → tokens_from text at ≡ tokens_from text from → IsNext text at l → IsNext text from l
next_from text from at l le same next =
    let later : at < l.end = next.later in
    record { tokens = sym same ∙ next.tokens; later = omega arith; within = next.within; range = next.range }
