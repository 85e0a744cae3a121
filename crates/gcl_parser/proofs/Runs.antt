-- Quoted texts and widths by the run of bytes between their ends.
use Rattle.std.proofs.Common.{◌≡◌, ℕ, ◌+◌, ◌-◌, ◌<◌, ◌≤◌, Bool, true, false, cond, List, [], ◌∷◌, length, drop, take, get_or, refl, ap, sym, subst, ◌∙◌, arith, length-drop}
use Rattle.std.proofs.lemmas.Bool.{and_from, cond-true, cond-false, not_from_true, not_from_false, false_from_ne_true}
use Rattle.std.proofs.lemmas.List.{drop_all, drop-drop, drop_more, take_rest}
use Rattle.std.proofs.lemmas.List.Sums.{prefix_len_is, take_while-cons}
use Rattle.std.proofs.lemmas.List.Folds.{length-prefix_len}
use Rattle.std.specs.List.{take_while, prefix_len, list_all}
use Rattle.std.specs.Char.{is_ascii_digit}
use Rattle.std.specs.Str.Parse.{digits_value}
use Rattle.memchr.specs.Find.{Nowhere, NoneBefore, Passes, is_byte}
use Rattle.gcl_model.specs.Tokens.{starts_with_byte}
use Rattle.word_tokens.proofs.PartLemmas.{starts_with_byte-some}
use Rattle.gcl_parser.specs.declared.fault.QueryKind.TheVariants.{OpenQuote, BadWidth}
use Rattle.gcl_parser.specs.declared.fault.QueryKind.{QueryKind}
use Rattle.gcl_parser.specs.declared.token.Token.{Token}
use Rattle.gcl_parser.specs.declared.token.PlacedToken.{PlacedToken}
use Rattle.gcl_parser.specs.QueryTokens.{QueryToken, Piece, width_piece, width_token, closed_piece, quoted_piece, is_no_quote, one_token, broken_piece}
use Rattle.gcl_parser.specs.Scanned.{shown, HasRange, IsPiece}

pub piece_of : (text : List ℕ) (at : ℕ) (piece : Piece) (l : PlacedToken) (size : ℕ) (token : Token) → l ≡ record { at = at; end = at + size; token = token } →
    piece ≡ one_token (shown text token) size → at + size ≤ length text → HasRange text token → IsPiece text at piece l
piece_of text at piece l size token is piece_is le range =
    let end : l.end ≡ at + size = ap (λ l. l.end) is in
    record {
      begins = ap (λ l. l.at) is;
      size = ap (λ p. at + p.size) piece_is ∙ sym end;
      tokens = ap (λ p. p.tokens) piece_is ∙ ap (λ l. shown text l.token ∷ []) (sym is);
      within = omega arith;
      range = subst (λ t. HasRange text t) (sym (ap (λ l. l.token) is)) range;
    }

closed : (q : ℕ) (token : QueryToken) (kind : QueryKind) (content bytes : List ℕ) (n : ℕ) → length content ≡ n → starts_with_byte q (drop n bytes) ≡ true →
    cond (starts_with_byte q (drop (length content) bytes)) (one_token token (length content + 2)) (broken_piece kind) ≡ one_token token (n + 2)
closed q token kind content bytes n is starts =
    cond-true (starts_with_byte q (drop (length content) bytes)) (one_token token (length content + 2)) (broken_piece kind)
    (ap (λ m. starts_with_byte q (drop m bytes)) is ∙ starts)
    ∙ ap (λ m. one_token token (m + 2)) is

starts_at : (bytes : List ℕ) (k : ℕ) → k < length bytes → is_byte 34 (get_or bytes k 0) ≡ true → starts_with_byte 34 (drop k bytes) ≡ true
starts_at bytes k lt is = ap (λ xs. starts_with_byte 34 xs) (drop_more bytes k 0 lt) ∙ is

pub quote_found : (bytes : List ℕ) (k : ℕ) → NoneBefore (Passes (is_byte 34) bytes) 0 (length bytes) k → Passes (is_byte 34) bytes k →
    quoted_piece bytes ≡ closed_piece (take k bytes) (starts_with_byte 42 (drop (k + 1) bytes))
quote_found bytes k before passes =
    let lt : k < length bytes = before.high in
    let len : prefix_len is_no_quote bytes ≡ k =
    prefix_len_is is_no_quote bytes k 0 (omega arith)
    (λ j h. not_from_false (is_byte 34 (get_or bytes j 0)) (false_from_ne_true (is_byte 34 (get_or bytes j 0)) (before.before j (omega arith) h)))
    (λ h. not_from_true (is_byte 34 (get_or bytes k 0)) passes) in
    let size : length (take_while is_no_quote bytes) ≡ k = length-prefix_len is_no_quote bytes ∙ len in
    let content = take_while is_no_quote bytes in
    cond-true (starts_with_byte 34 (drop (length content) bytes)) (closed_piece content (starts_with_byte 42 (drop 1 (drop (length content) bytes)))) (broken_piece OpenQuote)
    (ap (λ n. starts_with_byte 34 (drop n bytes)) size ∙ starts_at bytes k lt passes)
    ∙ ap (λ xs. closed_piece content (starts_with_byte 42 xs)) (drop-drop 1 (length content) bytes)
    ∙ ap (λ n. closed_piece content (starts_with_byte 42 (drop (n + 1) bytes))) size
    ∙ ap (λ n. closed_piece (take n bytes) (starts_with_byte 42 (drop (k + 1) bytes))) len

pub no_quote : (bytes : List ℕ) → Nowhere (Passes (is_byte 34) bytes) 0 (length bytes) → quoted_piece bytes ≡ broken_piece OpenQuote
no_quote bytes nowhere =
    let len : prefix_len is_no_quote bytes ≡ length bytes =
    prefix_len_is is_no_quote bytes (length bytes) 0 (omega arith)
    (λ j h. not_from_false (is_byte 34 (get_or bytes j 0)) (false_from_ne_true (is_byte 34 (get_or bytes j 0)) (nowhere j (omega arith) h)))
    (λ h. absurd (omega arith)) in
    let content = take_while is_no_quote bytes in
    let size : length content ≡ length bytes = length-prefix_len is_no_quote bytes ∙ len in
    cond-false (starts_with_byte 34 (drop (length content) bytes)) (closed_piece content (starts_with_byte 42 (drop 1 (drop (length content) bytes)))) (broken_piece OpenQuote)
    (ap (λ xs. starts_with_byte 34 xs) (drop_all (length content) bytes (omega arith)))

pub no_quote_behind : (text : List ℕ) (n : ℕ) → Nowhere (Passes (is_byte 34) (take (length text - n) (drop n text))) 0 (length (take (length text - n) (drop n text))) →
    quoted_piece (drop n text) ≡ broken_piece OpenQuote
no_quote_behind text n h = no_quote (drop n text) (subst (λ bytes. Nowhere (Passes (is_byte 34) bytes) 0 (length bytes)) (take_rest text n) h)

pub record IsQuoted (text : List ℕ) (n k : ℕ) : Type 0 where
  pub short : n + k < length text
  pub piece : quoted_piece (drop n text) ≡ closed_piece (take k (drop n text)) (starts_with_byte 42 (drop (n + k + 1) text))

pub quote_behind : (text : List ℕ) (n k : ℕ) → NoneBefore (Passes (is_byte 34) (take (length text - n) (drop n text))) 0 (length (take (length text - n) (drop n text))) k →
    Passes (is_byte 34) (take (length text - n) (drop n text)) k → IsQuoted text n k
quote_behind text n k before passes =
    let first = subst (λ bytes. NoneBefore (Passes (is_byte 34) bytes) 0 (length bytes) k) (take_rest text n) before in
    let lt : k < length (drop n text) = first.high in
    record {
      short = omega (arith, length-drop n text);
      piece = quote_found (drop n text) k first (subst (λ bytes. Passes (is_byte 34) bytes k) (take_rest text n) passes)
          ∙ ap (λ xs. closed_piece (take k (drop n text)) (starts_with_byte 42 xs)) (drop-drop (k + 1) n text)
          ∙ ap (λ m. closed_piece (take k (drop n text)) (starts_with_byte 42 (drop m text))) (omega arith);
    }

-- each byte of a run passes
run_passes : (p : ℕ → Bool) (xs : List ℕ) → list_all p (take_while p xs) ≡ true
run_passes p [] = refl
run_passes p (x ∷ xs) = ap (λ ys. list_all p ys) (take_while-cons p x xs) ∙ go (p x) refl (run_passes p xs)
  where
    go : (b : Bool) → p x ≡ b → list_all p (take_while p xs) ≡ true → list_all p (cond b (x ∷ take_while p xs) []) ≡ true
    go true is rest = and_from (p x) (list_all p (take_while p xs)) is rest
    go false is rest = refl

pub digits_pass : (bytes : List ℕ) (from n size : ℕ) → size ≡ length (take_while is_ascii_digit (take (length bytes - from) (drop from bytes))) → n ≡ size →
    list_all is_ascii_digit (take n (drop from bytes)) ≡ true
digits_pass bytes from n size is same =
    let len : n ≡ prefix_len is_ascii_digit (drop from bytes) = same ∙ is ∙ ap (λ xs. length (take_while is_ascii_digit xs)) (take_rest bytes from) ∙ length-prefix_len is_ascii_digit (drop from bytes) in
    ap (λ m. list_all is_ascii_digit (take m (drop from bytes))) len ∙ run_passes is_ascii_digit (drop from bytes)

-- digits up to a closing bracket are a width
pub record IsWidth (text : List ℕ) (from size n : ℕ) : Type 0 where
  pub short : from + size < length text
  pub piece : width_piece (drop from text) ≡ one_token (width_token (digits_value 10 (take n (drop from text)))) (size + 2)

pub width_behind : (text : List ℕ) (from size n : ℕ) → size ≡ length (take_while is_ascii_digit (take (length text - from) (drop from text))) → n ≡ size →
    starts_with_byte 93 (drop (from + size) text) ≡ true → IsWidth text from size n
width_behind text from size n is same starts =
    let bytes = drop from text in
    let digits = take_while is_ascii_digit bytes in
    let len : length digits ≡ size = sym (is ∙ ap (λ xs. length (take_while is_ascii_digit xs)) (take_rest text from)) in
    let taken : digits ≡ take n bytes = ap (λ m. take m bytes) (sym (length-prefix_len is_ascii_digit bytes) ∙ len ∙ sym same) in
    record {
      short = starts_with_byte-some 93 text (from + size) starts;
      piece = closed 93 (width_token (digits_value 10 digits)) BadWidth digits bytes size len (ap (λ xs. starts_with_byte 93 xs) (drop-drop size from text) ∙ starts)
          ∙ ap (λ xs. one_token (width_token (digits_value 10 xs)) (size + 2)) taken;
    }

-- and without that bracket none
pub no_width : (text : List ℕ) (from size : ℕ) → size ≡ length (take_while is_ascii_digit (take (length text - from) (drop from text))) →
    starts_with_byte 93 (drop (from + size) text) ≡ false → width_piece (drop from text) ≡ broken_piece BadWidth
no_width text from size is starts =
    let bytes = drop from text in
    let digits = take_while is_ascii_digit bytes in
    let len : length digits ≡ size = sym (is ∙ ap (λ xs. length (take_while is_ascii_digit xs)) (take_rest text from)) in
    cond-false (starts_with_byte 93 (drop (length digits) bytes)) (one_token (width_token (digits_value 10 digits)) (length digits + 2)) (broken_piece BadWidth)
    (ap (λ n. starts_with_byte 93 (drop n bytes)) len ∙ ap (λ xs. starts_with_byte 93 xs) (drop-drop size from text) ∙ starts)
