-- What a query stands for is well formed.
use Rattle.std.proofs.Common.{◌≡◌, ℕ, zero, suc, ◌+◌, ◌≤◌, ◌&&◌, Bool, true, false, cond, nat_le, List, [], ◌∷◌, ◌++◌, map, length, drop, refl, subst, arith}
use Rattle.std.proofs.lemmas.Bool.{and_parts, leb-true}
use Rattle.std.specs.Prelude.{◌==◌, take_while}
use Rattle.std.specs.Char.{is_ascii_digit}
use Rattle.std.specs.Str.Parse.{digits_value}
use Rattle.gcl_model.specs.Limits.{address_end}
use Rattle.gcl_model.specs.Forms.{Form, Forms, width, more_forms, forms_count}
use Rattle.gcl_model.specs.WellFormed.{IsWellFormed, AreWellFormed}
use Rattle.gcl_model.specs.Tokens.{is_blank, starts_with_byte, tokens_of}
use Rattle.gcl_parser.specs.declared.fault.QueryKind.TheVariants.{EmptyTerm, BadPrefix, BadWidth, OpenQuote, Character}
use Rattle.gcl_parser.specs.declared.token.Joint.{Joint}
use Rattle.gcl_parser.specs.declared.token.Joint.TheVariants.{FollowedBy, BothOf, OneOf}
use Rattle.gcl_model.specs.declared.containment.Containment.{Containment}
use Rattle.gcl_model.specs.declared.containment.Containment.TheVariants.{Containing, ContainedIn, NotContaining, NotContainedIn}
use Rattle.gcl_parser.specs.QueryTokens.{QueryToken, operand, joint, containment, open_bracket, close_bracket, broken, Piece, Placed, placed, token_of, one_token, broken_piece, quoted_token, is_one_word, prefix_form, prefix_token, closed_piece, quoted_piece, terms_of, is_no_quote, width_token, width_piece, sign_piece, first_piece, tokens_of_pieces}
use Rattle.gcl_model.specs.FormOf.{containment_form}
use Rattle.gcl_parser.specs.Grammar.{Level, Part, simple, bracketed, only, join, Query, query, Containments, no_more, and_then, spelling, query_spelling, more_spelling, form_of_part, form_of_query, members, grouped, chain_form, IsQuery}

-- each operand among the tokens is well formed
abbrev AreSound : List QueryToken → Type 0
AreSound [] = Unit {0}
AreSound (operand form ∷ tokens) = IsWellFormed form × AreSound tokens
AreSound (token ∷ tokens) = AreSound tokens

record IsSound (piece : Piece) : Type 0 where
  tokens : AreSound piece.tokens

either : (c : Bool) (p q : Piece) → IsSound p → IsSound q → IsSound (cond c p q)
either true p q h k = h
either false p q h k = k

one_sound : (token : QueryToken) (n : ℕ) → AreSound (token ∷ []) → IsSound (one_token token n)
one_sound token n h = record { tokens = h }

sign_sound : (b : ℕ) (bytes : List ℕ) → IsSound (sign_piece b bytes)
sign_sound b bytes =
    either (b == 94) (one_token (joint BothOf) 1) _ (one_sound (joint BothOf) 1 tt) (
    either (b == 43) (one_token (joint OneOf) 1) _ (one_sound (joint OneOf) 1 tt) (
    either (b == 62) (one_token (containment Containing) 1) _ (one_sound (containment Containing) 1 tt) (
    either (b == 60) (one_token (containment ContainedIn) 1) _ (one_sound (containment ContainedIn) 1 tt) (
    either (b == 40) (one_token open_bracket 1) _ (one_sound open_bracket 1 tt) (
    either (b == 41) (one_token close_bracket 1) _ (one_sound close_bracket 1 tt) (
    either ((b == 46) && starts_with_byte 46 bytes) (one_token (joint FollowedBy) 2) _ (one_sound (joint FollowedBy) 2 tt) (
    either ((b == 47) && starts_with_byte 62 bytes) (one_token (containment NotContaining) 2) _ (one_sound (containment NotContaining) 2 tt) (
    either ((b == 47) && starts_with_byte 60 bytes) (one_token (containment NotContainedIn) 2) _ (one_sound (containment NotContainedIn) 2 tt) (
    one_sound (broken Character) 1 tt)))))))))

quoted_sound : (terms : List (List ℕ)) → AreSound (quoted_token terms ∷ [])
quoted_sound [] = tt
quoted_sound (token ∷ []) = (tt, tt)
quoted_sound (token ∷ next ∷ more) = (omega arith, tt)

width_sound : (n : ℕ) → AreSound (width_token n ∷ [])
width_sound n = go (nat_le 1 n && nat_le n address_end) refl
  where
    go : (b : Bool) → (nat_le 1 n && nat_le n address_end) ≡ b → AreSound (cond b (operand (width n)) (broken BadWidth) ∷ [])
    go true is =
        let both = and_parts (nat_le 1 n) (nat_le n address_end) is in
        ((leb-true 1 n both.0, leb-true n address_end both.1), tt)
    go false is = tt

prefix_sound : (tokens : List (List ℕ)) → AreSound (prefix_token tokens ∷ [])
prefix_sound tokens = by_word (length tokens == 0) (is_one_word tokens)
  where
    by_word : (none word : Bool) → AreSound (cond none (broken EmptyTerm) (cond word (operand (prefix_form tokens)) (broken BadPrefix)) ∷ [])
    by_word true word = tt
    by_word false true = (tt, tt)
    by_word false false = tt

closed_sound : (content : List ℕ) (starred : Bool) → IsSound (closed_piece content starred)
closed_sound content true = one_sound (prefix_token (tokens_of content)) (length content + 3) (prefix_sound (tokens_of content))
closed_sound content false = one_sound (quoted_token (terms_of content)) (length content + 2) (quoted_sound (terms_of content))

quoted_piece_sound : (bytes : List ℕ) → IsSound (quoted_piece bytes)
quoted_piece_sound bytes =
    let content = take_while is_no_quote bytes in
    let starred = starts_with_byte 42 (drop 1 (drop (length content) bytes)) in
    either (starts_with_byte 34 (drop (length content) bytes)) (closed_piece content starred) (broken_piece OpenQuote)
    (closed_sound content starred) (one_sound (broken OpenQuote) 1 tt)

width_piece_sound : (bytes : List ℕ) → IsSound (width_piece bytes)
width_piece_sound bytes =
    let digits = take_while is_ascii_digit bytes in
    either (starts_with_byte 93 (drop (length digits) bytes)) (one_token (width_token (digits_value 10 digits)) (length digits + 2)) (broken_piece BadWidth)
    (one_sound (width_token (digits_value 10 digits)) (length digits + 2) (width_sound (digits_value 10 digits))) (one_sound (broken BadWidth) 1 tt)

blank_sound : IsSound record { size = 1; tokens = [] }
blank_sound = record { tokens = tt }

piece_sound : (b : ℕ) (bytes : List ℕ) → IsSound (first_piece b bytes)
piece_sound b bytes =
    either (is_blank b) record { size = 1; tokens = [] } _ blank_sound (
    either (b == 34) (quoted_piece bytes) _ (quoted_piece_sound bytes) (
    either (b == 91) (width_piece bytes) (sign_piece b bytes) (width_piece_sound bytes) (sign_sound b bytes)))

sound_append : (at : ℕ) (tokens : List QueryToken) (rest : List Placed) → AreSound tokens → AreSound (map token_of rest) → AreSound (map token_of (placed at tokens ++ rest))
sound_append at [] rest h k = k
sound_append at (operand form ∷ tokens) rest h k = (h.0, sound_append at tokens rest h.1 k)
sound_append at (joint j ∷ tokens) rest h k = sound_append at tokens rest h k
sound_append at (containment operator ∷ tokens) rest h k = sound_append at tokens rest h k
sound_append at (open_bracket ∷ tokens) rest h k = sound_append at tokens rest h k
sound_append at (close_bracket ∷ tokens) rest h k = sound_append at tokens rest h k
sound_append at (broken kind ∷ tokens) rest h k = sound_append at tokens rest h k

tokens_sound : (n at : ℕ) (bytes : List ℕ) → AreSound (map token_of (tokens_of_pieces n at bytes))
tokens_sound zero at bytes = tt
tokens_sound (suc n) at [] = tt
tokens_sound (suc n) at (b ∷ bytes) =
    let piece = first_piece b bytes in
    sound_append at piece.tokens (tokens_of_pieces n (at + piece.size) (drop piece.size (b ∷ bytes))) (piece_sound b bytes).tokens (tokens_sound n (at + piece.size) (drop piece.size (b ∷ bytes)))

-- forms that are built of well-formed ones
chain_well_formed : (j : Joint) (forms : Forms) → 2 ≤ forms_count forms → AreWellFormed forms → IsWellFormed (chain_form j forms)
chain_well_formed FollowedBy forms two h = (two, h)
chain_well_formed BothOf forms two h = (two, h)
chain_well_formed OneOf forms two h = (two, h)

containment_well_formed : (operator : Containment) (a b : Form) → IsWellFormed a → IsWellFormed b → IsWellFormed (containment_form operator a b)
containment_well_formed Containing a b h k = (h, k)
containment_well_formed ContainedIn a b h k = (h, k)
containment_well_formed NotContaining a b h k = (h, k)
containment_well_formed NotContainedIn a b h k = (h, k)

record PartIsSound {l : Level} (p : Part l) (rest : List QueryToken) : Type 0 where
  form : IsWellFormed (form_of_part p)
  all : AreWellFormed (members p)
  some : 1 ≤ forms_count (members p)
  behind : AreSound rest

record FormIsSound (form : Form) (rest : List QueryToken) : Type 0 where
  well : IsWellFormed form
  behind : AreSound rest

mutual
  part_sound : {l : Level} (p : Part l) (rest : List QueryToken) → AreSound (spelling p rest) → PartIsSound p rest
  part_sound (simple form) rest h = record { form = h.0; all = (h.0, tt); some = omega arith; behind = h.1 }
  part_sound (bracketed q) rest h =
      let inside = query_sound q (close_bracket ∷ rest) h in
      record { form = inside.well; all = (inside.well, tt); some = omega arith; behind = inside.behind }
  part_sound (only j part) rest h =
      let one = part_sound part rest h in
      record { form = one.form; all = (one.form, tt); some = omega arith; behind = one.behind }
  part_sound (join j part chain) rest h =
      let first = part_sound part (joint j ∷ spelling chain rest) h in
      let then = part_sound chain rest first.behind in
      let some : 1 ≤ forms_count (members chain) = then.some in
      let all : AreWellFormed (more_forms (form_of_part part) (members chain)) = (first.form, then.all) in
      record { form = chain_well_formed j (more_forms (form_of_part part) (members chain)) (omega arith) all; all = all; some = omega arith; behind = then.behind }

  query_sound : (q : Query) (rest : List QueryToken) → AreSound (query_spelling q rest) → FormIsSound (form_of_query q) rest
  query_sound (query part more) rest h =
      let first = part_sound part (more_spelling more rest) h in
      more_sound more (form_of_part part) rest first.form first.behind

  more_sound : (m : Containments) (form : Form) (rest : List QueryToken) → IsWellFormed form → AreSound (more_spelling m rest) → FormIsSound (grouped form m) rest
  more_sound no_more form rest well h = record { well = well; behind = h }
  more_sound (and_then operator part more) form rest well h =
      let first = part_sound part (more_spelling more rest) h in
      more_sound more (containment_form operator form (form_of_part part)) rest (containment_well_formed operator form (form_of_part part) well first.form) first.behind

pub query_well_formed : (text : List ℕ) (form : Form) → IsQuery text form → IsWellFormed form
query_well_formed text form is =
    subst IsWellFormed is.stands_for (query_sound is.tree [] (subst AreSound is.spelled (tokens_sound (length text) 0 text))).well
