-- A text of one word, by its first lexeme.
use Rattle.std.proofs.Common.{◌≡◌, ℕ, ◌<◌, ◌≤◌, ◌+◌, true, false, ◌&&◌, nat_le, ◌==◌, List, [], ◌∷◌, ◌++◌, length, drop, map, refl, sym, ap, ◌∙◌, subst, arith}
use Rattle.std.specs.Char.{to_ascii_lowercase}
use Rattle.std.specs.List.{list_all}
use Rattle.std.proofs.lemmas.Bool.Decides.{nat_tests}
use Rattle.std.proofs.lemmas.List.{length-map}
use Rattle.std.proofs.lemmas.List.Folds.{list_all-map}
use Rattle.std.specs.Prelude.{codes}
use Rattle.std.proofs.Math.Bool.{and-false}
use Rattle.gcl_model.specs.Tokens.{is_word_byte, open_token, close_token, tokens_of}
use Rattle.word_tokens.specs.declared.lexeme.Lexeme.{Lexeme}
use Rattle.word_tokens.specs.Lexemes.{as_part, lexeme_tokens, part_of}
use Rattle.word_tokens.proofs.PartLemmas.{FitsIn, part_of_fits, tokens_of-part}
use Rattle.gcl_parser.specs.QueryTokens.{is_word, is_one_word}

-- the tokens of a text are those of its first lexeme and those behind it
pub record IsCut (text : List ℕ) (found : Lexeme × ℕ) : Type 0 where
  pub tokens : tokens_of text ≡ lexeme_tokens found.0 ++ tokens_of (drop found.1 text)
  pub some : 1 ≤ found.1
  pub fits : found.1 ≤ length text

pub is_cut : (text : List ℕ) (found : Lexeme × ℕ) → 0 < length text → as_part found ≡ part_of text → IsCut text found
is_cut text found some is =
    let fit = subst (FitsIn (length text)) (sym is) (part_of_fits text some) in
    record {
      tokens = tokens_of-part text ∙ ap (λ part. part.tokens ++ tokens_of (drop part.size text)) (sym is);
      some = fit.some;
      fits = fit.fits;
    }

word_byte-lower : (b : ℕ) → is_word_byte (to_ascii_lowercase b) ≡ is_word_byte b
word_byte-lower b = grind (arith, nat_tests)

all_word_bytes-lower : (word : List ℕ) → list_all (λ b. is_word_byte (to_ascii_lowercase b)) word ≡ list_all is_word_byte word
all_word_bytes-lower [] = refl
all_word_bytes-lower (b ∷ word) =
    ap (λ x. x && list_all (λ c. is_word_byte (to_ascii_lowercase c)) word) (word_byte-lower b) ∙ ap (λ y. is_word_byte b && y) (all_word_bytes-lower word)

-- a word is one in either case
pub is_word-lower : (word : List ℕ) → is_word (map to_ascii_lowercase word) ≡ is_word word
is_word-lower word =
    ap (λ n. nat_le 1 n && list_all is_word_byte (map to_ascii_lowercase word)) (length-map word to_ascii_lowercase)
    ∙ ap (λ all. nat_le 1 (length word) && all) (list_all-map is_word_byte to_ascii_lowercase word ∙ all_word_bytes-lower word)

-- a word is alone if no token comes after it
pub alone : (word : List ℕ) (behind : List (List ℕ)) → is_word word ≡ true → is_one_word (map to_ascii_lowercase word ∷ behind) ≡ (length behind == 0)
alone word [] is = is_word-lower word ∙ is
alone word (token ∷ behind) is = grind (arith, nat_tests)

pub no_word : (word : List ℕ) (behind : List (List ℕ)) → is_word word ≡ false → is_one_word (map to_ascii_lowercase word ∷ behind) ≡ false
no_word word [] is = is_word-lower word ∙ is
no_word word (token ∷ behind) is = refl

-- a tag is no word
tag_alone : (bytes : List ℕ) (behind : List (List ℕ)) → is_one_word ((60 ∷ bytes) ∷ behind) ≡ false
tag_alone bytes [] = and-false (nat_le 1 (length (60 ∷ bytes)))
tag_alone bytes (token ∷ behind) = refl

pub opening_no_word : (name : List ℕ) (behind : List (List ℕ)) → is_one_word (open_token name ∷ behind) ≡ false
opening_no_word name behind = tag_alone (name ++ codes ">") behind

pub closing_no_word : (name : List ℕ) (behind : List (List ℕ)) → is_one_word (close_token name ∷ behind) ≡ false
closing_no_word name behind = tag_alone (47 ∷ (name ++ codes ">")) behind
