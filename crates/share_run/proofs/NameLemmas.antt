-- The names of made files are names.
use Rattle.std.proofs.Common.{◌≡◌, ℕ, zero, suc, ◌+◌, ◌%◌, ◌<◌, ◌≤◌, ◌^◌, Bool, true, false, ◌&&◌, ◌==◌, List, [], ◌∷◌, ◌++◌, length, codes, nat_le, refl, ap, ◌∙◌, arith, leb-true}
use Rattle.std.specs.Prelude.{decimal}
use Rattle.std.specs.List.{list_all}
use Rattle.std.specs.Str.{is_utf8, IsAscii}
use Rattle.std.proofs.lemmas.Bool.{and_parts, le-leb}
use Rattle.std.proofs.lemmas.Bool.Decides.{nat_tests}
use Rattle.std.proofs.lemmas.Fmt.{decimal_by_steps, length-decimal-le, IsAscii-decimal}
use Rattle.std.proofs.lemmas.List.Folds.{list_all-append}
use Rattle.std.proofs.lemmas.Str.{IsUtf8-from_ascii, is_utf8-from_IsUtf8}
use Rattle.gcl_model.specs.Limits.{most_name}
use Rattle.gcl_model.specs.Names.{is_name, is_plain_byte}
use Rattle.gcl_model.specs.Tokens.{ends_with_byte}
use Rattle.made_corpus.specs.MadeFiles.{name_of}

-- a digit of ASCII
abbrev is_digit : ℕ → Bool
is_digit b = nat_le 48 b && nat_le b 57

digit : (b : ℕ) → 48 ≤ b → b ≤ 57 → is_digit b ≡ true
digit b low high = rw (le-leb 48 b low, le-leb b 57 high) refl

digit_bounds : (b : ℕ) → is_digit b ≡ true → (48 ≤ b) × (b ≤ 57)
digit_bounds b e = let p = and_parts (nat_le 48 b) (nat_le b 57) e in (leb-true 48 b p.0, leb-true b 57 p.1)

one_digit : (n : ℕ) → n < 10 → list_all is_digit ((48 + n) ∷ []) ≡ true
one_digit n lt = rw (digit (48 + n) (omega arith) (omega (arith, lt))) refl

last_digit : (n : ℕ) (ds : List ℕ) → 10 ≤ n → list_all is_digit ds ≡ true → list_all is_digit (ds ++ ((48 + n % 10) ∷ [])) ≡ true
last_digit n ds le h = list_all-append is_digit ds ((48 + n % 10) ∷ []) ∙ rw (h, one_digit (n % 10) (omega arith)) refl

all_digits : (n : ℕ) → n < 2 ^ 64 → list_all is_digit (decimal n) ≡ true
all_digits = decimal_by_steps (λ n ds. list_all is_digit ds ≡ true) one_digit last_digit

plain : (b : ℕ) → 48 ≤ b → b ≤ 57 → is_plain_byte b ≡ true
plain b low high = grind (arith, nat_tests)

all_plain : (ds : List ℕ) → list_all is_digit ds ≡ true → list_all is_plain_byte ds ≡ true
all_plain [] h = refl
all_plain (b ∷ bs) h =
    let p = and_parts (is_digit b) (list_all is_digit bs) h in
    let d = digit_bounds b p.0 in
    rw (plain b d.0 d.1, all_plain bs p.1) refl

no_space : (b : ℕ) → 48 ≤ b → (b == 32) ≡ false
no_space b low = grind (arith, nat_tests)

ends : (c : ℕ) (ds : List ℕ) → (c == 32) ≡ false → list_all is_digit ds ≡ true → ends_with_byte 32 (c ∷ ds) ≡ false
ends c [] e h = e
ends c (b ∷ bs) e h =
    let p = and_parts (is_digit b) (list_all is_digit bs) h in
    ends b bs (no_space b (digit_bounds b p.0).0) p.1

ascii : (n : ℕ) → n < 2 ^ 64 → IsAscii (codes "m" ++ decimal n)
ascii n h zero = omega arith
ascii n h (suc i) = IsAscii-decimal n h i

pub made_name : (n : ℕ) → n < 2 ^ 64 → is_name (name_of n) ≡ true
made_name n h =
    let digits = all_digits n h in
    let len = length-decimal-le 20 n (omega arith) (omega (arith, h)) h in
    let short : nat_le (length (name_of n)) most_name ≡ true = le-leb (length (name_of n)) most_name (omega (arith, len)) in
    let utf8 : is_utf8 (name_of n) ≡ true = is_utf8-from_IsUtf8 (name_of n) (IsUtf8-from_ascii (name_of n) (ascii n h)) in
    let last : ends_with_byte 32 (name_of n) ≡ false = ends 109 (decimal n) refl digits in
    let some : nat_le 1 (length (name_of n)) ≡ true = le-leb 1 (length (name_of n)) (omega arith) in
    rw (some, short, utf8, all_plain (decimal n) digits, last) refl
