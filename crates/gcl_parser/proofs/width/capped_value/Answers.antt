use Rattle.std.proofs.Common.{◌≡◌, ℕ, ◌+◌, ◌*◌, ◌<◌, Bool, true, false, List, length, take, get_or, refl, arith}
use Rattle.std.proofs.lemmas.Bool.{and_parts, leb-true}
use Rattle.std.proofs.lemmas.List.Folds.{list_all_at}
use Rattle.std.proofs.lemmas.Int.Digits.{digits_value_more}
use Rattle.std.proofs.lemmas.Str.{digit_value_digit}
use Rattle.std.specs.Prelude.{nat_le}
use Rattle.std.specs.List.{list_all}
use Rattle.std.specs.Char.{is_ascii_digit, digit_value}
use Rattle.std.specs.Str.Parse.{digits_value}
use Rattle.gcl_parser.proofs.width.capped_value.Goals as goal

digit_at : (xs : List ℕ) (i : ℕ) → i < length xs → list_all is_ascii_digit xs ≡ true → digit_value (get_or xs i 0) + 48 ≡ get_or xs i 0
digit_at xs i lt all = go (is_ascii_digit (get_or xs i 0)) refl
  where
    go : (b : Bool) → is_ascii_digit (get_or xs i 0) ≡ b → digit_value (get_or xs i 0) + 48 ≡ get_or xs i 0
    go true is =
        let both = and_parts (nat_le 48 (get_or xs i 0)) (nat_le (get_or xs i 0) 57) is in
        digit_value_digit (get_or xs i 0) (leb-true 48 (get_or xs i 0) both.0, leb-true (get_or xs i 0) 57 both.1)
    go false is = absurd (let none = list_all_at is_ascii_digit xs i 0 lt is in cc)

pub loop-digit-preserved : goal.loop-digit-preserved
loop-digit-preserved c =
    let xs = c.args.digits.now in
    let i = c.loop-digit.digit-index in
    let lt : i < length xs = omega arith in
    let digit : digit_value (get_or xs i 0) + 48 ≡ get_or xs i 0 = digit_at xs i lt c.requires in
    let more : digits_value 10 (take (i + 1) xs) ≡ digits_value 10 (take i xs) * 10 + digit_value (get_or xs i 0) = digits_value_more 10 xs i lt in
    omega (arith, c.loop-digit.invariant, c.min-value.ensures, c.from.ensures)
