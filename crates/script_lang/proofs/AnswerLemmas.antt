-- What begins with an exclamation mark: each refusal, and no other line of an answer.
use Rattle.std.proofs.Common.{◌≡◌, ℕ, zero, suc, ◌+◌, ◌-◌, ◌/◌, ◌%◌, Bool, true, false, List, [], ◌∷◌, ◌++◌, refl, sym, subst, append_assoc, arith, cond, codes}
use Rattle.std.specs.Prelude.{◌==◌, decimal}
use Rattle.std.specs.Fmt.{digits, digits_onto, digit_glyph}
use Rattle.std.proofs.lemmas.Bool.Decides.{nat_tests}
use Rattle.gcl_model.specs.Extents.{Extent}
use Rattle.address_space.specs.Runs.{FileEntry}
use Rattle.script_lang.specs.declared.refusals.Refusal.{Refusal}
use Rattle.script_lang.specs.declared.refusals.Refusal.TheVariants.{Command, LongLine, Query, NoFile, TooLong, NoAddresses, NotEmpty, NotImage, NoWatch, TooManyWatches}
use Rattle.script_lang.specs.Answers.{file_line, gone_line, interval_line, total_line, record_line, merging_line, shards_line, saved_line, opened_line, watch_line, unwatched_line, change_line, refusal_line, is_refusal}

-- a digit is no exclamation mark
digit_glyph-plain : (d : ℕ) → (digit_glyph false d == 33) ≡ false
digit_glyph-plain d = grind (arith, nat_tests)

digits_onto-plain : (k n : ℕ) (acc rest : List ℕ) → is_refusal (acc ++ rest) ≡ false → is_refusal (digits_onto k 10 false n acc ++ rest) ≡ false
digits_onto-plain zero n acc rest plain = plain
digits_onto-plain (suc k) n acc rest plain =
    let here : is_refusal ((digit_glyph false (n % 10) ∷ acc) ++ rest) ≡ false = digit_glyph-plain (n % 10) in
    elim (n / 10 == 0) as (λ t. is_refusal (cond t (digit_glyph false (n % 10) ∷ acc) (digits_onto k 10 false (n / 10) (digit_glyph false (n % 10) ∷ acc)) ++ rest) ≡ false) [
      | true ↦ here
      | false ↦ digits_onto-plain k (n / 10) (digit_glyph false (n % 10) ∷ acc) rest here
    ]

digits_onto-first : (k n : ℕ) (rest : List ℕ) → is_refusal (digits_onto (suc k) 10 false n [] ++ rest) ≡ false
digits_onto-first k n rest =
    let here : is_refusal ((digit_glyph false (n % 10) ∷ []) ++ rest) ≡ false = digit_glyph-plain (n % 10) in
    elim (n / 10 == 0) as (λ t. is_refusal (cond t (digit_glyph false (n % 10) ∷ []) (digits_onto k 10 false (n / 10) (digit_glyph false (n % 10) ∷ [])) ++ rest) ≡ false) [
      | true ↦ here
      | false ↦ digits_onto-plain k (n / 10) (digit_glyph false (n % 10) ∷ []) rest here
    ]

decimal-digits : (n : ℕ) → decimal n ≡ digits_onto (suc 63) 10 false n []
unfolding digits
decimal-digits n = refl

-- what begins with a number
decimal-plain : (n : ℕ) (rest : List ℕ) → is_refusal (decimal n ++ rest) ≡ false
decimal-plain n rest = let IsPlain : List ℕ → Type 0 = λ text. is_refusal (text ++ rest) ≡ false in subst IsPlain (sym (decimal-digits n)) (digits_onto-first 63 n rest)

pub file_line-plain : (id first last : ℕ) → is_refusal (file_line id first last) ≡ false
file_line-plain id first last = refl

pub gone_line-plain : (id : ℕ) → is_refusal (gone_line id) ≡ false
gone_line-plain id = refl

pub total_line-plain : (total : ℕ) → is_refusal (total_line total) ≡ false
total_line-plain total = refl

pub interval_line-plain : (interval : Extent) → is_refusal (interval_line interval) ≡ false
interval_line-plain interval = rw append_assoc (decimal-plain interval.start (codes " " ++ decimal interval.end))

pub record_line-plain : (file : FileEntry) → is_refusal (record_line file) ≡ false
record_line-plain file =
    simp append_assoc (decimal-plain file.id (codes " " ++ (decimal file.base ++ (codes " " ++ (decimal (file.base + file.len - 1) ++ (codes " " ++ file.name))))))

pub merging_line-plain : is_refusal merging_line ≡ false
merging_line-plain = refl

pub shards_line-plain : (count : ℕ) → is_refusal (shards_line count) ≡ false
shards_line-plain count = refl

pub saved_line-plain : (bytes : ℕ) → is_refusal (saved_line bytes) ≡ false
saved_line-plain bytes = refl

pub opened_line-plain : (files : ℕ) → is_refusal (opened_line files) ≡ false
opened_line-plain files = refl

pub watch_lines-plain : (number : ℕ) → (is_refusal (watch_line number) ≡ false) × (is_refusal (unwatched_line number) ≡ false)
watch_lines-plain number = (refl, refl)

pub change_line-plain : (number : ℕ) (came : Bool) (interval : Extent) → is_refusal (change_line number came interval) ≡ false
change_line-plain number true interval = refl
change_line-plain number false interval = refl

pub refusal_line-marked : (refusal : Refusal) → is_refusal (refusal_line refusal) ≡ true
refusal_line-marked Command = refl
refusal_line-marked LongLine = refl
refusal_line-marked (Query fault) = refl
refusal_line-marked (NoFile id) = refl
refusal_line-marked TooLong = refl
refusal_line-marked NoAddresses = refl
refusal_line-marked NotEmpty = refl
refusal_line-marked NotImage = refl
refusal_line-marked (NoWatch number) = refl
refusal_line-marked TooManyWatches = refl
