-- The grammar of the words, worked out.
use Rattle.std.proofs.Common.{◌≡◌, [], ◌∷◌, refl, codes, Option, Some, None}
use Rattle.command_words.specs.declared.options.Options.{Options}
use Rattle.command_words.specs.Grammar.{pairs_of, options_of}

-- 7 as the first address, with 4 readers and no made corpus
abbrev first_is_7 : Option Options
first_is_7 = Some (record { first = 7; readers = 4; made = None })

-- a corpus of 8 files from the number 3, starting at address 9, with 2 readers
abbrev made_of_8 : Option Options
made_of_8 = Some (record { first = 9; readers = 2; made = Some (record { start = 3; count = 8 }) })

none-given : options_of [] ≡ Some (record { first = 0; readers = 4; made = None })
none-given = refl

-- both ways to write the value are the same pair
pairs-both_ways : pairs_of (codes "--first=7" ∷ codes "--readers" ∷ codes "2" ∷ []) ≡ Some ((codes "--first", codes "7") ∷ (codes "--readers", codes "2") ∷ [])
pairs-both_ways = refl

first-spaced : options_of (codes "--first" ∷ codes "7" ∷ []) ≡ first_is_7
first-spaced = refl

first-joined : options_of (codes "--first=7" ∷ []) ≡ first_is_7
first-joined = refl

-- the order is free
all-in_order : options_of (codes "--first=9" ∷ codes "--readers=2" ∷ codes "--made" ∷ codes "3" ∷ codes "--count" ∷ codes "8" ∷ []) ≡ made_of_8
all-in_order = refl

all-turned : options_of (codes "--count" ∷ codes "8" ∷ codes "--made=3" ∷ codes "--readers" ∷ codes "2" ∷ codes "--first=9" ∷ []) ≡ made_of_8
all-turned = refl

-- a repeat, a count alone, `--`, 19 digits, no value, a wrong word and a short name are outside
repeated : options_of (codes "--first=7" ∷ codes "--first" ∷ codes "7" ∷ []) ≡ None
repeated = refl

alone : options_of (codes "--count=8" ∷ []) ≡ None
alone = refl

dashes : options_of (codes "--first=7" ∷ codes "--" ∷ []) ≡ None
dashes = refl

eighteen_digits : options_of (codes "--first=000000000000000007" ∷ []) ≡ first_is_7
eighteen_digits = refl

nineteen_digits : options_of (codes "--first=0000000000000000007" ∷ []) ≡ None
nineteen_digits = refl

no_value : options_of (codes "--first=" ∷ []) ≡ None
no_value = refl

option_as_value : options_of (codes "--first" ∷ codes "--readers=2" ∷ []) ≡ None
option_as_value = refl

shortened : options_of (codes "--fir=7" ∷ []) ≡ None
shortened = refl

-- the last address and the one after it
first-end : options_of (codes "--first=72057594037927936" ∷ []) ≡ Some (record { first = 72057594037927936; readers = 4; made = None })
first-end = refl

first-behind : options_of (codes "--first=72057594037927937" ∷ []) ≡ None
first-behind = refl
