-- What the grammar says of pairs of names and values.
use Rattle.std.proofs.Common.{◌≡◌, ◌∙◌, ◌∷◌, ◌++◌, ◌&&◌, ◌||◌, not, ℕ, Bool, true, false, List, [], Option, Some, None, option_map, option_and_then, unwrap_or, refl, sym, ap, ap₂, subst, codes, bytes_eq, nat_eq, eqb-true, true≢false, suc, drop, arith, ◌+◌}
use Rattle.std.proofs.lemmas.Slice.Eq.{bytes_eq-Decides}
use Rattle.std.proofs.lemmas.Bool.{not-true, and_parts, or_parts, false_from_ne_true}
use Rattle.command_words.specs.declared.options.Made.{Made}
use Rattle.command_words.specs.declared.options.Options.{Options}
use Rattle.command_words.specs.Grammar.{Given, is_joined, parted, pairs_of, is_option_name, is_given, are_options, value_of, number_within, made_from, options_from, options_in}
use Rattle.script_lang.specs.Numbers.{is_number, number_of}
use Rattle.gcl_model.specs.Limits.{address_end, most_readers}
use Rattle.gcl_model.proofs.Lists.{take_past}

-- ---- words and pairs

-- a joined word is one pair, whatever follows
pub pairs_of-joined : (word : List ℕ) (rest : List (List ℕ)) → is_joined word ≡ true → pairs_of (word ∷ rest) ≡ option_map (λ pairs. parted word ∷ pairs) (pairs_of rest)
pairs_of-joined word [] joined = rw joined refl
pairs_of-joined word (next ∷ rest) joined = rw joined refl

-- a word that is not joined is a pair with the next one
pub pairs_of-spaced : (word next : List ℕ) (rest : List (List ℕ)) → is_joined word ≡ false
    → pairs_of (word ∷ next ∷ rest) ≡ option_map (λ pairs. (word, next) ∷ pairs) (pairs_of rest)
pairs_of-spaced word next rest spaced = rw spaced refl

-- without a next one it is no pair
pub pairs_of-last : (word : List ℕ) → is_joined word ≡ false → pairs_of (word ∷ []) ≡ None
pairs_of-last word spaced = rw spaced refl

drop-more : (b : ℕ) (rest : List ℕ) (n : ℕ) → drop (1 + n + 1) (b ∷ rest) ≡ drop (n + 1) rest
drop-more b rest n =
    let more : 1 + n + 1 ≡ suc (n + 1) = omega arith in
    ap (λ k. drop k (b ∷ rest)) more

-- a byte that is no `=` is at the front of the first part
pub parted-more : (b : ℕ) (rest : List ℕ) → nat_eq b 61 ≡ false → parted (b ∷ rest) ≡ (b ∷ (parted rest).0, (parted rest).1)
parted-more b rest other = rw other (ap₂ (λ (x y : List ℕ). (x, y)) (take_past b rest _) (drop-more b rest _))

-- a joined word is its two parts with `=` between them
pub parted-joins : (word : List ℕ) → is_joined word ≡ true → word ≡ (parted word).0 ++ 61 ∷ (parted word).1
parted-joins [] joined = absurd (true≢false (sym joined))
parted-joins (b ∷ rest) joined = go (nat_eq b 61) refl joined (parted-joins rest)
  where
    go : (t : Bool) → nat_eq b 61 ≡ t → (t || is_joined rest) ≡ true → (is_joined rest ≡ true → rest ≡ (parted rest).0 ++ 61 ∷ (parted rest).1)
        → b ∷ rest ≡ (parted (b ∷ rest)).0 ++ 61 ∷ (parted (b ∷ rest)).1
    go true t joined below = rw t (ap (λ x. x ∷ rest) (eqb-true b 61 t))
    go false t joined below = ap (λ xs. b ∷ xs) (below joined) ∙ ap (λ (p : Given). p.0 ++ 61 ∷ p.1) (sym (parted-more b rest t))

-- ---- names

-- equal bytes, and the same the other way round
pub bytes_eq-refl : (xs : List ℕ) → bytes_eq xs xs ≡ true
bytes_eq-refl xs = (bytes_eq-Decides xs xs).1 refl

pub bytes_eq-turned : (xs ys : List ℕ) → bytes_eq xs ys ≡ true → bytes_eq ys xs ≡ true
bytes_eq-turned xs ys same = (bytes_eq-Decides ys xs).1 (sym ((bytes_eq-Decides xs ys).0 same))

-- what holds of the four names holds of each name of an option
pub each_name : (P : List ℕ → Type 0) → P (codes "--first") → P (codes "--readers") → P (codes "--made") → P (codes "--count") → (name : List ℕ)
    → is_option_name name ≡ true → P name
each_name P first readers made count name known =
    is_1 (bytes_eq (codes "--first") name) refl known
  where
    at : (known : List ℕ) → P known → bytes_eq known name ≡ true → P name
    at known holds same = subst P ((bytes_eq-Decides known name).0 same) holds

    is_4 : (b : Bool) → bytes_eq (codes "--count") name ≡ b → (b || false) ≡ true → P name
    is_4 true same some = at (codes "--count") count same
    is_4 false same some = absurd (true≢false (sym some))

    is_3 : (b : Bool) → bytes_eq (codes "--made") name ≡ b → (b || (bytes_eq (codes "--count") name || false)) ≡ true → P name
    is_3 true same some = at (codes "--made") made same
    is_3 false same some = is_4 (bytes_eq (codes "--count") name) refl some

    is_2 : (b : Bool) → bytes_eq (codes "--readers") name ≡ b
        → (b || (bytes_eq (codes "--made") name || (bytes_eq (codes "--count") name || false))) ≡ true → P name
    is_2 true same some = at (codes "--readers") readers same
    is_2 false same some = is_3 (bytes_eq (codes "--made") name) refl some

    is_1 : (b : Bool) → bytes_eq (codes "--first") name ≡ b
        → (b || (bytes_eq (codes "--readers") name || (bytes_eq (codes "--made") name || (bytes_eq (codes "--count") name || false)))) ≡ true
        → P name
    is_1 true same some = at (codes "--first") first same
    is_1 false same some = is_2 (bytes_eq (codes "--readers") name) refl some

-- ---- a pair among others

-- a pair among others gives its name
pub is_given-here : (front : List Given) (given : Given) (rest : List Given) → is_given given.0 (front ++ given ∷ rest) ≡ true
is_given-here [] given rest = rw (bytes_eq-refl given.0) refl
is_given-here (x ∷ front) given rest = go (bytes_eq x.0 given.0) (is_given-here front given rest)
  where
    go : (b : Bool) → is_given given.0 (front ++ given ∷ rest) ≡ true → (b || is_given given.0 (front ++ given ∷ rest)) ≡ true
    go true there = refl
    go false there = there

-- of options that are one pair, some and others: the pair's name is known, and it is its name's value
pub record StandsIn (pairs : List Given) (given : Given) : Type 0 where
  pub known : is_option_name given.0 ≡ true
  pub value : value_of given.0 pairs ≡ Some given.1

-- each of them stands so
pub stands_in : (front : List Given) (given : Given) (rest : List Given) → are_options (front ++ given ∷ rest) ≡ true → StandsIn (front ++ given ∷ rest) given
stands_in [] given rest options = record {
  known = (and_parts _ _ (and_parts _ _ options).0).0;
  value = rw (bytes_eq-refl given.0) refl;
}
stands_in (x ∷ front) given rest options = go (bytes_eq x.0 given.0) refl (stands_in front given rest (and_parts _ _ options).1)
  where
    go : (b : Bool) → bytes_eq x.0 given.0 ≡ b → StandsIn (front ++ given ∷ rest) given → StandsIn (x ∷ front ++ given ∷ rest) given
    go true same below =
        let name : x.0 ≡ given.0 = (bytes_eq-Decides x.0 given.0).0 same in
        let twice : is_given x.0 (front ++ given ∷ rest) ≡ true = rw name (is_given-here front given rest) in
        absurd (true≢false (sym (and_parts _ _ (and_parts _ _ options).0).1 ∙ ap not twice))
    go false same below = record { known = below.known; value = rw same below.value }

-- two pairs of one name are no options
pub repeated : (front : List Given) (given : Given) (rest : List Given) → is_given given.0 front ≡ true → are_options (front ++ given ∷ rest) ≡ false
repeated [] given rest twice = absurd (true≢false (sym twice))
repeated (x ∷ front) given rest twice = go (bytes_eq x.0 given.0) refl twice (repeated front given rest)
  where
    go : (b : Bool) → bytes_eq x.0 given.0 ≡ b → (b || is_given given.0 front) ≡ true
        → (is_given given.0 front ≡ true → are_options (front ++ given ∷ rest) ≡ false) → are_options (x ∷ front ++ given ∷ rest) ≡ false
    go true same twice below =
        let name : x.0 ≡ given.0 = (bytes_eq-Decides x.0 given.0).0 same in
        let there : is_given x.0 (front ++ given ∷ rest) ≡ true = rw name (is_given-here front given rest) in
        rw there (stop (is_option_name x.0) (are_options (front ++ given ∷ rest)))
      where
        stop : (a b : Bool) → ((a && false) && b) ≡ false
        stop true b = refl
        stop false b = refl
    go false same twice below = rw (below twice) (last _)
      where
        last : (a : Bool) → (a && false) ≡ false
        last true = refl
        last false = refl

-- ---- values

-- what comes to nothing for each value comes to nothing
nothing : {X Y : Type 0} (o : Option X) → ◌≡◌ {A = Option Y} (option_and_then (λ x. None) o) None
nothing None = refl
nothing (Some x) = refl

-- a value that is no number, by the option that has it
bad_first : (value : List ℕ) → is_number value ≡ false → (readers start count : Option (List ℕ)) → options_from (Some value) readers start count ≡ None
bad_first value bad readers start count = rw bad refl

bad_readers : (value : List ℕ) → is_number value ≡ false → (first start count : Option (List ℕ)) → options_from first (Some value) start count ≡ None
bad_readers value bad first start count = rw bad (nothing _)

-- options want a corpus that can be made
unmade : (first readers start count : Option (List ℕ)) → made_from start count ≡ None → options_from first readers start count ≡ None
unmade first readers start count none =
    rw none (go (number_within 0 address_end (unwrap_or first (codes "0"))) (number_within 1 most_readers (unwrap_or readers (codes "4"))))
  where
    go : (f r : Option ℕ) → ◌≡◌ {A = Option Options} (option_and_then (λ x. option_and_then (λ y. None) r) f) None
    go None r = refl
    go (Some x) r = nothing r

bad_start : (value : List ℕ) → is_number value ≡ false → (count : Option (List ℕ)) → made_from (Some value) count ≡ None
bad_start value bad None = refl
bad_start value bad (Some count) = rw bad refl

bad_count : (value : List ℕ) → is_number value ≡ false → (start : Option (List ℕ)) → made_from start (Some value) ≡ None
bad_count value bad None = refl
bad_count value bad (Some start) = rw bad (ap (option_map (λ (m : Made). Some m)) (nothing (number_of start)))

-- the options of the values that the pairs give
abbrev from_values : List Given → Option Options
from_values pairs = options_from (value_of (codes "--first") pairs) (value_of (codes "--readers") pairs) (value_of (codes "--made") pairs) (value_of (codes "--count") pairs)

-- a value that is no number, under a name of an option
bad_value-from : (pairs : List Given) (value : List ℕ) → is_number value ≡ false → (name : List ℕ) → is_option_name name ≡ true → value_of name pairs ≡ Some value
    → from_values pairs ≡ None
bad_value-from pairs value bad =
    let first = value_of (codes "--first") pairs in
    let readers = value_of (codes "--readers") pairs in
    let start = value_of (codes "--made") pairs in
    let count = value_of (codes "--count") pairs in
    each_name (λ name. value_of name pairs ≡ Some value → from_values pairs ≡ None)
    (λ is. ap (λ o. options_from o readers start count) is ∙ bad_first value bad readers start count)
    (λ is. ap (λ o. options_from first o start count) is ∙ bad_readers value bad first start count)
    (λ is. unmade first readers start count (ap (λ o. made_from o count) is ∙ bad_start value bad count))
    (λ is. unmade first readers start count (ap (λ o. made_from start o) is ∙ bad_count value bad start))

-- ---- what is outside the grammar

-- pairs that are no options write none
pub outside : (pairs : List Given) → are_options pairs ≡ false → options_in pairs ≡ None
outside pairs none = rw none refl

-- a value that is no number writes no options
pub bad_value : (front : List Given) (given : Given) (rest : List Given) → is_number given.1 ≡ false → options_in (front ++ given ∷ rest) ≡ None
bad_value front given rest bad = go (are_options (front ++ given ∷ rest)) refl
  where
    go : (b : Bool) → are_options (front ++ given ∷ rest) ≡ b → options_in (front ++ given ∷ rest) ≡ None
    go false none = outside (front ++ given ∷ rest) none
    go true all =
        let there = stands_in front given rest all in
        rw all (bad_value-from (front ++ given ∷ rest) given.1 bad given.0 there.known there.value)

-- nor does a name of no option
pub bad_name : (front : List Given) (given : Given) (rest : List Given) → is_option_name given.0 ≡ false → options_in (front ++ given ∷ rest) ≡ None
bad_name front given rest unknown = go (are_options (front ++ given ∷ rest)) refl
  where
    go : (b : Bool) → are_options (front ++ given ∷ rest) ≡ b → options_in (front ++ given ∷ rest) ≡ None
    go false none = outside (front ++ given ∷ rest) none
    go true all = absurd (true≢false (sym ((stands_in front given rest all).known) ∙ unknown))

-- nor does a name that comes twice
pub bad_repeat : (front : List Given) (given : Given) (rest : List Given) → is_given given.0 front ≡ true → options_in (front ++ given ∷ rest) ≡ None
bad_repeat front given rest twice = outside (front ++ given ∷ rest) (repeated front given rest twice)

-- a new name of an option may follow options
pub one_more : (front : List Given) (given : Given) → are_options front ≡ true → is_option_name given.0 ≡ true → is_given given.0 front ≡ false
    → are_options (front ++ given ∷ []) ≡ true
one_more [] given options known new = rw known refl
one_more (x ∷ front) given options known new =
    let head : (is_option_name x.0 ≡ true) × (not (is_given x.0 front) ≡ true) = and_parts _ _ (and_parts _ _ options).0 in
    let apart = or_parts (bytes_eq x.0 given.0) _ new in
    let below : are_options (front ++ given ∷ []) ≡ true = one_more front given (and_parts _ _ options).1 known apart.1 in
    let still : is_given x.0 (front ++ given ∷ []) ≡ false = absent x.0 given front (not-true (is_given x.0 front) head.1) (unturned apart.0) in
    rw (head.0, still, below) refl
  where
    unturned : bytes_eq x.0 given.0 ≡ false → bytes_eq given.0 x.0 ≡ false
    unturned other = false_from_ne_true (bytes_eq given.0 x.0) (λ same. true≢false (sym (bytes_eq-turned given.0 x.0 same) ∙ other))

    absent : (name : List ℕ) (last : Given) (xs : List Given) → is_given name xs ≡ false → bytes_eq last.0 name ≡ false → is_given name (xs ++ last ∷ []) ≡ false
    absent name last [] none other = rw other refl
    absent name last (y ∷ ys) none other =
        let parts : (bytes_eq y.0 name ≡ false) × (is_given name ys ≡ false) = or_parts (bytes_eq y.0 name) _ none in
        rw (parts.0, absent name last ys parts.1 other) refl
