-- Tables of tokens with their addresses.
use Rattle.std.proofs.Common.{◌≡◌, ℕ, zero, suc, ◌+◌, ◌<◌, Bool, true, false, cond, ◌||◌, List, [], ◌∷◌, ◌++◌, length, map, take, drop, get_or, set, replicate, ◌⊎◌, bytes_eq, inl, inr, refl, sym, ap, ◌∙◌, subst, arith, length-append, length-take, length-drop}
use Rattle.std.proofs.Math.Bool.{or-true, or-false}
use Rattle.std.specs.List.{AllByRecursion}
use Rattle.std.proofs.lemmas.List.Folds.{list_any-append}
use Rattle.gcl_model.proofs.Lists.{all_append, all_left, all_right}
use Rattle.std.proofs.lemmas.Bool.{cases_Bool}
use Rattle.std.proofs.lemmas.List.{length-map, length-set, set-get_or, get_or_default, map-append, append-nil, set_at, get_or_at, take_more, drop_more, append_assoc}
use Rattle.std.proofs.lemmas.Slice.Eq.{bytes_eq-Decides}
use Rattle.gcl_model.specs.Texts.{places}
use Rattle.text_search.specs.Names.{is_named}
use Rattle.text_search.specs.Tables.{Entry, new_entry, tokens_in, noted, places_in, AreEmpty, Names, key_of, joined, AreKeyed, IsTable}

-- an entry of another token stays
pub noted-other : (token : List ℕ) (address : ℕ) (e : Entry) → bytes_eq token e.token ≡ false → noted token address e ≡ e
noted-other token address e other =
    ap (λ s. record { token = e.token; places = e.places ++ cond s (address ∷ []) [] }) other ∙ ap (λ ps. record { token = e.token; places = ps }) (append-nil e.places)

pub noted-same : (token : List ℕ) (address : ℕ) (e : Entry) → bytes_eq token e.token ≡ true → noted token address e ≡ record { token = e.token; places = e.places ++ address ∷ [] }
noted-same token address e same = ap (λ s. record { token = e.token; places = e.places ++ cond s (address ∷ []) [] }) same

pub tokens-noted : (token : List ℕ) (address : ℕ) (entries : List Entry) → tokens_in (map (noted token address) entries) ≡ tokens_in entries
tokens-noted token address [] = refl
tokens-noted token address (e ∷ entries) = ap (λ tokens. e.token ∷ tokens) (tokens-noted token address entries)

-- one entry more is noted
pub entry_done : (f : Entry → Entry) (items old : List Entry) (i : ℕ) (x : Entry) → items ≡ map f (take i old) ++ drop i old → i < length old → x ≡ f (get_or old i x)
    → set items i x ≡ map f (take (i + 1) old) ++ drop (i + 1) old
entry_done f items old i x is below e =
    let d : Entry = get_or old i x in
    let front : length (map f (take i old)) ≡ i = length-map (take i old) f ∙ omega (arith, length-take i old) in
    ap (λ xs. set xs i x) (is ∙ ap (λ rest. map f (take i old) ++ rest) (drop_more old i x below))
    ∙ set_at (map f (take i old)) d (drop (i + 1) old) x i front
    ∙ ap (λ y. map f (take i old) ++ y ∷ drop (i + 1) old) e
    ∙ sym (append_assoc (map f (take i old)) (f d ∷ []) (drop (i + 1) old))
    ∙ ap (λ xs. xs ++ drop (i + 1) old) (sym (ap (map f) (take_more old i x below) ∙ map-append f (take i old) (d ∷ [])))

-- the entry at a place that is not yet noted
pub entry_left : (f : Entry → Entry) (items old : List Entry) (i : ℕ) (d : Entry) → items ≡ map f (take i old) ++ drop i old → i < length old → get_or items i d ≡ get_or old i d
entry_left f items old i d is below =
    let front : length (map f (take i old)) ≡ i = length-map (take i old) f ∙ omega (arith, length-take i old) in
    ap (λ xs. get_or xs i d) (is ∙ ap (λ rest. map f (take i old) ++ rest) (drop_more old i d below)) ∙ get_or_at (map f (take i old)) (get_or old i d) (drop (i + 1) old) d i front

-- the tokens while some are noted
pub tokens-done : (token : List ℕ) (address : ℕ) (old : List Entry) (i : ℕ) → tokens_in (map (noted token address) (take i old) ++ drop i old) ≡ tokens_in old
tokens-done token address old zero = refl
tokens-done token address [] (suc i) = refl
tokens-done token address (e ∷ old) (suc i) = ap (λ tokens. e.token ∷ tokens) (tokens-done token address old i)

pub tokens-set : (items : List Entry) (i : ℕ) (x d : Entry) → i < length items → x.token ≡ (get_or items i d).token → tokens_in (set items i x) ≡ tokens_in items
tokens-set [] i x d below same = refl
tokens-set (e ∷ items) zero x d below same = ap (λ token. token ∷ tokens_in items) same
tokens-set (e ∷ items) (suc i) x d below same = ap (λ tokens. e.token ∷ tokens) (tokens-set items i x d (omega arith) same)

-- tokens with a key
abbrev pub HaveKey : ℕ → List (List ℕ) → Type 0
HaveKey key tokens = AllByRecursion (λ token. key_of token ≡ key) tokens

-- a token is none of those with another key
other_key : (key : ℕ) (token other : List ℕ) → (key_of token ≡ key → ⊥) → key_of other ≡ key → bytes_eq token other ≡ false
other_key key token other differs same = elim (cases_Bool (bytes_eq token other)) [
  | inl t ↦ let e : token ≡ other = (bytes_eq-Decides token other).0 t in absurd (differs (ap key_of e ∙ same))
  | inr f ↦ f
]

-- buckets with other keys have none of its addresses
skip_bucket : (key : ℕ) (token : List ℕ) (bucket more : List Entry) → (key_of token ≡ key → ⊥) → HaveKey key (tokens_in bucket) → places_in (bucket ++ more) token ≡ places_in more token
skip_bucket key token [] more differs keyed = refl
skip_bucket key token (e ∷ bucket) more differs keyed =
    ap (λ s. cond s e.places (places_in (bucket ++ more) token)) (other_key key token e.token differs keyed.0) ∙ skip_bucket key token bucket more differs keyed.1

none_behind : (from : ℕ) (token : List ℕ) (buckets : List (List Entry)) → key_of token < from → AreKeyed from buckets → places_in (joined buckets) token ≡ []
none_behind from token [] lt keyed = refl
none_behind from token (bucket ∷ buckets) lt keyed =
    skip_bucket from token bucket (joined buckets) (λ e. absurd (omega (arith, e))) keyed.0 ∙ none_behind (from + 1) token buckets (omega arith) keyed.1

in_bucket : (token : List ℕ) (bucket more : List Entry) → places_in more token ≡ [] → places_in (bucket ++ more) token ≡ places_in bucket token
in_bucket token [] more none = none
in_bucket token (e ∷ bucket) more none = ap (λ ps. cond (bytes_eq token e.token) e.places ps) (in_bucket token bucket more none)

places_by_key : (from k : ℕ) (token : List ℕ) (buckets : List (List Entry)) (d : List Entry) → AreKeyed from buckets → key_of token ≡ from + k → k < length buckets → places_in (get_or buckets k d) token ≡ places_in (joined buckets) token
places_by_key from k token [] d keyed e below = absurd (omega arith)
places_by_key from zero token (bucket ∷ buckets) d keyed e below = sym (in_bucket token bucket (joined buckets) (none_behind (from + 1) token buckets (omega arith) keyed.1))
places_by_key from (suc k) token (bucket ∷ buckets) d keyed e below =
    places_by_key (from + 1) k token buckets d keyed.1 (omega arith) (omega arith) ∙ sym (skip_bucket from token bucket (joined buckets) (λ f. absurd (omega arith)) keyed.0)

pub places_at : (buckets : List (List Entry)) (token : List ℕ) (k : ℕ) (d : List Entry) → IsTable buckets → k ≡ key_of token → k < 64 → places_in (get_or buckets k d) token ≡ places_in (joined buckets) token
places_at buckets token k d table e below = places_by_key 0 k token buckets d table.keyed (omega arith) (omega (arith, table.count))

-- a bucket is put in place of another with the same key
keyed_set : (from k : ℕ) (buckets : List (List Entry)) (bucket : List Entry) → AreKeyed from buckets → HaveKey (from + k) (tokens_in bucket) → AreKeyed from (set buckets k bucket)
keyed_set from k [] bucket keyed h = tt
keyed_set from zero (b ∷ buckets) bucket keyed h = let e : from + 0 ≡ from = omega arith in (subst (λ key. HaveKey key (tokens_in bucket)) e h, keyed.1)
keyed_set from (suc k) (b ∷ buckets) bucket keyed h =
    let e : from + suc k ≡ from + 1 + k = omega arith in (keyed.0, keyed_set (from + 1) k buckets bucket keyed.1 (subst (λ key. HaveKey key (tokens_in bucket)) e h))

keyed_at : (from k : ℕ) (buckets : List (List Entry)) (d : List Entry) → AreKeyed from buckets → k < length buckets → HaveKey (from + k) (tokens_in (get_or buckets k d))
keyed_at from k [] d keyed below = absurd (omega arith)
keyed_at from zero (b ∷ buckets) d keyed below = let e : from ≡ from + 0 = omega arith in subst (λ key. HaveKey key (tokens_in b)) e keyed.0
keyed_at from (suc k) (b ∷ buckets) d keyed below =
    let e : from + 1 + k ≡ from + suc k = omega arith in subst (λ key. HaveKey key (tokens_in (get_or buckets k d))) e (keyed_at (from + 1) k buckets d keyed.1 (omega arith))

-- a bucket with the same tokens
pub table_with_same : (buckets : List (List Entry)) (k : ℕ) (old new : List Entry) → IsTable buckets → k < 64 → old ≡ get_or buckets k old → tokens_in new ≡ tokens_in old → IsTable (set buckets k new)
table_with_same buckets k old new table below is same =
    let at : HaveKey (0 + k) (tokens_in old) = subst (λ b. HaveKey (0 + k) (tokens_in b)) (sym is) (keyed_at 0 k buckets old table.keyed (omega (arith, table.count))) in
    record { count = length-set buckets k new ∙ table.count; keyed = keyed_set 0 k buckets new table.keyed (subst (HaveKey (0 + k)) (sym same) at) }

-- a bucket with one token more
pub table_with_more : (buckets : List (List Entry)) (k : ℕ) (old new : List Entry) (token : List ℕ) → IsTable buckets → k < 64 → k ≡ key_of token → old ≡ get_or buckets k old → new ≡ old ++ new_entry token ∷ [] → IsTable (set buckets k new)
table_with_more buckets k old new token table below e is more =
    let at : HaveKey (0 + k) (tokens_in old) = subst (λ b. HaveKey (0 + k) (tokens_in b)) (sym is) (keyed_at 0 k buckets old table.keyed (omega (arith, table.count))) in
    let same : tokens_in new ≡ tokens_in old ++ token ∷ [] = ap tokens_in more ∙ map-append (λ (e : Entry). e.token) old (new_entry token ∷ []) in
    record {
      count = length-set buckets k new ∙ table.count;
      keyed = keyed_set 0 k buckets new table.keyed (subst (HaveKey (0 + k)) (sym same) (all_append (λ token. key_of token ≡ 0 + k) (tokens_in old) (token ∷ []) at (omega arith, tt)));
    }

-- the entries of one bucket are noted
still_bucket : (key : ℕ) (token : List ℕ) (address : ℕ) (bucket : List Entry) → (key_of token ≡ key → ⊥) → HaveKey key (tokens_in bucket) → map (noted token address) bucket ≡ bucket
still_bucket key token address [] differs keyed = refl
still_bucket key token address (e ∷ bucket) differs keyed =
    ap (λ x. x ∷ map (noted token address) bucket) (noted-other token address e (other_key key token e.token differs keyed.0)) ∙ ap (λ xs. e ∷ xs) (still_bucket key token address bucket differs keyed.1)

still_behind : (from : ℕ) (token : List ℕ) (address : ℕ) (buckets : List (List Entry)) → key_of token < from → AreKeyed from buckets → map (noted token address) (joined buckets) ≡ joined buckets
still_behind from token address [] lt keyed = refl
still_behind from token address (bucket ∷ buckets) lt keyed =
    map-append (noted token address) bucket (joined buckets)
    ∙ ap (λ xs. xs ++ map (noted token address) (joined buckets)) (still_bucket from token address bucket (λ e. absurd (omega (arith, e))) keyed.0)
    ∙ ap (λ xs. bucket ++ xs) (still_behind (from + 1) token address buckets (omega arith) keyed.1)

noted_by_key : (from k : ℕ) (token : List ℕ) (address : ℕ) (buckets : List (List Entry)) (d : List Entry) → AreKeyed from buckets → key_of token ≡ from + k → k < length buckets
    → joined (set buckets k (map (noted token address) (get_or buckets k d))) ≡ map (noted token address) (joined buckets)
noted_by_key from k token address [] d keyed e below = absurd (omega arith)
noted_by_key from zero token address (bucket ∷ buckets) d keyed e below =
    sym (map-append (noted token address) bucket (joined buckets) ∙ ap (λ xs. map (noted token address) bucket ++ xs) (still_behind (from + 1) token address buckets (omega arith) keyed.1))
noted_by_key from (suc k) token address (bucket ∷ buckets) d keyed e below =
    ap (λ xs. bucket ++ xs) (noted_by_key (from + 1) k token address buckets d keyed.1 (omega arith) (omega arith))
    ∙ sym (map-append (noted token address) bucket (joined buckets) ∙ ap (λ xs. xs ++ map (noted token address) (joined buckets)) (still_bucket from token address bucket (λ f. absurd (omega arith)) keyed.0))

pub noted_at : (buckets : List (List Entry)) (token : List ℕ) (address k : ℕ) (old new : List Entry) → IsTable buckets → k ≡ key_of token → k < 64 → old ≡ get_or buckets k old → new ≡ map (noted token address) old
    → joined (set buckets k new) ≡ map (noted token address) (joined buckets)
noted_at buckets token address k old new table e below is more =
    ap (λ b. joined (set buckets k b)) (more ∙ ap (map (noted token address)) is) ∙ noted_by_key 0 k token address buckets old table.keyed (omega arith) (omega (arith, table.count))

named_append : (xs ys : List Entry) (token : List ℕ) → is_named (tokens_in (xs ++ ys)) token ≡ (is_named (tokens_in xs) token || is_named (tokens_in ys) token)
named_append xs ys token = ap (λ tokens. is_named tokens token) (map-append (λ (e : Entry). e.token) xs ys) ∙ list_any-append (λ name. bytes_eq token name) (tokens_in xs) (tokens_in ys)

-- a token that a bucket has
named_in : (buckets : List (List Entry)) (k : ℕ) (d : List Entry) (token : List ℕ) → k < length buckets → is_named (tokens_in (get_or buckets k d)) token ≡ true → is_named (tokens_in (joined buckets)) token ≡ true
named_in [] k d token below t = absurd (omega arith)
named_in (bucket ∷ buckets) zero d token below t = named_append bucket (joined buckets) token ∙ ap (λ s. s || is_named (tokens_in (joined buckets)) token) t
named_in (bucket ∷ buckets) (suc k) d token below t =
    named_append bucket (joined buckets) token ∙ ap (λ s. is_named (tokens_in bucket) token || s) (named_in buckets k d token (omega arith) t) ∙ or-true (is_named (tokens_in bucket) token)

-- a name that is there is no other one
known_name : (names : List (List ℕ)) (name : List ℕ) → is_named names name ≡ true → Names names names (name ∷ [])
known_name names name named token = elim (cases_Bool (bytes_eq token name)) [
  | inl t ↦ let e : token ≡ name = (bytes_eq-Decides token name).0 t in ap (is_named names) e ∙ named ∙ sym (ap (λ s. is_named names token || (s || false)) t ∙ or-true (is_named names token))
  | inr f ↦ sym (ap (λ s. is_named names token || (s || false)) f ∙ or-false (is_named names token))
]

pub names_known : (buckets : List (List Entry)) (k : ℕ) (old self : List Entry) (token : List ℕ) → IsTable buckets → k < 64 → old ≡ get_or buckets k old → is_named (tokens_in old) token ≡ true → joined buckets ≡ self
    → Names (tokens_in self) (tokens_in (joined (set buckets k old))) (token ∷ [])
names_known buckets k old self token table below is t view =
    let same : set buckets k old ≡ buckets = ap (set buckets k) is ∙ set-get_or buckets k old in
    let all : joined (set buckets k old) ≡ self = ap joined same ∙ view in
    let named : is_named (tokens_in self) token ≡ true =
    ap (λ xs. is_named (tokens_in xs) token) (sym view) ∙ named_in buckets k old token (omega (arith, table.count)) (ap (λ b. is_named (tokens_in b) token) (sym is) ∙ t) in
    subst (λ xs. Names (tokens_in self) (tokens_in xs) (token ∷ [])) (sym all) (known_name (tokens_in self) token named)

or_swap : (a b c : Bool) → ((a || b) || c) ≡ ((a || c) || b)
or_swap true b c = refl
or_swap false true true = refl
or_swap false true false = refl
or_swap false false true = refl
or_swap false false false = refl

or_group : (a b c : Bool) → (a || (b || c)) ≡ ((a || b) || c)
or_group true b c = refl
or_group false b c = refl

named_put : (buckets : List (List Entry)) (k : ℕ) (d : List Entry) (e : Entry) (token : List ℕ) → k < length buckets
    → is_named (tokens_in (joined (set buckets k (get_or buckets k d ++ e ∷ [])))) token ≡ (is_named (tokens_in (joined buckets)) token || (bytes_eq token e.token || false))
named_put [] k d e token below = absurd (omega arith)
named_put (bucket ∷ buckets) zero d e token below =
    let x : Bool = is_named (tokens_in bucket) token in
    let y : Bool = is_named (tokens_in (joined buckets)) token in
    named_append (bucket ++ e ∷ []) (joined buckets) token ∙ ap (λ s. s || y) (named_append bucket (e ∷ []) token)
    ∙ or_swap x (bytes_eq token e.token || false) y ∙ ap (λ s. s || (bytes_eq token e.token || false)) (sym (named_append bucket (joined buckets) token))
named_put (bucket ∷ buckets) (suc k) d e token below =
    let x : Bool = is_named (tokens_in bucket) token in
    named_append bucket (joined (set buckets k (get_or buckets k d ++ e ∷ []))) token ∙ ap (λ s. x || s) (named_put buckets k d e token (omega arith))
    ∙ or_group x (is_named (tokens_in (joined buckets)) token) (bytes_eq token e.token || false) ∙ ap (λ s. s || (bytes_eq token e.token || false)) (sym (named_append bucket (joined buckets) token))

pub names_put : (buckets : List (List Entry)) (k : ℕ) (old new self : List Entry) (token : List ℕ) → IsTable buckets → k < 64 → old ≡ get_or buckets k old → new ≡ old ++ new_entry token ∷ [] → joined buckets ≡ self
    → Names (tokens_in self) (tokens_in (joined (set buckets k new))) (token ∷ [])
names_put buckets k old new self token table below is more view other =
    ap (λ b. is_named (tokens_in (joined (set buckets k b))) other) (more ∙ ap (λ b. b ++ new_entry token ∷ []) is)
    ∙ named_put buckets k old (new_entry token) other (omega (arith, table.count))
    ∙ ap (λ xs. is_named (tokens_in xs) other || (bytes_eq other token || false)) view

empty_put_by : (buckets : List (List Entry)) (k : ℕ) (d : List Entry) (token : List ℕ) → AreEmpty (joined buckets) → AreEmpty (joined (set buckets k (get_or buckets k d ++ new_entry token ∷ [])))
empty_put_by [] k d token h = tt
empty_put_by (bucket ∷ buckets) zero d token h =
    let here : AreEmpty bucket = all_left (λ e. e.places ≡ []) bucket (joined buckets) h in
    let rest : AreEmpty (joined buckets) = all_right (λ e. e.places ≡ []) bucket (joined buckets) h in
    all_append (λ e. e.places ≡ []) (bucket ++ new_entry token ∷ []) (joined buckets) (all_append (λ e. e.places ≡ []) bucket (new_entry token ∷ []) here (refl, tt)) rest
empty_put_by (bucket ∷ buckets) (suc k) d token h =
    let here : AreEmpty bucket = all_left (λ e. e.places ≡ []) bucket (joined buckets) h in
    let rest : AreEmpty (joined buckets) = all_right (λ e. e.places ≡ []) bucket (joined buckets) h in
    all_append (λ e. e.places ≡ []) bucket (joined (set buckets k (get_or buckets k d ++ new_entry token ∷ []))) here (empty_put_by buckets k d token rest)

pub empty_put : (buckets : List (List Entry)) (k : ℕ) (old new self : List Entry) (token : List ℕ) → old ≡ get_or buckets k old → new ≡ old ++ new_entry token ∷ [] → joined buckets ≡ self
    → AreEmpty self → AreEmpty (joined (set buckets k new))
empty_put buckets k old new self token is more view h =
    subst (λ b. AreEmpty (joined (set buckets k b))) (sym (more ∙ ap (λ b. b ++ new_entry token ∷ []) is)) (empty_put_by buckets k old token (subst AreEmpty (sym view) h))

-- buckets with nothing in them
pub keyed_none : (from n : ℕ) → AreKeyed from (replicate n [])
keyed_none from zero = tt
keyed_none from (suc n) = (tt, keyed_none (from + 1) n)

pub joined_none : (n : ℕ) → joined (replicate n []) ≡ []
joined_none zero = refl
joined_none (suc n) = joined_none n

-- an entry by its parts
entry_is : (x : Entry) (token places : List ℕ) → x.token ≡ token → x.places ≡ places → x ≡ record { token = token; places = places }
entry_is x token places e f = ap (λ t. record { token = t; places = x.places }) e ∙ ap (λ ps. record { token = token; places = ps }) f

-- the entry of another token is passed over
pub note_other : (token : List ℕ) (address : ℕ) (items old : List Entry) (i : ℕ) (x : Entry) (r : Bool) → items ≡ map (noted token address) (take i old) ++ drop i old → i < length old → x ≡ get_or items i x
    → (x.token ≡ token → r ≡ true) → r ≡ false → set items i x ≡ map (noted token address) (take (i + 1) old) ++ drop (i + 1) old
note_other token address items old i x r is below at tells no_one =
    let there : x ≡ get_or old i x = at ∙ entry_left (noted token address) items old i x is below in
    let other : bytes_eq token x.token ≡ false = differs (cases_Bool (bytes_eq token x.token)) in
    entry_done (noted token address) items old i x is below (sym (noted-other token address x other) ∙ ap (noted token address) there)
  where
    differs : (bytes_eq token x.token ≡ true) ⊎ (bytes_eq token x.token ≡ false) → bytes_eq token x.token ≡ false
    differs (inl t) = let never : true ≡ false = sym (tells (sym ((bytes_eq-Decides token x.token).0 t))) ∙ no_one in absurd cc
    differs (inr f) = f

-- the entry of the token gets the address
pub note_same : (token : List ℕ) (address : ℕ) (items old : List Entry) (i : ℕ) (x y : Entry) → items ≡ map (noted token address) (take i old) ++ drop i old → i < length old → x ≡ get_or items i x
    → x.token ≡ token → y.token ≡ x.token → y.places ≡ x.places ++ address ∷ [] → set items i y ≡ map (noted token address) (take (i + 1) old) ++ drop (i + 1) old
note_same token address items old i x y is below at same tokens places =
    let there : x ≡ get_or old i y = at ∙ entry_left (noted token address) items old i x is below ∙ get_or_default old i x y below in
    let t : bytes_eq token x.token ≡ true = (bytes_eq-Decides token x.token).1 (sym same) in
    entry_done (noted token address) items old i y is below (entry_is y x.token (x.places ++ address ∷ []) tokens places ∙ sym (noted-same token address x t) ∙ ap (noted token address) there)

-- what is left after an allocation failed has the same tokens
pub note_failed : (token : List ℕ) (address : ℕ) (items old : List Entry) (i : ℕ) (x y : Entry) → items ≡ map (noted token address) (take i old) ++ drop i old → i < length items → x ≡ get_or items i x → y.token ≡ x.token
    → tokens_in (set items i y) ≡ tokens_in old
note_failed token address items old i x y is below at same =
    tokens-set items i y x below (same ∙ ap (λ (e : Entry). e.token) at) ∙ ap tokens_in is ∙ tokens-done token address old i

-- there are as many entries while some are noted
pub length_done : (token : List ℕ) (address : ℕ) (items old : List Entry) (i : ℕ) → items ≡ map (noted token address) (take i old) ++ drop i old → i < length old → i < length items
length_done token address items old i is below =
    let size : length items ≡ length (map (noted token address) (take i old)) + length (drop i old) = ap length is ∙ length-append (map (noted token address) (take i old)) (drop i old) in
    omega (arith, length-map (take i old) (noted token address), length-take i old, length-drop i old)
