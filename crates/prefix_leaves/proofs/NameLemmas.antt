-- Which words a name means.
use Rattle.std.proofs.Common.{◌≡◌, ℕ, Bool, true, false, not, cond, ◌&&◌, ◌||◌, eqb, List, [], ◌∷◌, bytes_eq, inl, inr, refl, sym, ap, ◌∙◌}
use Rattle.std.proofs.lemmas.Bool.{true≢false, cases_Bool, and_parts, and_from, or_cases, or_left, or_right, eqb-true, eq-eqb}
use Rattle.std.proofs.lemmas.Slice.Eq.{bytes_eq-Decides}
use Rattle.gcl_model.specs.Wide.{is_prefix_term, prefix_of, begins_with, stands_for_word}
use Rattle.wide_terms.proofs.Spreading.{begins_itself}
use Rattle.prefix_leaves.specs.Renaming.{is_meant_by, name_among, is_meant_among, do_overlap, is_among, is_alone, is_apart_token}

-- what one passes and the other does not is not the same
pub differ : (test : List ℕ → Bool) (a b : List ℕ) → test a ≡ true → test b ≡ false → bytes_eq a b ≡ false
differ test a b t f = elim (cases_Bool (bytes_eq a b)) [
  | inl same ↦ let e : a ≡ b = (bytes_eq-Decides a b).0 same in absurd (true≢false (sym t ∙ ap test e ∙ f))
  | inr other ↦ other
]

pub differ_back : (test : List ℕ → Bool) (a b : List ℕ) → test a ≡ false → test b ≡ true → bytes_eq a b ≡ false
differ_back test a b f t = elim (cases_Bool (bytes_eq a b)) [
  | inl same ↦ let e : a ≡ b = (bytes_eq-Decides a b).0 same in absurd (true≢false (sym t ∙ sym (ap test e) ∙ f))
  | inr other ↦ other
]

not_true : (b : Bool) → not b ≡ true → b ≡ false
not_true false e = refl
not_true true e = absurd (true≢false (sym e))

or_false : (a b : Bool) → (a || b) ≡ false → (a ≡ false) × (b ≡ false)
or_false false b e = (refl, e)
or_false true b e = absurd (true≢false e)

-- a token that no prefix means is named by itself alone
pub plain_name : (prefixes : List (List ℕ)) (name word : List ℕ) → is_meant_among prefixes name ≡ false → bytes_eq (name_among prefixes word) name ≡ bytes_eq word name
plain_name [] name word none = refl
plain_name (prefix ∷ prefixes) name word none =
    let parts = or_false (is_meant_by name prefix) (is_meant_among prefixes name) none in
    elim (cases_Bool (is_meant_by word prefix)) [
      | inl meant ↦ ap (λ b. bytes_eq (cond b prefix (name_among prefixes word)) name) meant
          ∙ differ (λ t. is_meant_by t prefix) prefix name (begins_itself prefix) parts.0
          ∙ sym (differ (λ t. is_meant_by t prefix) word name meant parts.0)
      | inr other ↦ ap (λ b. bytes_eq (cond b prefix (name_among prefixes word)) name) other ∙ plain_name prefixes name word parts.1
    ]

-- of two prefixes of one word, one begins with the other
one_begins : (a b word : List ℕ) → begins_with a word ≡ true → begins_with b word ≡ true → (begins_with a b || begins_with b a) ≡ true
one_begins [] b word p q = refl
one_begins (x ∷ a) [] word p q = refl
one_begins (x ∷ a) (y ∷ b) [] p q = absurd (true≢false (sym p))
one_begins (x ∷ a) (y ∷ b) (z ∷ word) p q =
    let at_x = and_parts (eqb z x) (begins_with a word) p in
    let at_y = and_parts (eqb z y) (begins_with b word) q in
    let same : x ≡ y = sym (eqb-true z x at_x.0) ∙ eqb-true z y at_y.0 in
    let on : eqb y x ≡ true = eq-eqb y x (sym same) in
    let back : eqb x y ≡ true = eq-eqb x y same in
    elim (or_cases (begins_with a b) (begins_with b a) (one_begins a b word at_x.1 at_y.1)) [
      | inl h ↦ or_left (begins_with (x ∷ a) (y ∷ b)) (begins_with (y ∷ b) (x ∷ a)) (and_from (eqb y x) (begins_with a b) on h)
      | inr h ↦ or_right (begins_with (x ∷ a) (y ∷ b)) (begins_with (y ∷ b) (x ∷ a)) (and_from (eqb x y) (begins_with b a) back h)
    ]

-- a word that a prefix term does not mean does not have it as its name
other_name : (prefixes : List (List ℕ)) (name word : List ℕ) → is_meant_by word name ≡ false → bytes_eq (name_among prefixes word) name ≡ false
other_name [] name word other = differ_back (λ t. is_meant_by t name) word name other (begins_itself name)
other_name (prefix ∷ prefixes) name word other = elim (cases_Bool (is_meant_by word prefix)) [
  | inl meant ↦ ap (λ b. bytes_eq (cond b prefix (name_among prefixes word)) name) meant ∙ differ (λ t. is_meant_by word t) prefix name meant other
  | inr f ↦ ap (λ b. bytes_eq (cond b prefix (name_among prefixes word)) name) f ∙ other_name prefixes name word other
]

-- a word that one of the prefix terms means, which is alone, has it as its name
its_name : (prefixes : List (List ℕ)) (name word : List ℕ) → is_among prefixes name ≡ true → is_alone prefixes name ≡ true → is_meant_by word name ≡ true → bytes_eq (name_among prefixes word) name ≡ true
its_name [] name word among alone meant = absurd (true≢false (sym among))
its_name (prefix ∷ prefixes) name word among alone meant =
    let parts = and_parts (bytes_eq prefix name || not (do_overlap prefix name)) (is_alone prefixes name) alone in
    elim (cases_Bool (is_meant_by word prefix)) [
      | inl by ↦ ap (λ b. bytes_eq (cond b prefix (name_among prefixes word)) name) by
          ∙ elim (or_cases (bytes_eq prefix name) (not (do_overlap prefix name)) parts.0) [
            | inl same ↦ same
            | inr apart ↦ absurd (true≢false (sym (one_begins (prefix_of prefix) (prefix_of name) word by meant) ∙ not_true (do_overlap prefix name) apart))
          ]
      | inr f ↦
          let behind : is_among prefixes name ≡ true = elim (or_cases (bytes_eq prefix name) (is_among prefixes name) among) [
            | inl same ↦ absurd (true≢false (sym same ∙ differ_back (λ t. is_meant_by word t) prefix name f meant))
            | inr rest ↦ rest
          ] in
          ap (λ b. bytes_eq (cond b prefix (name_among prefixes word)) name) f ∙ its_name prefixes name word behind parts.1 meant
    ]

pub prefix_name : (prefixes : List (List ℕ)) (name word : List ℕ) → is_among prefixes name ≡ true → is_alone prefixes name ≡ true → bytes_eq (name_among prefixes word) name ≡ is_meant_by word name
prefix_name prefixes name word among alone = elim (cases_Bool (is_meant_by word name)) [
  | inl t ↦ its_name prefixes name word among alone t ∙ sym t
  | inr f ↦ other_name prefixes name word f ∙ sym f
]

-- a token that is apart names the words for which it stands
pub apart_name : (prefixes : List (List ℕ)) (name word : List ℕ) → is_apart_token prefixes name ≡ true → bytes_eq (name_among prefixes word) name ≡ stands_for_word name word
apart_name prefixes name word apart = here (is_prefix_term name) apart
  where
    here : (b : Bool) → cond b (is_among prefixes name && is_alone prefixes name) (not (is_meant_among prefixes name)) ≡ true → bytes_eq (name_among prefixes word) name ≡ cond b (begins_with (prefix_of name) word) (bytes_eq word name)
    here true e = let parts = and_parts (is_among prefixes name) (is_alone prefixes name) e in prefix_name prefixes name word parts.0 parts.1
    here false e = plain_name prefixes name word (not_true (is_meant_among prefixes name) e)

pub untouched_name : (prefixes : List (List ℕ)) (name word : List ℕ) → not (is_meant_among prefixes name) ≡ true → bytes_eq (name_among prefixes word) name ≡ bytes_eq word name
untouched_name prefixes name word e = plain_name prefixes name word (not_true (is_meant_among prefixes name) e)

-- what is neither the word nor one of the prefix terms is not its name
never_named : (prefixes : List (List ℕ)) (name word : List ℕ) → is_among prefixes name ≡ false → bytes_eq word name ≡ false → bytes_eq (name_among prefixes word) name ≡ false
never_named [] name word none other = other
never_named (prefix ∷ prefixes) name word none other =
    let parts = or_false (bytes_eq prefix name) (is_among prefixes name) none in
    elim (cases_Bool (is_meant_by word prefix)) [
      | inl t ↦ ap (λ b. bytes_eq (cond b prefix (name_among prefixes word)) name) t ∙ parts.0
      | inr f ↦ ap (λ b. bytes_eq (cond b prefix (name_among prefixes word)) name) f ∙ never_named prefixes name word parts.1 other
    ]

-- a token that is meant, and that is none of the prefix terms, names no word
pub lost_name : (prefixes : List (List ℕ)) (name word : List ℕ) → is_meant_among prefixes name ≡ true → is_among prefixes name ≡ false → bytes_eq (name_among prefixes word) name ≡ false
lost_name [] name word meant none = absurd (true≢false (sym meant))
lost_name (prefix ∷ prefixes) name word meant none =
    let parts = or_false (bytes_eq prefix name) (is_among prefixes name) none in
    elim (cases_Bool (is_meant_by word prefix)) [
      | inl t ↦ ap (λ b. bytes_eq (cond b prefix (name_among prefixes word)) name) t ∙ parts.0
      | inr f ↦ ap (λ b. bytes_eq (cond b prefix (name_among prefixes word)) name) f
          ∙ elim (or_cases (is_meant_by name prefix) (is_meant_among prefixes name) meant) [
            | inl by ↦ never_named prefixes name word parts.1 (differ_back (λ t. is_meant_by t prefix) word name f by)
            | inr rest ↦ lost_name prefixes name word rest parts.1
          ]
    ]
