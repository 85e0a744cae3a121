-- The least of the terms of several slots.
use Rattle.std.proofs.Common.{nat_cmp, Ordering, subst, ◌≡◌, ◌⊎◌, ℕ, Bool, true, false, cond, List, [], ◌∷◌, ◌++◌, length, flat_map, take, get_or, bytes_eq, Option, Some, None, inl, inr, refl, sym, ap, ◌∙◌, ◌<◌, ◌+◌, ◌-◌, not}
use denote.Ref.{Bor}
use Rattle.std.specs.Option.{option_map, option_to_list, MatchOption}
use Rattle.std.proofs.lemmas.Bool.{or_cases, or_left, or_right}
use Rattle.std.proofs.lemmas.Slice.Eq.{bytes_eq-Decides}
use Rattle.std.proofs.lemmas.List.{take_more, append-nil, append_assoc}
use Rattle.std.proofs.lemmas.List.Elements.{filter-append}
use Rattle.std.specs.declared.cmp.Ordering.TheVariants.{Less, Equal, Greater}
use Rattle.std.specs.Ordering.{ordering_reverse}
use Rattle.std.specs.Cmp.Lexicographic.{slice_cmp}
use Rattle.std.specs.List.{AllByRecursion, range_with_len}
use Rattle.delete_mask.specs.Masks.{is_dead}
use Rattle.std.proofs.lemmas.Cmp.{nat_list_cmp_total}
use Rattle.std.proofs.lemmas.Map.Lookups.{exact_bytes}
use Rattle.gcl_model.proofs.Lists.{all_weaker, all_append, all_filter}
use Rattle.gcl_model.specs.Slots.{SlotRange}
use Rattle.gcl_model.specs.Texts.{Word}
use Rattle.index_shard.specs.Tables.{TermEntry, ComesBefore, Precedes, IsTable, comes_from, least_term, term_at, has_address, words_of}
use Rattle.index_shard.proofs.ShardWords.{words_at}
use Rattle.index_shard.proofs.TableLaws.{names}
use Rattle.live_version.specs.Contents.{SlotContent, live_words, live_of}
use Rattle.live_version.specs.Terms.{IsLeastTerm, IsNoLater, has_term, terms_from, terms_of}

-- of two terms, the second if the first is greater
pub greater_first : (a b : List ℕ) → slice_cmp nat_cmp a b ≡ Greater → IsNoLater (Some b) (Some a)
greater_first a b is = inr (nat_list_cmp_total.antisymm b a ∙ ap ordering_reverse is)

pub not_greater : (a b : List ℕ) (o : Ordering) → slice_cmp nat_cmp a b ≡ o → (o ≡ Greater → ⊥) → IsNoLater (Some a) (Some b)
not_greater a b Less is other = inr is
not_greater a b Equal is other = inl (exact_bytes a b is)
not_greater a b Greater is other = absurd (other refl)

pub no_later_itself : (o : Option (List ℕ)) → IsNoLater o o
no_later_itself None = tt
no_later_itself (Some term) = inl refl

pub no_later_trans : (a b c : Option (List ℕ)) → IsNoLater a b → IsNoLater b c → IsNoLater a c
no_later_trans a b None ab bc = tt
no_later_trans a None (Some z) ab bc = absurd bc
no_later_trans None (Some y) (Some z) ab bc = absurd ab
no_later_trans (Some x) (Some y) (Some z) ab bc =
    elim ab [
      | inl same ↦ subst (λ t. IsNoLater (Some t) (Some z)) (sym same) bc
      | inr before ↦ elim bc [
        | inl same ↦ inr (subst (ComesBefore x) same before)
        | inr after ↦ inr (nat_list_cmp_total.trans x y z before after)
      ]
    ]

-- the term that was found of some terms, or none: no other is lesser, and it is one of them
pub record IsFound (terms : List (List ℕ)) (found : Option (List ℕ)) : Type 0 where
  pub least : AllByRecursion (λ other. IsNoLater found (Some other)) terms
  pub member : (term : List ℕ) → found ≡ Some term → has_term terms term ≡ true

has_left : (xs ys : List (List ℕ)) (term : List ℕ) → has_term xs term ≡ true → has_term (xs ++ ys) term ≡ true
has_left [] ys term has = absurd cc
has_left (x ∷ xs) ys term has =
    elim (or_cases (bytes_eq x term) (has_term xs term) has) [
      | inl h ↦ or_left (bytes_eq x term) (has_term (xs ++ ys) term) h
      | inr h ↦ or_right (bytes_eq x term) (has_term (xs ++ ys) term) (has_left xs ys term h)
    ]

has_right : (xs ys : List (List ℕ)) (term : List ℕ) → has_term ys term ≡ true → has_term (xs ++ ys) term ≡ true
has_right [] ys term has = has
has_right (x ∷ xs) ys term has = or_right (bytes_eq x term) (has_term (xs ++ ys) term) (has_right xs ys term has)

-- the lesser of what was found of two lists is found of both
pub found_both : (xs ys : List (List ℕ)) (first second found : Option (List ℕ)) → IsFound xs first → IsFound ys second → IsNoLater found first → IsNoLater found second →
    (found ≡ first) ⊎ (found ≡ second) → IsFound (xs ++ ys) found
found_both xs ys first second found left right before after among = record {
  least =
      all_append (λ other. IsNoLater found (Some other)) xs ys
      (all_weaker (λ other. IsNoLater first (Some other)) (λ other. IsNoLater found (Some other)) (λ other is. no_later_trans found first (Some other) before is) xs left.least)
      (all_weaker (λ other. IsNoLater second (Some other)) (λ other. IsNoLater found (Some other)) (λ other is. no_later_trans found second (Some other) after is) ys right.least);
  member = λ term is. elim among [
    | inl same ↦ has_left xs ys term (left.member term (sym same ∙ is))
    | inr same ↦ has_right xs ys term (right.member term (sym same ∙ is))
  ];
}

after_entry : (e : TermEntry) (es : List TermEntry) → AllByRecursion (Precedes e) es → AllByRecursion (λ other. IsNoLater (Some e.term) (Some other)) (names es)
after_entry e [] all = tt
after_entry e (d ∷ ds) all = (inr all.0.terms, after_entry e ds all.1)

-- the first term of a table that is far enough is the least of those
pub table_found : (range : SlotRange) (es : List TermEntry) (low : List ℕ) (strict : Bool) → IsTable range es → IsFound (terms_from (names es) low strict) (least_term es low strict)
table_found range [] low strict table = record { least = tt; member = λ term is. absurd cc }
table_found range (e ∷ es) low strict table = here (comes_from strict (slice_cmp nat_cmp e.term low)) (table_found range es low strict table.2)
  where
    here : (b : Bool) → IsFound (terms_from (names es) low strict) (least_term es low strict) →
        IsFound (cond b (e.term ∷ terms_from (names es) low strict) (terms_from (names es) low strict)) (cond b (Some e.term) (least_term es low strict))
    here false found = found
    here true found = record {
      least = (
        inl refl,
        all_filter (λ other. IsNoLater (Some e.term) (Some other)) (λ other. IsNoLater (Some e.term) (Some other)) (λ term. comes_from strict (slice_cmp nat_cmp term low)) (names es)
            (λ other is passes. is) (after_entry e es table.1),
      );
      member = λ term is. let same : e.term ≡ term = cc in or_left (bytes_eq e.term term) (has_term (terms_from (names es) low strict) term) ((bytes_eq-Decides e.term term).1 same);
    }

-- one slot more
pub found_more : (slots : List SlotContent) (i : ℕ) (slot : SlotContent) (low : List ℕ) (strict : Bool) (first second found : Option (List ℕ)) → i < length slots → slot ≡ get_or slots i slot →
    IsTable slot.shard.range slot.shard.table → second ≡ least_term slot.shard.table low strict → IsFound (terms_from (terms_of (take i slots)) low strict) first → IsNoLater found first → IsNoLater found second →
    (found ≡ first) ⊎ (found ≡ second) → IsFound (terms_from (terms_of (take (i + 1) slots)) low strict) found
found_more slots i slot low strict first second found lt at table is before no_later no_later_second among =
    let more : terms_of (take (i + 1) slots) ≡ terms_of (take i slots) ++ names slot.shard.table =
    ap terms_of (take_more slots i slot lt ∙ ap (λ s. take i slots ++ s ∷ []) (sym at)) ∙ terms_of-push (take i slots) slot in
    let split : terms_from (terms_of (take (i + 1) slots)) low strict ≡ terms_from (terms_of (take i slots)) low strict ++ terms_from (names slot.shard.table) low strict =
    ap (λ l. terms_from l low strict) more ∙ filter-append (λ term. comes_from strict (slice_cmp nat_cmp term low)) (terms_of (take i slots)) (names slot.shard.table) in
    subst (λ l. IsFound l found) (sym split)
    (found_both (terms_from (terms_of (take i slots)) low strict) (terms_from (names slot.shard.table) low strict) first second found before
    (subst (λ o. IsFound (terms_from (names slot.shard.table) low strict) o) (sym is) (table_found slot.shard.range slot.shard.table low strict table))
    no_later no_later_second among)
  where
    terms_of-push : (ss : List SlotContent) (s : SlotContent) → terms_of (ss ++ s ∷ []) ≡ terms_of ss ++ names s.shard.table
    terms_of-push [] s = append-nil (names s.shard.table)
    terms_of-push (x ∷ xs) s = ap (λ l. names x.shard.table ++ l) (terms_of-push xs s) ∙ sym (append_assoc (names x.shard.table) (terms_of xs) (names s.shard.table))

pub now_is : (found : Option (Bor (List ℕ))) (least : Option (List ℕ)) → MatchOption found (least ≡ None) (λ term. least ≡ Some term.now) → option_map (λ (term : Bor (List ℕ)). term.now) found ≡ least
now_is None least is = sym is
now_is (Some term) least is = sym is

-- what was found of all terms is the least of them, and none only if there is none
pub least_of_all : (terms : List (List ℕ)) (found : Option (Bor (List ℕ))) → IsFound terms (option_map (λ (term : Bor (List ℕ)). term.now) found) →
    MatchOption found (terms ≡ []) (λ term. IsLeastTerm terms term.now)
least_of_all [] None is = refl
least_of_all (x ∷ xs) None is = absurd is.least.0
least_of_all terms (Some term) is = record { member = is.member term.now refl; least = is.least }

-- the term that has an address is one of the table's
term_at-named : (es : List TermEntry) (p : ℕ) (term : List ℕ) → term_at es p ≡ Some term → has_term (names es) term ≡ true
term_at-named [] p term is = absurd cc
term_at-named (e ∷ es) p term is = here (has_address e.addresses p) is (term_at-named es p term)
  where
    here : (b : Bool) → cond b (Some e.term) (term_at es p) ≡ Some term → (term_at es p ≡ Some term → has_term (names es) term ≡ true) → has_term (names (e ∷ es)) term ≡ true
    here true same rest = let is : e.term ≡ term = cc in or_left (bytes_eq e.term term) (has_term (names es) term) ((bytes_eq-Decides e.term term).1 is)
    here false later rest = or_right (bytes_eq e.term term) (has_term (names es) term) (rest later)

-- each word of a shard has one of its terms
named : (terms : List (List ℕ)) (es : List TermEntry) (ps : List ℕ) → ((term : List ℕ) → has_term (names es) term ≡ true → has_term terms term ≡ true) →
    AllByRecursion (λ w. has_term terms w.token ≡ true) (flat_map (words_at es) ps)
named terms es [] wider = tt
named terms es (p ∷ ps) wider =
    all_append (λ w. has_term terms w.token ≡ true) (words_at es p) (flat_map (words_at es) ps) (here (term_at es p) refl) (named terms es ps wider)
  where
    here : (o : Option (List ℕ)) → term_at es p ≡ o → AllByRecursion (λ (w : Word). has_term terms w.token ≡ true) (option_to_list (option_map (λ term. record { address = p; token = term }) o))
    here None is = tt
    here (Some term) is = (wider term (term_at-named es p term is), tt)

-- each live word has a term of the slots
pub words_are_of_terms : (slots : List SlotContent) → AllByRecursion (λ w. has_term (terms_of slots) w.token ≡ true) (live_of slots)
words_are_of_terms [] = tt
words_are_of_terms (slot ∷ slots) =
    all_append (λ w. has_term (terms_of (slot ∷ slots)) w.token ≡ true) (live_words slot) (live_of slots)
    (all_filter (λ w. has_term (terms_of (slot ∷ slots)) w.token ≡ true) (λ w. has_term (terms_of (slot ∷ slots)) w.token ≡ true) (λ w. not (is_dead slot.mask w.address)) (words_of slot.shard) (λ w is alive. is)
    (named (terms_of (slot ∷ slots)) slot.shard.table (range_with_len slot.shard.range.first (slot.shard.range.last - slot.shard.range.first + 1)) (λ term has. has_left (names slot.shard.table) (terms_of slots) term has)))
    (all_weaker (λ w. has_term (terms_of slots) w.token ≡ true) (λ w. has_term (terms_of (slot ∷ slots)) w.token ≡ true) (λ w has. has_right (names slot.shard.table) (terms_of slots) w.token has) (live_of slots)
    (words_are_of_terms slots))
