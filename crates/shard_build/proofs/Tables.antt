-- The table that the groups of the words make.
use Rattle.std.proofs.Common.{◌≡◌, ℕ, ◌+◌, ◌-◌, ◌<◌, ◌≤◌, true, cond, List, [], ◌∷◌, ◌++◌, length, bytes_eq, nat_cmp, get_or, Option, Some, None, inl, inr, refl, sym, ap, ◌∙◌, subst, arith}
use Rattle.std.specs.declared.cmp.Ordering.{Ordering}
use Rattle.std.specs.declared.cmp.Ordering.TheVariants.{Less}
use Rattle.std.specs.List.{AllByRecursion}
use Rattle.std.specs.List.Sorted.{IsStrictlySortedBy}
use Rattle.std.specs.Cmp.Lexicographic.{slice_cmp}
use Rattle.std.proofs.lemmas.Bool.{true≢false, cases_Bool}
use Rattle.std.proofs.lemmas.Cmp.{nat_list_cmp_total, tied_itself}
use Rattle.std.proofs.lemmas.Slice.Eq.{bytes_eq-Decides}
use Rattle.gcl_model.specs.Texts.{Word, places}
use Rattle.gcl_model.specs.Slots.{SlotRange}
use Rattle.gcl_model.specs.Collections.{words_from}
use Rattle.index_shard.specs.Tables.{RiseWithin, TermEntry, ShardContent, ComesBefore, AreApart, ArePostingsIn, Precedes, IsTable, has_address, term_at, words_of}
use Rattle.index_shard.proofs.ShardWords.{rise_wider, words_in_turn}
use Rattle.shard_build.specs.Groups.{unless_empty, group_of}
use Rattle.shard_build.specs.Handed.{ComesNext}
use Rattle.shard_build.proofs.Places.{places_rise, place_tells, places_apart}

-- the postings of a token, if the table has it
abbrev pub entry_of : List TermEntry → List ℕ → Option (List ℕ)
entry_of [] token = None
entry_of (e ∷ es) token = cond (bytes_eq e.term token) (Some e.addresses) (entry_of es token)

-- entries are compared by their terms, in byte order
abbrev pub term_cmp : TermEntry → TermEntry → Ordering
term_cmp d e = slice_cmp nat_cmp d.term e.term

-- an entry has the places of its token
abbrev pub IsGroup : List Word → TermEntry → Type 0
IsGroup words e = group_of words e.term ≡ Some e.addresses

different : (a b : List ℕ) → ComesBefore a b → a ≡ b → ⊥
different a b before same =
    let less : slice_cmp nat_cmp a a ≡ Less = ap (slice_cmp nat_cmp a) same ∙ before in
    let e = sym (tied_itself nat_list_cmp_total a) ∙ less in
    absurd cc

not_met : (e : TermEntry) (es : List TermEntry) (token : List ℕ) → AllByRecursion (λ d. ComesBefore e.term d.term) es → e.term ≡ token → entry_of es token ≡ None
not_met e [] token all same = refl
not_met e (d ∷ ds) token all same =
    elim (cases_Bool (bytes_eq d.term token)) [
      | inl h ↦ absurd (different e.term d.term all.0 (same ∙ sym ((bytes_eq-Decides d.term token).0 h)))
      | inr h ↦ rw h (not_met e ds token all.1 same)
    ]

-- if each token's entry is its group, each entry is one
pub all_groups : (words : List Word) (es : List TermEntry) → IsStrictlySortedBy term_cmp es → ((token ps : List ℕ) → entry_of es token ≡ Some ps → group_of words token ≡ Some ps) → AllByRecursion (IsGroup words) es
unfolding IsStrictlySortedBy
all_groups words [] rise found = tt
all_groups words (e ∷ es) rise found =
    let itself : bytes_eq e.term e.term ≡ true = (bytes_eq-Decides e.term e.term).1 refl in (
      found e.term e.addresses (rw itself refl),
      all_groups words es rise.1
          (λ token ps is.
          elim (cases_Bool (bytes_eq e.term token)) [
            | inl h ↦ let none = not_met e es token rise.0 ((bytes_eq-Decides e.term token).0 h) in let never = sym none ∙ is in absurd cc
            | inr h ↦ found token ps (rw h is)
          ]),
    )

unless_empty-some : (ps qs : List ℕ) → unless_empty ps ≡ Some qs → (ps ≡ qs) × (0 < length qs)
unless_empty-some [] qs is = absurd cc
unless_empty-some (p ∷ ps) qs is = let e : p ∷ ps ≡ qs = cc in (e, subst (λ l. 0 < length l) e (omega arith))

postings_in : (tokens : List (List ℕ)) (range : SlotRange) (e : TermEntry) → range.last + 1 ≡ range.first + length tokens → IsGroup (words_from range.first tokens) e → ArePostingsIn range e.addresses
postings_in tokens range e width is =
    let same = unless_empty-some (places (words_from range.first tokens) e.term) e.addresses is in
    let rise = places_rise tokens range.first e.term in
    record {
      some = same.1;
      rising = subst (RiseWithin range.first (range.last + 1)) same.0 (rise_wider range.first range.first (range.first + length tokens) (range.last + 1) _ rise (omega arith) (omega arith));
    }

all_precede : (tokens : List (List ℕ)) (first : ℕ) (e : TermEntry) (es : List TermEntry) → IsGroup (words_from first tokens) e → AllByRecursion (IsGroup (words_from first tokens)) es →
    AllByRecursion (λ d. ComesBefore e.term d.term) es → AllByRecursion (Precedes e) es
all_precede tokens first e [] is all before = tt
all_precede tokens first e (d ∷ ds) is all before =
    let apart = places_apart tokens first e.term d.term (different e.term d.term before.0) in
    let mine = unless_empty-some (places (words_from first tokens) e.term) e.addresses is in
    let other = unless_empty-some (places (words_from first tokens) d.term) d.addresses all.0 in (
      record { terms = before.0; addresses = subst (λ l. AreApart l d.addresses) mine.0 (subst (AreApart (places (words_from first tokens) e.term)) other.0 apart) },
      all_precede tokens first e ds is all.1 before.1,
    )

pub groups_are_table : (tokens : List (List ℕ)) (range : SlotRange) (es : List TermEntry) → range.last + 1 ≡ range.first + length tokens → IsStrictlySortedBy term_cmp es → AllByRecursion (IsGroup (words_from range.first tokens)) es → IsTable range es
unfolding IsStrictlySortedBy
groups_are_table tokens range [] width rise all = tt
groups_are_table tokens range (e ∷ es) width rise all =
    (postings_in tokens range e width all.0, all_precede tokens range.first e es all.0 all.1 rise.0, groups_are_table tokens range es width rise.1 all.1)

all_middle : {X : Type 0} (P : X → Type 0) (xs ys : List X) (y : X) → AllByRecursion P (xs ++ y ∷ ys) → P y
all_middle P [] ys y all = all.0
all_middle P (x ∷ xs) ys y all = all_middle P xs ys y all.1

pub comes_next : (range : SlotRange) (done rest : List TermEntry) (e : TermEntry) → IsTable range (done ++ e ∷ rest) → ComesNext range done e
comes_next range [] rest e table = record { before = tt; postings = table.0; apart = tt }
comes_next range (d ∷ []) rest e table = record { before = table.1.0.terms; postings = table.2.0; apart = (table.1.0.addresses, tt) }
comes_next range (d ∷ f ∷ fs) rest e table =
    let one = all_middle (Precedes d) (f ∷ fs) rest e table.1 in
    let next = comes_next range (f ∷ fs) rest e table.2 in
    record { before = next.before; postings = next.postings; apart = (one.addresses, next.apart) }

-- the one token that has an address is found there
term_at_found : (words : List Word) (es : List TermEntry) (p : ℕ) (token : List ℕ) → AllByRecursion (IsGroup words) es → ((s : List ℕ) → has_address (places words s) p ≡ true → s ≡ token) →
    (ps : List ℕ) → entry_of es token ≡ Some ps → has_address ps p ≡ true → term_at es p ≡ Some token
term_at_found words [] p token all only ps is has = absurd cc
term_at_found words (e ∷ es) p token all only ps is has =
    let mine = unless_empty-some (places words e.term) e.addresses all.0 in
    elim (cases_Bool (has_address e.addresses p)) [
      | inl h ↦ rw h (ap (λ t. Some t) (only e.term (ap (λ l. has_address l p) mine.0 ∙ h)))
      | inr h ↦ elim (cases_Bool (bytes_eq e.term token)) [
        | inl b ↦ let same : e.addresses ≡ ps = let i = rw b at is in cc in absurd (true≢false (sym has ∙ ap (λ l. has_address l p) (sym same) ∙ h))
        | inr b ↦ rw h (term_at_found words es p token all.1 only ps (let i = rw b at is in i) has)
      ]
    ]

has_some : (ps : List ℕ) (p : ℕ) → has_address ps p ≡ true → unless_empty ps ≡ Some ps
has_some [] p has = absurd (true≢false (sym has))
has_some (q ∷ qs) p has = refl

-- the words of the table are those that were grouped
pub groups_have_words : (tokens : List (List ℕ)) (shard : ShardContent) → shard.range.last + 1 ≡ shard.range.first + length tokens → shard.range.first ≤ shard.range.last → IsStrictlySortedBy term_cmp shard.table →
    ((token : List ℕ) → entry_of shard.table token ≡ group_of (words_from shard.range.first tokens) token) → words_of shard ≡ words_from shard.range.first tokens
groups_have_words tokens shard width ordered rise found =
    let first = shard.range.first in
    let all = all_groups (words_from first tokens) shard.table rise (λ token ps is. sym (found token) ∙ is) in
    words_in_turn shard.table (shard.range.last - first + 1) first tokens (omega arith)
    (λ i lt.
    let token = get_or tokens i [] in
    let within : i < length tokens = omega arith in
    let itself : bytes_eq token token ≡ true = (bytes_eq-Decides token token).1 refl in
    let has : has_address (places (words_from first tokens) token) (first + i) ≡ true = place_tells tokens first i token within ∙ itself in
    term_at_found (words_from first tokens) shard.table (first + i) token all
    (λ s h. sym ((bytes_eq-Decides token s).0 (sym (place_tells tokens first i s within) ∙ h)))
    (places (words_from first tokens) token) (found token ∙ has_some (places (words_from first tokens) token) (first + i) has) has)
