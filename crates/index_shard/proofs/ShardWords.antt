-- The words of a shard against the postings of its terms.
use Rattle.std.proofs.Common.{◌≡◌, ℕ, zero, suc, ◌+◌, ◌-◌, ◌<◌, ◌≤◌, Bool, true, false, eqb, List, [], ◌∷◌, ◌++◌, length, flat_map, bytes_eq, nat_cmp, get_or, Option, Some, None, inl, inr, refl, sym, ap, ◌∙◌, arith, le_refl}
use Rattle.std.specs.declared.cmp.Ordering.TheVariants.{Greater}
use Rattle.std.specs.Ordering.{ordering_reverse}
use Rattle.std.specs.Cmp.Lexicographic.{slice_cmp}
use Rattle.std.specs.List.{AllByRecursion, range_with_len}
use Rattle.std.proofs.lemmas.Cmp.{nat_list_cmp_total}
use Rattle.std.specs.Option.{option_to_list, option_map}
use Rattle.std.proofs.lemmas.Bool.{true≢false, cases_Bool, or_cases, or_left, eqb-true, eq-eqb, cases_lt}
use Rattle.std.proofs.lemmas.Slice.Eq.{bytes_eq-Decides}
use Rattle.gcl_model.specs.Collections.{words_from}
use Rattle.gcl_model.specs.Slots.{SlotRange}
use Rattle.gcl_model.specs.Texts.{Word, places, AreRisingBelow}
use Rattle.posting_code.specs.Postings.{RiseWithin}
pub use Rattle.posting_code.proofs.Rising.{rise_wider}
use Rattle.index_shard.specs.Tables.{TermEntry, ShardContent, IsShard, ComesBefore, AreApart, Precedes, IsTable, has_address, postings_of, term_at, words_of}
use Rattle.index_shard.proofs.TableLaws.{all_at, same_term, postings_missed}

abbrev pub word : ℕ → List ℕ → Word
word p term = record { address = p; token = term }

-- the word at one address
abbrev pub words_at : List TermEntry → ℕ → List Word
words_at table p = option_to_list (option_map (word p) (term_at table p))

-- whether this is the term
abbrev pub is_the_term : List ℕ → Option (List ℕ) → Bool
is_the_term term None = false
is_the_term term (Some s) = bytes_eq s term

-- one word more at the front, or none
rising_step : (next low p : ℕ) (o : Option (List ℕ)) (rest : List Word) → low ≤ p → p < next → AreRisingBelow next (p + 1) rest → AreRisingBelow next low rest →
    AreRisingBelow next low (option_to_list (option_map (word p) o) ++ rest)
rising_step next low p None rest le lt after all = all
rising_step next low p (Some s) rest le lt after all = (le, lt, after)

words_rise_from : (table : List TermEntry) (n p low next : ℕ) → low ≤ p → p + n ≤ next → AreRisingBelow next low (flat_map (words_at table) (range_with_len p n))
words_rise_from table zero p low next le lt = tt
words_rise_from table (suc n) p low next le lt =
    rising_step next low p (term_at table p) (flat_map (words_at table) (range_with_len (p + 1) n)) le (omega arith)
    (words_rise_from table n (p + 1) (p + 1) next (omega arith) (omega arith)) (words_rise_from table n (p + 1) low next (omega arith) (omega arith))

pub shard_words_rise : (shard : ShardContent) → IsShard shard → AreRisingBelow (shard.range.last + 1) shard.range.first (words_of shard)
shard_words_rise shard is =
    let le = is.ordered in
    words_rise_from shard.table (shard.range.last - shard.range.first + 1) shard.range.first shard.range.first (shard.range.last + 1) (omega arith) (omega arith)

-- an address that no later term has is no posting of a later term
apart_postings : (xs : List ℕ) (es : List TermEntry) (term : List ℕ) (p : ℕ) → AllByRecursion (λ d. AreApart xs d.addresses) es → has_address xs p ≡ true → has_address (postings_of es term) p ≡ false
apart_postings xs [] term p apart has = refl
apart_postings xs (e ∷ es) term p apart has =
    elim (cases_Bool (bytes_eq e.term term)) [
      | inl h ↦ rw h (apart.0 p has)
      | inr h ↦ rw h (apart_postings xs es term p apart.1 has)
    ]

all_apart : (e : TermEntry) (es : List TermEntry) → AllByRecursion (Precedes e) es → AllByRecursion (λ d. AreApart e.addresses d.addresses) es
all_apart e [] all = tt
all_apart e (d ∷ ds) all = (all.0.addresses, all_apart e ds all.1)

-- a term is in the table once
once : (e : TermEntry) (es : List TermEntry) (term : List ℕ) → AllByRecursion (Precedes e) es → bytes_eq e.term term ≡ true → postings_of es term ≡ []
once e es term all is =
    let same : e.term ≡ term = (bytes_eq-Decides e.term term).0 is in
    postings_missed es term
    (λ k d lt.
    let other = (get_or es k d).term in
    let before : ComesBefore e.term other = (all_at (Precedes e) es k d all lt).terms in
    let behind = ap (λ t. slice_cmp nat_cmp t other) (sym same) ∙ before in
    same_term other term Greater (nat_list_cmp_total.antisymm other term ∙ ap ordering_reverse behind))

-- the term at an address is the one that has it among its postings
term_at_tells : (range : SlotRange) (es : List TermEntry) (term : List ℕ) (p : ℕ) → IsTable range es → is_the_term term (term_at es p) ≡ has_address (postings_of es term) p
term_at_tells range [] term p table = refl
term_at_tells range (e ∷ es) term p table =
    elim (cases_Bool (has_address e.addresses p)) [
      | inl has ↦ elim (cases_Bool (bytes_eq e.term term)) [
        | inl is ↦ rw (has, is) (sym has)
        | inr is ↦ rw (has, is) (sym (apart_postings e.addresses es term p (all_apart e es table.1) has))
      ]
      | inr has ↦ elim (cases_Bool (bytes_eq e.term term)) [
        | inl is ↦ rw (has, is) (term_at_tells range es term p table.2 ∙ ap (λ l. has_address l p) (once e es term table.1 is) ∙ sym has)
        | inr is ↦ rw (has, is) (term_at_tells range es term p table.2)
      ]
    ]

postings_rise : (range : SlotRange) (es : List TermEntry) (term : List ℕ) → IsTable range es → RiseWithin range.first (range.last + 1) (postings_of es term)
postings_rise range [] term table = tt
postings_rise range (e ∷ es) term table =
    elim (cases_Bool (bytes_eq e.term term)) [ inl is ↦ rw is table.0.rising | inr is ↦ rw is (postings_rise range es term table.2) ]

pub lacks_earlier : (low end : ℕ) (xs : List ℕ) (p : ℕ) → RiseWithin low end xs → p < low → has_address xs p ≡ false
lacks_earlier low end [] p rise lt = refl
lacks_earlier low end (x ∷ xs) p rise lt =
    elim (cases_Bool (has_address (x ∷ xs) p)) [
      | inr h ↦ h
      | inl h ↦ elim (or_cases (eqb x p) (has_address xs p) h) [
        | inl e ↦ let is = eqb-true x p e in let le = rise.0 in absurd (omega arith)
        | inr e ↦ let le = rise.0 in absurd (true≢false (sym e ∙ lacks_earlier (x + 1) end xs p rise.2 (omega arith)))
      ]
    ]

places_skip : (p : ℕ) (o : Option (List ℕ)) (rest : List Word) (term : List ℕ) → is_the_term term o ≡ false → places (option_to_list (option_map (word p) o) ++ rest) term ≡ places rest term
places_skip p None rest term e = refl
places_skip p (Some s) rest term e = rw e refl

places_take : (p : ℕ) (o : Option (List ℕ)) (rest : List Word) (term : List ℕ) → is_the_term term o ≡ true → places (option_to_list (option_map (word p) o) ++ rest) term ≡ p ∷ places rest term
places_take p None rest term e = absurd (true≢false (sym e))
places_take p (Some s) rest term e = rw e refl

pub has_first : (x : ℕ) (xs : List ℕ) → has_address (x ∷ xs) x ≡ true
has_first x xs = or_left (eqb x x) (has_address xs x) (eq-eqb x x refl)

pub has_later : (x : ℕ) (xs : List ℕ) (q : ℕ) → x < q → has_address (x ∷ xs) q ≡ has_address xs q
has_later x xs q lt =
    elim (cases_Bool (eqb x q)) [
      | inl e ↦ let is = eqb-true x q e in absurd (omega arith)
      | inr e ↦ rw e refl
    ]

-- in a range starting at p, rising addresses that show where the term is are its places
places_from : (table : List TermEntry) (term : List ℕ) (n p : ℕ) (ps : List ℕ) → RiseWithin p (p + n) ps → ((q : ℕ) → p ≤ q → is_the_term term (term_at table q) ≡ has_address ps q) →
    places (flat_map (words_at table) (range_with_len p n)) term ≡ ps
places_from table term zero p [] rise tells = refl
places_from table term zero p (x ∷ xs) rise tells = let a = rise.0 in let b = rise.1 in absurd (omega arith)
places_from table term (suc n) p [] rise tells =
    let rest = flat_map (words_at table) (range_with_len (p + 1) n) in
    places_skip p (term_at table p) rest term (tells p (omega arith)) ∙ places_from table term n (p + 1) [] tt (λ q le. tells q (omega arith))
places_from table term (suc n) p (x ∷ xs) rise tells =
    let rest = flat_map (words_at table) (range_with_len (p + 1) n) in
    let a = rise.0 in
    elim (cases_lt p x) [
      | inl lt ↦
          let rises : RiseWithin (p + 1) (p + 1 + n) (x ∷ xs) = rise_wider x (p + 1) (p + suc n) (p + 1 + n) (x ∷ xs) (le_refl x, rise.1, rise.2) (omega arith) (omega arith) in
          places_skip p (term_at table p) rest term (tells p (omega arith) ∙ lacks_earlier (p + 1) (p + 1 + n) (x ∷ xs) p rises (omega arith))
          ∙ places_from table term n (p + 1) (x ∷ xs) rises (λ q le. tells q (omega arith))
      | inr le ↦
          let is : x ≡ p = omega arith in
          let rises : RiseWithin (p + 1) (p + 1 + n) xs = rise_wider (x + 1) (p + 1) (p + suc n) (p + 1 + n) xs rise.2 (omega arith) (omega arith) in
          let has : has_address (x ∷ xs) p ≡ true = ap (has_address (x ∷ xs)) (sym is) ∙ has_first x xs in
          places_take p (term_at table p) rest term (tells p (omega arith) ∙ has)
          ∙ ap (λ l. p ∷ l) (places_from table term n (p + 1) xs rises (λ q le. tells q (omega arith) ∙ has_later x xs q (omega arith)))
          ∙ ap (λ y. y ∷ xs) (sym is)
    ]

pub places_are_postings : (shard : ShardContent) (term : List ℕ) → IsShard shard → places (words_of shard) term ≡ postings_of shard.table term
places_are_postings shard term is =
    let le = is.ordered in
    let first = shard.range.first in
    let last = shard.range.last in
    places_from shard.table term (last - first + 1) first (postings_of shard.table term)
    (rise_wider first first (last + 1) (first + (last - first + 1)) (postings_of shard.table term) (postings_rise shard.range shard.table term is.table) (omega arith) (omega arith))
    (λ q le. term_at_tells shard.range shard.table term q is.table)

-- if each address starting at p has the token of a list in turn, the words are those of the list
pub words_in_turn : (table : List TermEntry) (n p : ℕ) (tokens : List (List ℕ)) → n ≡ length tokens →
    ((i : ℕ) → i < n → term_at table (p + i) ≡ Some (get_or tokens i [])) → flat_map (words_at table) (range_with_len p n) ≡ words_from p tokens
words_in_turn table zero p [] is at = refl
words_in_turn table zero p (t ∷ ts) is at = absurd (omega arith)
words_in_turn table (suc n) p [] is at = absurd (omega arith)
words_in_turn table (suc n) p (t ∷ ts) is at =
    let here : p + 0 ≡ p = omega arith in
    let first : term_at table p ≡ Some t = ap (term_at table) (sym here) ∙ at 0 (omega arith) in
    let later =
    words_in_turn table n (p + 1) ts (omega arith)
    (λ i lt. let next : p + 1 + i ≡ p + suc i = omega arith in ap (term_at table) next ∙ at (suc i) (omega arith)) in
    ap (λ o. option_to_list (option_map (word p) o) ++ flat_map (words_at table) (range_with_len (p + 1) n)) first
    ∙ ap (λ ws. word p t ∷ ws) later

-- the places of a term among rising words rise
pub rising_places : (next low : ℕ) (words : List Word) (term : List ℕ) → AreRisingBelow next low words → RiseWithin low next (places words term)
rising_places next low [] term rise = tt
rising_places next low (w ∷ ws) term rise =
    let le = rise.0 in
    let rest = rising_places next (w.address + 1) ws term rise.2 in
    elim (cases_Bool (bytes_eq w.token term)) [
      | inl e ↦ rw e (rise.0, rise.1, rest)
      | inr e ↦ rw e (rise_wider (w.address + 1) low next next (places ws term) rest (omega (arith, le)) (omega arith))
    ]

-- if words rise, each address occurs once: no two terms have a place in common
pub rising_apart : (next low : ℕ) (words : List Word) (a b : List ℕ) → AreRisingBelow next low words → (a ≡ b → ⊥) → AreApart (places words a) (places words b)
rising_apart next low [] a b rise other q has = refl
rising_apart next low (w ∷ ws) a b rise other q has =
    let p = w.address in
    let mine = places ws a in
    let others = places ws b in
    let early_a = lacks_earlier (p + 1) next mine p (rising_places next (p + 1) ws a rise.2) (omega arith) in
    let early_b = lacks_earlier (p + 1) next others p (rising_places next (p + 1) ws b rise.2) (omega arith) in
    let rest = rising_apart next (p + 1) ws a b rise.2 other q in
    elim (cases_Bool (bytes_eq w.token a)) [
      | inl ea ↦ elim (cases_Bool (bytes_eq w.token b)) [
        | inl eb ↦ absurd (other (sym ((bytes_eq-Decides w.token a).0 ea) ∙ (bytes_eq-Decides w.token b).0 eb))
        | inr eb ↦ rw eb (elim (or_cases (eqb p q) (has_address mine q) (rw ea at has)) [
          | inl e ↦ ap (has_address others) (sym (eqb-true p q e)) ∙ early_b
          | inr e ↦ rest e
        ])
      ]
      | inr ea ↦
          let has = rw ea at has in
          elim (cases_Bool (bytes_eq w.token b)) [
            | inl eb ↦ rw eb (elim (cases_Bool (eqb p q)) [
              | inl e ↦ absurd (true≢false (sym has ∙ ap (has_address mine) (sym (eqb-true p q e)) ∙ early_a))
              | inr e ↦ rw e (rest has)
            ])
            | inr eb ↦ rw eb (rest has)
          ]
    ]
