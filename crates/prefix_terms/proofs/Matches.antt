-- The live terms of a slot's row are the words of the slot that begin with the prefix.
use Rattle.std.proofs.Common.{◌≡◌, ℕ, zero, suc, ◌+◌, ◌-◌, ◌*◌, ◌<◌, ◌≤◌, Bool, true, false, cond, ◌&&◌, ◌||◌, leb, filter, map, find, List, [], ◌∷◌, ◌++◌, length, take, bytes_eq, slice_get, Option, Some, inl, inr, refl, sym, ap, ◌∙◌, subst, arith, is_some}
use Rattle.std.specs.List.{AllByRecursion, list_any}
use Rattle.std.proofs.Math.Nat.{mul-le-mul_left}
use Rattle.std.proofs.lemmas.Bool.{cases_Bool, and_parts, and_from, and_left, false_from_ne_true, le-leb}
use Rattle.std.proofs.lemmas.Slice.Eq.{bytes_eq-Decides}
use Rattle.gcl_model.specs.Slots.{SlotRange}
use Rattle.gcl_model.specs.Texts.{Word, places}
use Rattle.gcl_model.specs.Wide.{begins_with}
use Rattle.gcl_model.specs.declared.direction.Direction.TheVariants.{Forward}
use Rattle.index_shard.specs.Searched.{nearest}
use Rattle.index_shard.specs.Tables.{TermEntry, ShardContent, IsTable, Precedes, addresses_at, postings_of}
use Rattle.live_version.specs.Contents.{SlotContent, IsSlot, live_words}
use Rattle.live_version.specs.LookUps.{is_alive}
use Rattle.live_version.proofs.WordLemmas.{live_places}
use Rattle.wide_terms.specs.Vocabulary.{ComesBefore, RiseInBytes, matching_words}
use Rattle.wide_terms.proofs.Tokens.{Has, any_tells, any_from, of_each, each_from, filter_has, has_filter, has_map, map_has, never_before_itself}
use Rattle.wide_terms.proofs.Vocabularies.{matching_unique}
use Rattle.prefix_terms.specs.Runs.{names, live_in}

abbrev is_live_entry : List SlotRange → List ℕ → TermEntry → Bool
is_live_entry mask prefix e = begins_with prefix e.term && list_any (is_alive mask) e.addresses

live_rises : (range : SlotRange) (mask : List SlotRange) (prefix : List ℕ) (es : List TermEntry) → IsTable range es → RiseInBytes (live_in mask prefix es)
live_rises range mask prefix [] table = tt
live_rises range mask prefix (e ∷ es) table =
    let rest = live_rises range mask prefix es table.2 in
    let after = each_from (ComesBefore e.term) (live_in mask prefix es)
    (λ t m.
    let r = map_has (λ (d : TermEntry). d.term) (filter (is_live_entry mask prefix) es) t m in
    let precedes = of_each (Precedes e) es r.0 table.1 (has_filter (is_live_entry mask prefix) es r.0 r.1).0 in
    subst (ComesBefore e.term) r.2 precedes.terms) in
    elim (cases_Bool (is_live_entry mask prefix e)) [ inl h ↦ rw h (after, rest) | inr h ↦ rw h rest ]

-- the postings of an entry's term are its addresses
pub postings_of_entry : (range : SlotRange) (es : List TermEntry) (e : TermEntry) → IsTable range es → Has es e → postings_of es e.term ≡ e.addresses
postings_of_entry range [] e table m = absurd m
postings_of_entry range (d ∷ ds) e table (inl same) =
    ap (λ b. cond b d.addresses (postings_of ds e.term)) ((bytes_eq-Decides d.term e.term).1 (ap (λ (x : TermEntry). x.term) same)) ∙ ap (λ (x : TermEntry). x.addresses) same
postings_of_entry range (d ∷ ds) e table (inr m) =
    let before = (of_each (Precedes d) ds e table.1 m).terms in
    let other : bytes_eq d.term e.term ≡ false = false_from_ne_true (bytes_eq d.term e.term) (λ same. never_before_itself d.term (subst (ComesBefore d.term) (sym ((bytes_eq-Decides d.term e.term).0 same)) before)) in
    ap (λ b. cond b d.addresses (postings_of ds e.term)) other ∙ postings_of_entry range ds e table.2 m

-- a posting of a term is an address of its entry
entry_of_posting : (es : List TermEntry) (t : List ℕ) (p : ℕ) → Has (postings_of es t) p → (e : TermEntry) × Has es e × (e.term ≡ t) × Has e.addresses p
entry_of_posting [] t p m = absurd m
entry_of_posting (e ∷ es) t p m = here (bytes_eq e.term t) refl m (entry_of_posting es t p)
  where
    here : (b : Bool) → bytes_eq e.term t ≡ b → Has (cond b e.addresses (postings_of es t)) p → (Has (postings_of es t) p → (d : TermEntry) × Has es d × (d.term ≡ t) × Has d.addresses p) →
        (d : TermEntry) × Has (e ∷ es) d × (d.term ≡ t) × Has d.addresses p
    here true same m rest = (e, inl refl, (bytes_eq-Decides e.term t).0 same, m)
    here false other m rest = let r = rest m in (r.0, inr r.1, r.2, r.3)

-- a live posting of a term is the address of a word
word_of_posting : (slot : SlotContent) (t : List ℕ) (p : ℕ) → IsSlot slot → Has (postings_of slot.shard.table t) p → is_alive slot.mask p ≡ true → (w : Word) × Has (live_words slot) w × (w.token ≡ t)
word_of_posting slot t p is m alive =
    let live : Has (places (live_words slot) t) p = subst (λ ps. Has ps p) (sym (live_places slot t is)) (filter_has (is_alive slot.mask) (postings_of slot.shard.table t) p m alive) in
    let r = map_has (λ (w : Word). w.address) (filter (λ (w : Word). bytes_eq w.token t) (live_words slot)) p live in
    let s = has_filter (λ (w : Word). bytes_eq w.token t) (live_words slot) r.0 r.1 in
    (r.0, s.0, (bytes_eq-Decides r.0.token t).0 s.1)

-- and the other way round
posting_of_word : (slot : SlotContent) (w : Word) → IsSlot slot → Has (live_words slot) w → Has (postings_of slot.shard.table w.token) w.address × (is_alive slot.mask w.address ≡ true)
posting_of_word slot w is m =
    let same : Word → Bool = λ v. bytes_eq v.token w.token in
    let place : Has (places (live_words slot) w.token) w.address =
    has_map (λ (v : Word). v.address) (filter same (live_words slot)) w (filter_has same (live_words slot) w m ((bytes_eq-Decides w.token w.token).1 refl)) in
    has_filter (is_alive slot.mask) (postings_of slot.shard.table w.token) w.address (subst (λ ps. Has ps w.address) (live_places slot w.token is) place)

-- the terms with an address that is not dead are the words of the slot
pub live_matches : (slot : SlotContent) (prefix : List ℕ) → IsSlot slot → live_in slot.mask prefix slot.shard.table ≡ matching_words (live_words slot) prefix
live_matches slot prefix is =
    let live = is_live_entry slot.mask prefix in
    matching_unique (live_words slot) prefix (live_in slot.mask prefix slot.shard.table) (live_rises slot.shard.range slot.mask prefix slot.shard.table is.shard.table)
    (λ t m.
    let r = map_has (λ (e : TermEntry). e.term) (filter live slot.shard.table) t m in
    let s = has_filter live slot.shard.table r.0 r.1 in
    let parts = and_parts (begins_with prefix r.0.term) (list_any (is_alive slot.mask) r.0.addresses) s.1 in
    let p = any_tells (is_alive slot.mask) r.0.addresses parts.1 in
    let posting : Has (postings_of slot.shard.table r.0.term) p.0 = subst (λ ps. Has ps p.0) (sym (postings_of_entry slot.shard.range slot.shard.table r.0 is.shard.table s.0)) p.1 in
    let w = word_of_posting slot r.0.term p.0 is posting p.2 in
    ((w.0, w.1, w.2 ∙ r.2), ap (begins_with prefix) (sym r.2) ∙ parts.0))
    (λ w m begins.
    let p = posting_of_word slot w is m in
    let e = entry_of_posting slot.shard.table w.token w.address p.0 in
    let passes = and_from (begins_with prefix e.0.term) (list_any (is_alive slot.mask) e.0.addresses) (ap (begins_with prefix) e.2 ∙ begins) (any_from (is_alive slot.mask) e.0.addresses w.address e.3 p.1) in
    subst (Has (live_in slot.mask prefix slot.shard.table)) e.2 (has_map (λ (d : TermEntry). d.term) (filter live slot.shard.table) e.0 (filter_has live slot.shard.table e.0 e.1 passes)))

-- entries none of which begins with the prefix have none
live_none : (mask : List SlotRange) (prefix : List ℕ) (es : List TermEntry) → ((k : ℕ) (t : List ℕ) → slice_get (names es) k ≡ Some t → begins_with prefix t ≡ false) → live_in mask prefix es ≡ []
live_none mask prefix [] none = refl
live_none mask prefix (e ∷ es) none =
    let here : is_live_entry mask prefix e ≡ false = and_left (begins_with prefix e.term) (list_any (is_alive mask) e.addresses) (none 0 e.term refl) in
    rw here (live_none mask prefix es (λ k t is. none (suc k) t is))

pub live_before : (mask : List SlotRange) (prefix : List ℕ) (es : List TermEntry) (n : ℕ) → ((k : ℕ) (t : List ℕ) → slice_get (names es) k ≡ Some t → k < n → begins_with prefix t ≡ false) → live_in mask prefix (take n es) ≡ []
live_before mask prefix es zero none = refl
live_before mask prefix [] (suc n) none = refl
live_before mask prefix (e ∷ es) (suc n) none =
    let here : is_live_entry mask prefix e ≡ false = and_left (begins_with prefix e.term) (list_any (is_alive mask) e.addresses) (none 0 e.term refl (omega arith)) in
    rw here (live_before mask prefix es n (λ k t is lt. none (suc k) t is (omega arith)))

-- behind the row there are none
pub live_upto : (mask : List SlotRange) (prefix : List ℕ) (es : List TermEntry) (n : ℕ) → ((k : ℕ) (t : List ℕ) → slice_get (names es) k ≡ Some t → n ≤ k → begins_with prefix t ≡ false) → live_in mask prefix (take n es) ≡ live_in mask prefix es
live_upto mask prefix es zero none = sym (live_none mask prefix es (λ k t is. none k t is (omega arith)))
live_upto mask prefix [] (suc n) none = refl
live_upto mask prefix (e ∷ es) (suc n) none =
    let rest = live_upto mask prefix es n (λ k t is le. none (suc k) t is (omega arith)) in
    elim (cases_Bool (is_live_entry mask prefix e)) [ inl h ↦ rw h (ap (λ l. e.term ∷ l) rest) | inr h ↦ rw h rest ]

-- one entry more
pub live_more : (mask : List SlotRange) (prefix : List ℕ) (es : List TermEntry) (n : ℕ) (t : List ℕ) (live : Bool) → slice_get (names es) n ≡ Some t → begins_with prefix t ≡ true → live ≡ list_any (is_alive mask) (addresses_at es n) →
    live_in mask prefix (take (n + 1) es) ≡ live_in mask prefix (take n es) ++ cond live (t ∷ []) []
live_more mask prefix [] n t live at begins is = absurd cc
live_more mask prefix (e ∷ es) zero t live at begins is =
    let same : e.term ≡ t = cc in
    let here : is_live_entry mask prefix e ≡ live = ap (λ b. b && list_any (is_alive mask) e.addresses) (ap (begins_with prefix) same ∙ begins) ∙ sym is in
    ap (λ b. names (cond b (e ∷ []) [])) here ∙ alone live same
  where
    alone : (b : Bool) → e.term ≡ t → names (cond b (e ∷ []) []) ≡ cond b (t ∷ []) []
    alone true same = ap (λ x. x ∷ []) same
    alone false same = refl
live_more mask prefix (e ∷ es) (suc n) t live at begins is =
    let rest = live_more mask prefix es n t live at begins is in
    elim (cases_Bool (is_live_entry mask prefix e)) [ inl h ↦ rw (add_suc_one n, h) (ap (λ l. e.term ∷ l) rest) | inr h ↦ rw (add_suc_one n, h) rest ]
  where
    add_suc_one : (m : ℕ) → suc m + 1 ≡ suc (m + 1)
    add_suc_one m = omega arith

-- the entry at a place has the postings of its term
pub postings_at : (range : SlotRange) (es : List TermEntry) (n : ℕ) (t : List ℕ) → IsTable range es → slice_get (names es) n ≡ Some t → postings_of es t ≡ addresses_at es n
postings_at range [] n t table at = absurd cc
postings_at range (e ∷ es) zero t table at =
    let same : e.term ≡ t = cc in ap (λ b. cond b e.addresses (postings_of es t)) ((bytes_eq-Decides e.term t).1 same)
postings_at range (e ∷ es) (suc n) t table at =
    let before : ComesBefore e.term t = of_each (ComesBefore e.term) (names es) t (named es table.1) (member (names es) n at) in
    let other : bytes_eq e.term t ≡ false = false_from_ne_true (bytes_eq e.term t) (λ same. never_before_itself e.term (subst (ComesBefore e.term) (sym ((bytes_eq-Decides e.term t).0 same)) before)) in
    ap (λ b. cond b e.addresses (postings_of es t)) other ∙ postings_at range es n t table.2 at
  where
    named : (ds : List TermEntry) → AllByRecursion (Precedes e) ds → AllByRecursion (ComesBefore e.term) (names ds)
    named [] all = tt
    named (d ∷ ds) all = (all.0.terms, named ds all.1)

    member : (tokens : List (List ℕ)) (k : ℕ) → slice_get tokens k ≡ Some t → Has tokens t
    member [] k is = absurd cc
    member (x ∷ xs) zero is = let same : x ≡ t = cc in inl same
    member (x ∷ xs) (suc k) is = inr (member xs k is)

-- a search starting at 0 finds one exactly if there is one
pub found_alive : (mask : List SlotRange) (ps : List ℕ) → is_some (find (λ p. leb 0 p) (filter (is_alive mask) ps)) ≡ list_any (is_alive mask) ps
found_alive mask [] = refl
found_alive mask (p ∷ ps) = elim (cases_Bool (is_alive mask p)) [
  | inl a ↦ let le : leb 0 p ≡ true = le-leb 0 p (omega arith) in rw (a, le) refl
  | inr a ↦ rw a (found_alive mask ps)
]

-- a look-up among the living postings of a slot's index, by the index and the dead ranges that its calls give
pub in_slot : (slot : SlotContent) (shard : ShardContent) (mask : List SlotRange) (term : List ℕ) (o : Option ℕ) → shard ≡ slot.shard → mask ≡ slot.mask →
    o ≡ nearest Forward (filter (is_alive mask) (postings_of shard.table term)) 0 → o ≡ nearest Forward (filter (is_alive slot.mask) (postings_of slot.shard.table term)) 0
in_slot slot shard mask term o at_shard at_mask is =
    is ∙ ap (λ m. nearest Forward (filter (is_alive m) (postings_of shard.table term)) 0) at_mask ∙ ap (λ (s : ShardContent). nearest Forward (filter (is_alive slot.mask) (postings_of s.table term)) 0) at_shard

-- if nothing is dead each term has a live posting
pub whole_live : (range : SlotRange) (mask : List SlotRange) (es : List TermEntry) (n : ℕ) → IsTable range es → n < length es → mask ≡ [] → list_any (is_alive mask) (addresses_at es n) ≡ true
whole_live range mask [] n table lt none = absurd (omega arith)
whole_live range mask (e ∷ es) zero table lt none = here e.addresses table.0.some
  where
    here : (ps : List ℕ) → 0 < length ps → list_any (is_alive mask) ps ≡ true
    here [] some = absurd (omega arith)
    here (p ∷ ps) some = ap (λ m. is_alive m p || list_any (is_alive mask) ps) none
whole_live range mask (e ∷ es) (suc n) table lt none = whole_live range mask es n table.2 (omega arith) none

-- the token at a place
pub token_at : (tokens : List (List ℕ)) (n : ℕ) → n < length tokens → (t : List ℕ) × (slice_get tokens n ≡ Some t)
token_at [] n lt = absurd (omega arith)
token_at (t ∷ ts) zero lt = (t, refl)
token_at (t ∷ ts) (suc n) lt = token_at ts n (omega arith)

-- one token more that begins with the prefix
pub count_more : (prefix : List ℕ) (tokens : List (List ℕ)) (n : ℕ) (t : List ℕ) → slice_get tokens n ≡ Some t → begins_with prefix t ≡ true →
    length (filter (begins_with prefix) (take (n + 1) tokens)) ≡ length (filter (begins_with prefix) (take n tokens)) + 1
count_more prefix [] n t at begins = absurd cc
count_more prefix (x ∷ xs) zero t at begins = let same : x ≡ t = cc in let here : begins_with prefix x ≡ true = ap (begins_with prefix) same ∙ begins in rw here (omega arith)
count_more prefix (x ∷ xs) (suc n) t at begins =
    let more : suc n + 1 ≡ suc (n + 1) = omega arith in
    let rest = count_more prefix xs n t at begins in
    elim (cases_Bool (begins_with prefix x)) [ inl h ↦ rw (more, h) (omega (arith, rest)) | inr h ↦ rw (more, h) rest ]

count_upto : (prefix : List ℕ) (tokens : List (List ℕ)) (n : ℕ) → length (filter (begins_with prefix) (take n tokens)) ≤ length (filter (begins_with prefix) tokens)
count_upto prefix tokens zero = omega arith
count_upto prefix [] (suc n) = omega arith
count_upto prefix (x ∷ xs) (suc n) = let rest = count_upto prefix xs n in elim (cases_Bool (begins_with prefix x)) [ inl h ↦ rw h (omega (arith, rest)) | inr h ↦ rw h rest ]

-- what the given number of them cost
pub cost_more : (prefix : List ℕ) (tokens : List (List ℕ)) (n : ℕ) (t : List ℕ) (each : ℕ) → slice_get tokens n ≡ Some t → begins_with prefix t ≡ true →
    length (filter (begins_with prefix) (take (n + 1) tokens)) * each ≡ length (filter (begins_with prefix) (take n tokens)) * each + each
cost_more prefix tokens n t each at begins = ap (λ m. m * each) (count_more prefix tokens n t at begins) ∙ omega arith

pub cost_upto : (prefix : List ℕ) (tokens : List (List ℕ)) (n : ℕ) (each : ℕ) → length (filter (begins_with prefix) (take n tokens)) * each ≤ length (filter (begins_with prefix) tokens) * each
cost_upto prefix tokens n each =
    times_more (length (filter (begins_with prefix) (take n tokens))) (length (filter (begins_with prefix) tokens)) each (count_upto prefix tokens n)
  where
    times_more : (m k f : ℕ) → m ≤ k → m * f ≤ k * f
    times_more m k f le = grind (arith, mul-le-mul_left)

pub no_ranges : (mask : List SlotRange) → length mask ≡ 0 → mask ≡ []
no_ranges [] none = refl
no_ranges (range ∷ ranges) none = absurd (omega arith)
