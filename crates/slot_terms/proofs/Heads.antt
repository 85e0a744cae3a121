-- The first entry of what is still to come.
use Rattle.std.proofs.Common.{get_or, take, ◌≡◌, ◌≤◌, ℕ, zero, suc, ◌+◌, ◌<◌, true, false, List, [], ◌∷◌, ◌++◌, length, map, set, drop, bytes_eq, slice_get, Some, refl, sym, ap, ◌∙◌, arith}
use Rattle.std.proofs.lemmas.List.{append_assoc}
use Rattle.std.proofs.lemmas.List.{take_more, drop_more, length-map, length-take-le, get_or_at, set_at, map-append}
use Rattle.gcl_model.specs.Slots.{SlotRange}
use Rattle.index_shard.specs.Tables.{TermEntry, addresses_at}
use Rattle.slot_terms.specs.Parts.{PartContent, head_term, is_headed, head_postings, behind, past}

pub head_at : (es : List TermEntry) (n : ℕ) (term : List ℕ) → slice_get (map (λ e. e.term) es) n ≡ Some term → Some term ≡ head_term (drop n es)
head_at [] n term is = absurd cc
head_at (e ∷ es) zero term is = sym is
head_at (e ∷ es) (suc n) term is = head_at es n term is

-- the first entry is that at the place
pub headed_at : (es : List TermEntry) (n : ℕ) (term other : List ℕ) → slice_get (map (λ e. e.term) es) n ≡ Some term → is_headed (drop n es) other ≡ bytes_eq term other
headed_at [] n term other is = absurd cc
headed_at (e ∷ es) zero term other is = let same : e.term ≡ term = cc in ap (λ t. bytes_eq t other) same
headed_at (e ∷ es) (suc n) term other is = headed_at es n term other is

pub unheaded_past : (es : List TermEntry) (n : ℕ) (term : List ℕ) → length es ≤ n → is_headed (drop n es) term ≡ false
unheaded_past [] zero term le = refl
unheaded_past [] (suc n) term le = refl
unheaded_past (e ∷ es) zero term le = absurd (omega arith)
unheaded_past (e ∷ es) (suc n) term le = unheaded_past es n term (omega arith)

pub headed_postings : (es : List TermEntry) (n : ℕ) (term : List ℕ) → is_headed (drop n es) term ≡ true → head_postings (drop n es) term ≡ addresses_at es n
headed_postings [] zero term is = absurd cc
headed_postings [] (suc n) term is = absurd cc
headed_postings (e ∷ es) zero term is = rw is refl
headed_postings (e ∷ es) (suc n) term is = headed_postings es n term is

pub unheaded_postings : (left : List TermEntry) (term : List ℕ) → is_headed left term ≡ false → head_postings left term ≡ []
unheaded_postings [] term is = refl
unheaded_postings (e ∷ es) term is = rw is refl

pub unheaded_behind : (left : List TermEntry) (term : List ℕ) → is_headed left term ≡ false → behind left term ≡ left
unheaded_behind [] term is = refl
unheaded_behind (e ∷ es) term is = rw is refl

abbrev pub part_content : List SlotRange → List TermEntry → PartContent
part_content mask left = record { mask = mask; left = left }

-- one part more is past the term
pub past_more : (parts now : List PartContent) (i : ℕ) (term : List ℕ) (item after : PartContent) → i < length parts → now ≡ map (past term) (take i parts) ++ drop i parts →
    item ≡ get_or now i item → after ≡ past term item → (item ≡ get_or parts i item) × (set now i after ≡ map (past term) (take (i + 1) parts) ++ drop (i + 1) parts)
past_more parts now i term item after lt was at is =
    let front = map (past term) (take i parts) in
    let long : length front ≡ i = length-map (take i parts) (past term) ∙ length-take-le i parts (omega arith) in
    let rest : drop i parts ≡ get_or parts i item ∷ drop (i + 1) parts = drop_more parts i item lt in
    let split : now ≡ front ++ get_or parts i item ∷ drop (i + 1) parts = was ∙ ap (λ l. front ++ l) rest in
    let here : item ≡ get_or parts i item = at ∙ ap (λ l. get_or l i item) split ∙ get_or_at front (get_or parts i item) (drop (i + 1) parts) item i long in
    let end : map (past term) (take (i + 1) parts) ≡ front ++ past term item ∷ [] =
    ap (map (past term)) (take_more parts i item lt) ∙ map-append (past term) (take i parts) (get_or parts i item ∷ []) ∙ ap (λ p. front ++ past term p ∷ []) (sym here) in (
      here,
      ap (λ l. set l i after) split
          ∙ set_at front (get_or parts i item) (drop (i + 1) parts) after i long
          ∙ ap (λ p. front ++ p ∷ drop (i + 1) parts) is
          ∙ sym (append_assoc front (past term item ∷ []) (drop (i + 1) parts))
          ∙ ap (λ l. l ++ drop (i + 1) parts) (sym end),
    )
