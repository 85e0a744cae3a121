-- How many members one of several terms has: the sum of what each different one has.
use Rattle.std.proofs.Common.{◌≡◌, ℕ, ◌+◌, ◌-◌, ◌<◌, ◌≤◌, Bool, true, false, not, cond, ◌&&◌, ◌||◌, eqb, List, [], ◌∷◌, ◌++◌, length, map, filter, take, get_or, bytes_eq, refl, sym, ap, ◌∙◌, arith, inl, inr}
use Rattle.std.specs.List.{AllByRecursion, list_any, range_with_len}
use Rattle.std.proofs.lemmas.Bool.{true≢false, cases_Bool, cases_lt, eq-eqb, ne_eqb, eqb-true, or_cases, and_from}
use Rattle.std.proofs.lemmas.List.{length-map, map-append, take_more}
use Rattle.std.proofs.lemmas.List.Sums.{length-filter, count_by-le-length}
use Rattle.std.proofs.lemmas.List.FromFn.{length-range_with_len}
use Rattle.std.proofs.lemmas.List.Elements.{filter_agree}
use Rattle.std.proofs.lemmas.Slice.Eq.{bytes_eq-Decides}
use Rattle.gcl_model.specs.declared.expr.Expr.{Expr, Term}
use Rattle.gcl_model.specs.declared.expr.Expr.TheOpen as F
use Rattle.gcl_model.specs.declared.expr.Expr.TheVariants.{rolls-Term}
use Rattle.gcl_model.specs.declared.expr.Expr.TheFolds.{fold-roll-Expr}
use Rattle.gcl_model.specs.Limits.{address_end}
use Rattle.gcl_model.specs.Extents.{Extent, extent, is_nested, same_extent, contains_extent, is_least, all_extents}
use Rattle.gcl_model.specs.Forms.{Form, term, one}
use Rattle.gcl_model.specs.FormOf.{form_of, form_step, forms_from}
use Rattle.gcl_model.specs.Meaning.{concordance, operands, extents_where, is_minimal, any_contains}
use Rattle.gcl_model.specs.Texts.{Text, Word, IsText, holds, places}
use Rattle.gcl_model.proofs.Lists.{all_filter}
use Rattle.gcl_model.proofs.Covers.{nested_tells}
use Rattle.gcl_model.proofs.Minimal.{each_extent, IsProper}
use Rattle.gcl_model.proofs.Places.{point}
use Rattle.index_shard.specs.Tables.{has_address}
use Rattle.index_shard.proofs.ShardWords.{rising_apart}
use Rattle.reader_pass.specs.Members.{is_the_term}
use Rattle.live_version.proofs.MemberLemmas.{points_pass, marked, term_members}

abbrev pub IsPoint : Extent → Type 0
IsPoint c = c.start ≡ c.end

-- no other single address is nested in one
least_point : (list : List Extent) (p : ℕ) → AllByRecursion IsPoint list → is_least list (point p) ≡ true
least_point [] p all = refl
least_point (d ∷ list) p all = and_from _ _ (here (is_nested d (point p)) refl) (least_point list p all.1)
  where
    here : (b : Bool) → is_nested d (point p) ≡ b → (not b || same_extent d (point p)) ≡ true
    here false is = refl
    here true is =
        let inside = nested_tells d (point p) is in
        let from = inside.0 in
        let upto = inside.1 in
        let one = all.0 in
        and_from _ _ (eq-eqb d.start p (omega (arith, from, upto, one))) (eq-eqb d.end p (omega (arith, from, upto, one)))

-- if single addresses alone pass a test, the least that pass are all that do
module _ (text : Text) (test : Extent → Bool) (fails : (p q : ℕ) → p < q → test (extent p q) ≡ false) where
  points : AllByRecursion IsPoint (extents_where text test)
  points =
      all_filter IsProper IsPoint test (all_extents text.first text.next)
      (λ c proper passes. elim (cases_lt c.start c.end) [
        | inl longer ↦ absurd (true≢false (sym passes ∙ fails c.start c.end longer))
        | inr not_longer ↦ omega (arith, proper, not_longer)
      ])
      (each_extent IsProper text.first text.next (λ p q from le upto. le))

  longer_not_minimal : (p q : ℕ) → p < q → is_minimal text test (extent p q) ≡ false
  longer_not_minimal p q lt = let none = fails p q lt in rw none refl

  point_is_minimal : (p : ℕ) → is_minimal text test (point p) ≡ test (point p)
  point_is_minimal p = here (test (point p)) (least_point (extents_where text test) p points)
    where
      here : (b : Bool) → is_least (extents_where text test) (point p) ≡ true → (b && is_least (extents_where text test) (point p)) ≡ b
      here true least = least
      here false least = refl

  pub minimal_points : text.first ≤ text.next → extents_where text (is_minimal text test) ≡ map point (filter (λ p. test (point p)) (range_with_len text.first (text.next - text.first)))
  minimal_points ordered =
      points_pass (is_minimal text test) (λ p. test (point p)) text.next longer_not_minimal point_is_minimal (text.next - text.first) text.first (omega (arith, ordered))

-- whether one of the tokens is at the address
abbrev pub any_stands : List Word → List (List ℕ) → ℕ → Bool
any_stands words tokens p = list_any (λ token. has_address (places words token) p) tokens

abbrev pub point_lists : List Word → List (List ℕ) → List (List Extent)
point_lists words tokens = map (λ token. map point (places words token)) tokens

no_point : (ps : List ℕ) (p q : ℕ) → p < q → contains_extent (map point ps) (extent p q) ≡ false
no_point [] p q lt = refl
no_point (x ∷ ps) p q lt = here (eqb x p) refl (no_point ps p q lt)
  where
    here : (b : Bool) → eqb x p ≡ b → contains_extent (map point ps) (extent p q) ≡ false → ((b && eqb x q) || contains_extent (map point ps) (extent p q)) ≡ false
    here false is rest = rest
    here true is rest = let same = eqb-true x p is in let other : eqb x q ≡ false = ne_eqb x q (λ e. absurd (omega (arith, e, same, lt))) in rw other rest

at_point : (ps : List ℕ) (p : ℕ) → contains_extent (map point ps) (point p) ≡ has_address ps p
at_point [] p = refl
at_point (x ∷ ps) p = here (eqb x p) (at_point ps p)
  where
    here : (b : Bool) → contains_extent (map point ps) (point p) ≡ has_address ps p → ((b && b) || contains_extent (map point ps) (point p)) ≡ (b || has_address ps p)
    here true rest = refl
    here false rest = rest

none_longer : (words : List Word) (tokens : List (List ℕ)) (p q : ℕ) → p < q → any_contains (point_lists words tokens) (extent p q) ≡ false
none_longer words [] p q lt = refl
none_longer words (token ∷ tokens) p q lt = let none = no_point (places words token) p q lt in rw none (none_longer words tokens p q lt)

any_at : (words : List Word) (tokens : List (List ℕ)) (p : ℕ) → any_contains (point_lists words tokens) (point p) ≡ any_stands words tokens p
any_at words [] p = refl
any_at words (token ∷ tokens) p =
    ap (λ b. b || any_contains (point_lists words tokens) (point p)) (at_point (places words token) p)
    ∙ ap (λ b. has_address (places words token) p || b) (any_at words tokens p)

-- the lists of terms are those of their places
lists_of_terms : (text : Text) (tokens : List (List ℕ)) → IsText text → operands text (forms_from (map term tokens)) ≡ point_lists text.words tokens
lists_of_terms text [] sound = refl
lists_of_terms text (token ∷ tokens) sound =
    ap (λ list. list ∷ operands text (forms_from (map term tokens))) (term_members text token sound)
    ∙ ap (λ lists. map point (places text.words token) ∷ lists) (lists_of_terms text tokens sound)

-- the addresses of the text at which one of the tokens is
abbrev pub stands_in : Text → List (List ℕ) → List ℕ
stands_in text tokens = filter (any_stands text.words tokens) (range_with_len text.first (text.next - text.first))

-- one of several terms has a member for each of them
pub one_count : (text : Text) (tokens : List (List ℕ)) → IsText text → length (concordance text (one (forms_from (map term tokens)))) ≡ length (stands_in text tokens)
one_count text tokens sound =
    let lists = point_lists text.words tokens in
    let addresses = range_with_len text.first (text.next - text.first) in
    ap (λ ls. length (extents_where text (is_minimal text (any_contains ls)))) (lists_of_terms text tokens sound)
    ∙ ap length (minimal_points text (any_contains lists) (none_longer text.words tokens) sound.ordered)
    ∙ length-map (filter (λ p. any_contains lists (point p)) addresses) point
    ∙ ap length (filter_agree (λ p. any_contains lists (point p)) (any_stands text.words tokens) (any_at text.words tokens) addresses)

-- an address holds a token if it is one of its places
holds_place : (words : List Word) (token : List ℕ) (p : ℕ) → holds words token p ≡ has_address (places words token) p
holds_place [] token p = refl
holds_place (w ∷ ws) token p = here (bytes_eq w.token token) (holds_place ws token p)
  where
    named_at : (at : Bool) (a b : Bool) → a ≡ b → ((at && true) || a) ≡ (at || b)
    named_at true a b is = refl
    named_at false a b is = is

    not_named : (at : Bool) (a b : Bool) → a ≡ b → ((at && false) || a) ≡ b
    not_named true a b is = is
    not_named false a b is = is

    here : (named : Bool) → holds ws token p ≡ has_address (places ws token) p →
        ((eqb w.address p && named) || holds ws token p)
        ≡ has_address (map (λ (x : Word). x.address) (cond named (w ∷ filter (λ (x : Word). bytes_eq x.token token) ws) (filter (λ (x : Word). bytes_eq x.token token) ws))) p
    here true rest = named_at (eqb w.address p) (holds ws token p) (has_address (places ws token) p) rest
    here false rest = not_named (eqb w.address p) (holds ws token p) (has_address (places ws token) p) rest

-- the addresses of one token are its places
alone : (text : Text) (token : List ℕ) → IsText text → filter (λ p. has_address (places text.words token) p) (range_with_len text.first (text.next - text.first)) ≡ places text.words token
alone text token sound =
    let ordered = sound.ordered in
    marked (λ p. has_address (places text.words token) p) text.words token (text.next - text.first) text.first text.next (omega (arith, ordered)) sound.rising (λ q le. sym (holds_place text.words token q))

either : (s t both : ℕ → Bool) → ((x : ℕ) → both x ≡ (s x || t x)) → ((x : ℕ) → t x ≡ true → s x ≡ false) → (xs : List ℕ) → length (filter both xs) ≡ length (filter s xs) + length (filter t xs)
either s t both joined apart [] = refl
either s t both joined apart (x ∷ xs) = here (s x) (t x) (both x) (joined x) (apart x) (filter both xs) (filter s xs) (filter t xs) (either s t both joined apart xs)
  where
    here : (a b c : Bool) → c ≡ (a || b) → (b ≡ true → a ≡ false) → (all first second : List ℕ) → length all ≡ length first + length second →
        length (cond c (x ∷ all) all) ≡ length (cond a (x ∷ first) first) + length (cond b (x ∷ second) second)
    here true true c is apart all first second rest = absurd (true≢false (apart refl))
    here true false true is apart all first second rest = omega (arith, rest)
    here true false false is apart all first second rest = absurd (true≢false (sym is))
    here false true true is apart all first second rest = omega (arith, rest)
    here false true false is apart all first second rest = absurd (true≢false (sym is))
    here false false true is apart all first second rest = absurd (true≢false is)
    here false false false is apart all first second rest = rest

-- a token that is none of them is nowhere where they are
stands_apart : (text : Text) (tokens : List (List ℕ)) (token : List ℕ) → IsText text → list_any (λ other. bytes_eq other token) tokens ≡ false →
    (p : ℕ) → has_address (places text.words token) p ≡ true → any_stands text.words tokens p ≡ false
stands_apart text [] token sound new p has = refl
stands_apart text (other ∷ tokens) token sound new p has =
    elim (cases_Bool (bytes_eq other token)) [
      | inl e ↦ absurd (true≢false (rw e at new))
      | inr e ↦
          let differs : token ≡ other → ⊥ = λ same. true≢false (sym ((bytes_eq-Decides other token).1 (sym same)) ∙ e) in
          let none : has_address (places text.words other) p ≡ false = rising_apart text.next text.first text.words token other sound.rising differs p has in
          rw none (stands_apart text tokens token sound (rw e at new) p has)
    ]

-- and one of them is nowhere else
stands_again : (text : Text) (tokens : List (List ℕ)) (token : List ℕ) → list_any (λ other. bytes_eq other token) tokens ≡ true →
    (p : ℕ) → (any_stands text.words tokens p || has_address (places text.words token) p) ≡ any_stands text.words tokens p
stands_again text [] token old p = absurd (true≢false (sym old))
stands_again text (other ∷ tokens) token old p =
    elim (or_cases (bytes_eq other token) (list_any (λ o. bytes_eq o token) tokens) old) [
      | inl e ↦
          let same : other ≡ token = (bytes_eq-Decides other token).0 e in
          ap (λ t. (any_stands text.words (other ∷ tokens) p || has_address (places text.words t) p)) (sym same) ∙ first (has_address (places text.words other) p) (any_stands text.words tokens p)
      | inr e ↦ later (has_address (places text.words other) p) (any_stands text.words tokens p) (has_address (places text.words token) p) (stands_again text tokens token e p)
    ]
  where
    first : (a b : Bool) → ((a || b) || a) ≡ (a || b)
    first true b = refl
    first false true = refl
    first false false = refl

    later : (a b c : Bool) → (b || c) ≡ b → ((a || b) || c) ≡ (a || b)
    later true b c is = refl
    later false b c is = is

one_more : (words : List Word) (tokens : List (List ℕ)) (token : List ℕ) (p : ℕ) → any_stands words (tokens ++ token ∷ []) p ≡ (any_stands words tokens p || has_address (places words token) p)
one_more words [] token p = or_nothing (has_address (places words token) p)
  where
    or_nothing : (b : Bool) → (b || false) ≡ b
    or_nothing true = refl
    or_nothing false = refl
one_more words (other ∷ tokens) token p = here (has_address (places words other) p) (one_more words tokens token p)
  where
    here : (b : Bool) → any_stands words (tokens ++ token ∷ []) p ≡ (any_stands words tokens p || has_address (places words token) p) →
        (b || any_stands words (tokens ++ token ∷ []) p) ≡ ((b || any_stands words tokens p) || has_address (places words token) p)
    here true rest = refl
    here false rest = rest

-- one token more, which is new
pub count_new : (text : Text) (tokens : List (List ℕ)) (token : List ℕ) → IsText text → list_any (λ other. bytes_eq other token) tokens ≡ false →
    length (stands_in text (tokens ++ token ∷ [])) ≡ length (stands_in text tokens) + length (places text.words token)
count_new text tokens token sound new =
    either (any_stands text.words tokens) (λ p. has_address (places text.words token) p) (any_stands text.words (tokens ++ token ∷ [])) (one_more text.words tokens token) (stands_apart text tokens token sound new)
    (range_with_len text.first (text.next - text.first))
    ∙ ap (λ ps. length (stands_in text tokens) + length ps) (alone text token sound)

-- or came before
pub count_again : (text : Text) (tokens : List (List ℕ)) (token : List ℕ) → list_any (λ other. bytes_eq other token) tokens ≡ true → length (stands_in text (tokens ++ token ∷ [])) ≡ length (stands_in text tokens)
count_again text tokens token old =
    ap length (filter_agree (any_stands text.words (tokens ++ token ∷ [])) (any_stands text.words tokens)
    (λ p. one_more text.words tokens token p ∙ stands_again text tokens token old p) (range_with_len text.first (text.next - text.first)))

nowhere : (words : List Word) (xs : List ℕ) → filter (any_stands words []) xs ≡ []
nowhere words [] = refl
nowhere words (x ∷ xs) = nowhere words xs

pub none_count : (text : Text) → length (stands_in text []) ≡ 0
none_count text = ap length (nowhere text.words (range_with_len text.first (text.next - text.first)))

-- there are no more such addresses than addresses
pub few_stand : (text : Text) (tokens : List (List ℕ)) → IsText text → length (stands_in text tokens) ≤ address_end
few_stand text tokens sound =
    let addresses = range_with_len text.first (text.next - text.first) in
    let counted = length-filter (any_stands text.words tokens) addresses in
    let most = count_by-le-length (any_stands text.words tokens) addresses in
    let all : length addresses ≡ text.next - text.first = length-range_with_len text.first (text.next - text.first) in
    let within = sound.in_range in
    omega (arith, counted, most, all, within)

-- a term is among terms if its token is among theirs
pub among_terms : (tokens : List (List ℕ)) (token : List ℕ) → list_any (is_the_term token) (map term tokens) ≡ list_any (λ other. bytes_eq other token) tokens
among_terms [] token = refl
among_terms (other ∷ tokens) token = ap (λ b. bytes_eq other token || b) (among_terms tokens token)

pub form_of-Term : (token : List ℕ) → form_of (Term token) ≡ term token
form_of-Term token = ap form_of (sym (rolls-Term token)) ∙ fold-roll-Expr Form form_step (F.Term token)

-- the first operands and one more are terms
pub terms_more : (exprs : List Expr) (i : ℕ) (expr : Expr) (token : List ℕ) (tokens : List (List ℕ)) → i < length exprs → expr ≡ get_or exprs i expr → expr ≡ Term token → map form_of (take i exprs) ≡ map term tokens →
    map form_of (take (i + 1) exprs) ≡ map term (tokens ++ token ∷ [])
terms_more exprs i expr token tokens lt at is terms =
    let more : take (i + 1) exprs ≡ take i exprs ++ Term token ∷ [] = take_more exprs i expr lt ∙ ap (λ x. take i exprs ++ x ∷ []) (sym at ∙ is) in
    ap (map form_of) more ∙ map-append form_of (take i exprs) (Term token ∷ []) ∙ ap (λ forms. map form_of (take i exprs) ++ forms ∷ []) (form_of-Term token) ∙ ap (λ forms. forms ++ term token ∷ []) terms ∙ sym (map-append term tokens (token ∷ []))
