-- Records and words fix every file.
use Rattle.std.proofs.Common.{◌≡◌, ℕ, ◌+◌, List, [], ◌∷◌, ◌++◌, map, length, refl, sym, ap, ◌∙◌, arith, length-append}
use Rattle.std.proofs.lemmas.List.{append_cancel_right}
use Rattle.std.specs.List.{flat_map}
use Rattle.gcl_model.specs.Texts.{Word}
use Rattle.gcl_model.specs.Collections.{Collection, File, file_end, with_boundaries, words_from, words_of, width_of}
use Rattle.live_version.specs.Laws.{StandsForOne}
use Rattle.live_version.specs.StandsFor.{entry_of}

-- tokens that are as many, and what comes after them
record AreSplit (ts us : List (List ℕ)) (l r : List Word) : Type 0 where
  tokens : ts ≡ us
  rest : l ≡ r

split_words : (p : ℕ) (ts us : List (List ℕ)) (l r : List Word) → length ts ≡ length us → words_from p ts ++ l ≡ words_from p us ++ r → AreSplit ts us l r
split_words p [] [] l r n e = record { tokens = refl; rest = e }
split_words p [] (u ∷ us) l r n e = absurd (omega arith)
split_words p (t ∷ ts) [] l r n e = absurd (omega arith)
split_words p (t ∷ ts) (u ∷ us) l r n e =
    let word : List ℕ → Word = λ token. record { address = p; token = token } in
    let first : word t ≡ word u = cc in
    let token : t ≡ u = ap (λ w. w.token) first in
    let later = split_words (p + 1) ts us l r (omega arith) cc in
    record { tokens = ap (λ x. x ∷ ts) token ∙ ap (λ xs. u ∷ xs) later.tokens; rest = later.rest }

same_file : (a b : File) → entry_of a ≡ entry_of b → a.tokens ≡ b.tokens → a ≡ b
same_file a b e tokens =
    ap (λ n. record { id = n; name = a.name; base = a.base; tokens = a.tokens }) (ap (λ f. f.id) e)
    ∙ ap (λ n. record { id = b.id; name = n; base = a.base; tokens = a.tokens }) (ap (λ f. f.name) e)
    ∙ ap (λ n. record { id = b.id; name = b.name; base = n; tokens = a.tokens }) (ap (λ f. f.base) e)
    ∙ ap (λ ts. record { id = b.id; name = b.name; base = b.base; tokens = ts }) tokens

same_files : (xs ys : List File) → map entry_of xs ≡ map entry_of ys
    → flat_map (λ (f : File). words_from f.base (with_boundaries f.tokens)) xs ≡ flat_map (λ (f : File). words_from f.base (with_boundaries f.tokens)) ys → xs ≡ ys
same_files [] [] e w = refl
same_files [] (y ∷ ys) e w = absurd cc
same_files (x ∷ xs) [] e w = absurd cc
same_files (x ∷ xs) (y ∷ ys) e w =
    let first : entry_of x ≡ entry_of y = cc in
    let rest : map entry_of xs ≡ map entry_of ys = cc in
    let width : width_of x.tokens ≡ width_of y.tokens = ap (λ f. f.len) first in
    let base : x.base ≡ y.base = ap (λ f. f.base) first in
    let words = ap (λ p. words_from p (with_boundaries y.tokens) ++ flat_map (λ (f : File). words_from f.base (with_boundaries f.tokens)) ys) (sym base) in
    let split = split_words x.base (with_boundaries x.tokens) (with_boundaries y.tokens) (flat_map (λ (f : File). words_from f.base (with_boundaries f.tokens)) xs) (flat_map (λ (f : File). words_from f.base (with_boundaries f.tokens)) ys)
    (omega (arith, length-append x.tokens (file_end ∷ []), length-append y.tokens (file_end ∷ []))) (w ∙ words) in
    let inner : x.tokens ++ file_end ∷ [] ≡ y.tokens ++ file_end ∷ [] = tail (with_boundaries x.tokens) (with_boundaries y.tokens) split.tokens in
    let same : x ≡ y = same_file x y first (append_cancel_right x.tokens y.tokens (file_end ∷ []) inner) in
    ap (λ f. f ∷ xs) same ∙ ap (λ fs. y ∷ fs) (same_files xs ys rest split.rest)
  where
    rest_of : List (List ℕ) → List (List ℕ)
    rest_of [] = []
    rest_of (t ∷ ts) = ts

    tail : (ts us : List (List ℕ)) → ts ≡ us → rest_of ts ≡ rest_of us
    tail ts us same = ap rest_of same

-- numbers, records and words fix a collection
pub same_collection : (c d : Collection) → c.first ≡ d.first → c.next ≡ d.next → c.next_id ≡ d.next_id → c.dels ≡ d.dels → map entry_of c.files ≡ map entry_of d.files → words_of c ≡ words_of d → c ≡ d
same_collection c d first next next_id dels entries words =
    ap (λ n. record { first = n; next = c.next; next_id = c.next_id; dels = c.dels; files = c.files }) first
    ∙ ap (λ n. record { first = d.first; next = n; next_id = c.next_id; dels = c.dels; files = c.files }) next
    ∙ ap (λ n. record { first = d.first; next = d.next; next_id = n; dels = c.dels; files = c.files }) next_id
    ∙ ap (λ n. record { first = d.first; next = d.next; next_id = d.next_id; dels = n; files = c.files }) dels
    ∙ ap (λ l. record { first = d.first; next = d.next; next_id = d.next_id; dels = d.dels; files = l }) (same_files c.files d.files entries words)

pub stands_for_one : StandsForOne
stands_for_one v c d s t =
    same_collection c d (sym s.first ∙ t.first) (sym s.next ∙ t.next) (sym s.next_id ∙ t.next_id) (sym s.dels ∙ t.dels) (sym s.files ∙ t.files) (sym s.words ∙ t.words)
