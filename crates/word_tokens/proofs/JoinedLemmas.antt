-- Tokens one after the other.
use Rattle.std.proofs.Common.{◌≡◌, ℕ, zero, suc, ◌+◌, ◌-◌, ◌<◌, ◌≤◌, List, [], ◌∷◌, ◌++◌, length, take, drop, get_or, refl, sym, ap, ◌∙◌, arith, length-append, add-one, true, eqb}
use Rattle.std.specs.List.{concat}
use Rattle.std.proofs.lemmas.List.{append-nil, take_at, drop_at}
use Rattle.std.proofs.lemmas.Bool.{eqb-true}
use Rattle.gcl_model.specs.Tokens.{tokens_of}
use Rattle.word_tokens.specs.Joined.{ends_from, cut_from, AreJoined}

pub length-cut_from : (from : ℕ) (ends bytes : List ℕ) → length (cut_from from ends bytes) ≡ length ends
length-cut_from from [] bytes = refl
length-cut_from from (end ∷ ends) bytes = ap suc (length-cut_from end ends (drop (end - from) bytes))

-- joined tokens are cut into themselves
pub cut_from-joined : (from : ℕ) (tokens : List (List ℕ)) → cut_from from (ends_from from tokens) (concat tokens) ≡ tokens
cut_from-joined from [] = refl
cut_from-joined from (token ∷ tokens) =
    let n : from + length token - from ≡ length token = omega arith in
    let first : take (from + length token - from) (token ++ concat tokens) ≡ token = ap (λ m. take m (token ++ concat tokens)) n ∙ take_at token (concat tokens) _ refl in
    let rest : drop (from + length token - from) (token ++ concat tokens) ≡ concat tokens = ap (λ m. drop m (token ++ concat tokens)) n ∙ drop_at token (concat tokens) _ refl in
    ap (λ t. t ∷ cut_from (from + length token) (ends_from (from + length token) tokens) (drop (from + length token - from) (token ++ concat tokens))) first
    ∙ ap (λ bytes. token ∷ cut_from (from + length token) (ends_from (from + length token) tokens) bytes) rest
    ∙ ap (λ others. token ∷ others) (cut_from-joined (from + length token) tokens)

-- where the tokens starting at place i begin
pub ends_from-at : (from : ℕ) (tokens : List (List ℕ)) (i d : ℕ) → i < length tokens → get_or (ends_from from tokens) i d ≡ from + length (concat (take (suc i) tokens))
ends_from-at from [] i d below = absurd (omega arith)
ends_from-at from (token ∷ tokens) zero d below = omega (arith, length-append token [])
ends_from-at from (token ∷ tokens) (suc i) d below =
    omega (arith, ends_from-at (from + length token) tokens i d (omega arith), length-append token (concat (take (suc i) tokens)))

-- the token at place i
pub token-at : (tokens : List (List ℕ)) (i : ℕ) (d : List ℕ) → i < length tokens → take (length (get_or tokens i d)) (drop (length (concat (take i tokens))) (concat tokens)) ≡ get_or tokens i d
token-at [] i d below = absurd (omega arith)
token-at (token ∷ tokens) zero d below = take_at token (concat tokens) _ refl
token-at (token ∷ tokens) (suc i) d below =
    ap (λ xs. take (length (get_or tokens i d)) xs) (dropped token (concat (take i tokens)) (concat tokens)) ∙ token-at tokens i d (omega arith)
  where
    dropped : (a b rest : List ℕ) → drop (length (a ++ b)) (a ++ rest) ≡ drop (length b) rest
    dropped [] b rest = refl
    dropped (x ∷ a) b rest = dropped a b rest

pub concat-take : (tokens : List (List ℕ)) (i : ℕ) (d : List ℕ) → i < length tokens → length (concat (take (suc i) tokens)) ≡ length (concat (take i tokens)) + length (get_or tokens i d)
concat-take [] i d below = absurd (omega arith)
concat-take (token ∷ tokens) zero d below = omega (arith, length-append token [])
concat-take (token ∷ tokens) (suc i) d below =
    omega (arith, concat-take tokens i d (omega arith), length-append token (concat (take (suc i) tokens)), length-append token (concat (take i tokens)))

pub concat-take-le : (tokens : List (List ℕ)) (i : ℕ) → length (concat (take i tokens)) ≤ length (concat tokens)
concat-take-le tokens zero = omega arith
concat-take-le [] (suc i) = omega arith
concat-take-le (token ∷ tokens) (suc i) =
    omega (arith, concat-take-le tokens i, length-append token (concat (take i tokens)), length-append token (concat tokens))

-- the end of the token before place i is where the one at i begins
pub start-at : (tokens : List (List ℕ)) (bytes ends : List ℕ) → AreJoined tokens bytes ends → (i d : ℕ) → 0 < i → i ≤ length tokens → get_or ends (i - 1) d ≡ length (concat (take i tokens))
start-at tokens bytes ends join zero d first le = absurd (omega arith)
start-at tokens bytes ends join (suc i) d first le =
    let e : suc i - 1 ≡ i = omega arith in
    ap (λ n. get_or ends n d) e ∙ ap (λ xs. get_or xs i d) join.cut ∙ omega (arith, ends_from-at 0 tokens i d (omega arith))

-- the bytes from where a token begins up to where the next begins
pub record StandsBetween (tokens : List (List ℕ)) (bytes : List ℕ) (i from end : ℕ) : Type 0 where
  pub ordered : from ≤ end
  pub within : end ≤ length bytes
  pub token : (d : List ℕ) → take (end - from) (drop from bytes) ≡ get_or tokens i d

pub stands : (tokens : List (List ℕ)) (bytes ends : List ℕ) → AreJoined tokens bytes ends → (i from end : ℕ) → i < length tokens
    → from ≡ length (concat (take i tokens)) → end ≡ length (concat (take (i + 1) tokens)) → StandsBetween tokens bytes i from end
stands tokens bytes ends join i from end below e f =
    let next : (d : List ℕ) → length (concat (take (i + 1) tokens)) ≡ length (concat (take i tokens)) + length (get_or tokens i d) =
    λ d. ap (λ n. length (concat (take n tokens))) (add-one i) ∙ concat-take tokens i d below in
    record {
      ordered = omega (arith, next []);
      within = omega (arith, concat-take-le tokens (i + 1), ap length join.joined);
      token = λ d.
          let size : end - from ≡ length (get_or tokens i d) = omega (arith, next d) in
          ap (λ n. take n (drop from bytes)) size ∙ ap (λ n. take (length (get_or tokens i d)) (drop n bytes)) e
          ∙ ap (λ xs. take (length (get_or tokens i d)) (drop (length (concat (take i tokens))) xs)) join.joined ∙ token-at tokens i d below;
    }

-- joined tokens and their ends, seen as the tokens
pub are_joined : (tokens : List (List ℕ)) (bytes ends : List ℕ) → bytes ≡ concat tokens → ends ≡ ends_from 0 tokens → cut_from 0 ends bytes ≡ tokens
are_joined tokens bytes ends e f = ap (λ xs. cut_from 0 ends xs) e ∙ ap (λ xs. cut_from 0 xs (concat tokens)) f ∙ cut_from-joined 0 tokens

-- if no text is left, all tokens are joined
pub all_joined : (text bytes ends rest : List ℕ) → true ≡ eqb (length rest) 0 → bytes ++ concat (tokens_of rest) ≡ concat (tokens_of text) → ends ++ ends_from (length bytes) (tokens_of rest) ≡ ends_from 0 (tokens_of text) → AreJoined (tokens_of text) bytes ends
all_joined text bytes ends [] empty e f = record { joined = sym (append-nil bytes) ∙ e; cut = sym (append-nil ends) ∙ f }
all_joined text bytes ends (b ∷ rest) empty e f = let none : length (b ∷ rest) ≡ 0 = eqb-true _ _ (sym empty) in absurd (omega arith)
