-- The content of a made file, item by item.
use Rattle.std.proofs.Common.{◌≡◌, ℕ, suc, ◌+◌, List, [], ◌∷◌, ◌++◌, sym, ap, ◌∙◌, append_assoc, arith, flat_map}
use Rattle.std.specs.List.{join_with_byte}
use Rattle.std.proofs.lemmas.List.{append-nil}
use Rattle.made_corpus.specs.Draws.{next_state, draw}
use Rattle.made_corpus.specs.MadeFiles.{items_from, item_from, content_from, HasDrawn}

-- texts, each after a space
abbrev pub behind_spaces : List (List ℕ) → List ℕ
behind_spaces = flat_map (λ text. 32 ∷ text)

-- the first text has no space before it, and each later one has
joined : (text : List ℕ) (texts : List (List ℕ)) → join_with_byte 32 (text ∷ texts) ≡ text ++ behind_spaces texts
joined text [] = sym (append-nil text)
joined text (next ∷ texts) = ap (λ rest. text ++ 32 ∷ rest) (joined next texts)

-- the first item is written
pub content-begun : (state begun after later left : ℕ) (out out_1 : List ℕ) → later ≡ 19 + draw state 200 → left ≡ later → begun ≡ next_state state → HasDrawn (item_from begun) out out_1 after →
    out_1 ++ behind_spaces (items_from left after) ≡ out ++ content_from state
content-begun state begun after later left out out_1 is all next put =
    let first : List ℕ = (item_from begun).text in
    let many : 20 + draw state 200 ≡ suc left = omega arith in
    let items : items_from (20 + draw state 200) (next_state state) ≡ first ∷ items_from left (item_from begun).state = ap (λ n. items_from n (next_state state)) many ∙ ap (λ s. items_from (suc left) s) (sym next) in
    let content : content_from state ≡ first ++ behind_spaces (items_from left after) =
    ap (join_with_byte 32) items ∙ joined first (items_from left (item_from begun).state) ∙ ap (λ s. first ++ behind_spaces (items_from left s)) (sym put.state) in
    ap (λ text. text ++ behind_spaces (items_from left after)) put.text ∙ append_assoc out first (behind_spaces (items_from left after)) ∙ ap (λ text. out ++ text) (sym content)

-- one item more is written, after a space
pub content-step : (n m state after : ℕ) (out out_1 out_2 whole : List ℕ) → n ≡ suc m → out_1 ≡ out ++ 32 ∷ [] → HasDrawn (item_from state) out_1 out_2 after →
    out ++ behind_spaces (items_from n state) ≡ whole → out_2 ++ behind_spaces (items_from m after) ≡ whole
content-step n m state after out out_1 out_2 whole is space put was =
    let item : List ℕ = (item_from state).text in
    let rest : List ℕ = behind_spaces (items_from m after) in
    let left : behind_spaces (items_from n state) ≡ 32 ∷ (item ++ rest) = ap (λ k. behind_spaces (items_from k state)) is ∙ ap (λ s. 32 ∷ (item ++ behind_spaces (items_from m s))) (sym put.state) in
    ap (λ text. text ++ rest) (put.text ∙ ap (λ text. text ++ item) space) ∙ regroup out item rest ∙ ap (λ text. out ++ text) (sym left) ∙ was
  where
    regroup : (a b d : List ℕ) → ((a ++ 32 ∷ []) ++ b) ++ d ≡ a ++ (32 ∷ (b ++ d))
    regroup a b d = simp append_assoc

-- no item is left
pub content-done : (n state : ℕ) (out whole : List ℕ) → n ≡ 0 → out ++ behind_spaces (items_from n state) ≡ whole → out ≡ whole
content-done n state out whole is was = sym (append-nil out) ∙ ap (λ k. out ++ behind_spaces (items_from k state)) (sym is) ∙ was
