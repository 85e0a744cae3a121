-- A step through two rising lists.
use Rattle.std.proofs.Common.{◌≡◌, ◌+◌, ◌<◌, ◌≤◌, Bool, true, false, ◌&&◌, ltb, eqb, List, ◌∷◌, length, drop, refl, sym, ap, ◌∙◌, subst, arith}
use Rattle.std.proofs.lemmas.Bool.{or_parts, ltb-false, eq-eqb}
use Rattle.gcl_model.specs.Extents.{Extent, IsRising}
use Rattle.standing_query.specs.Changes.{comes_before, changes}
use Rattle.standing_query.specs.declared.change.Change.TheVariants.{Went, Came}
use Rattle.standing_query.proofs.ChangeLemmas.{changes_same, changes_went, changes_came}

-- the first member of the old list comes before that of the new one
pub tells_went : (a b : Extent) (old new : List Extent) → IsRising old → IsRising new → old ≡ a ∷ drop 1 old → new ≡ b ∷ drop 1 new → comes_before a b ≡ true
    → changes old new ≡ Went a ∷ changes (drop 1 old) new
tells_went a b old new olds news is has before =
    ap (λ (l : List Extent). changes l new) is
    ∙ ap (λ (l : List Extent). changes (a ∷ drop 1 old) l) has
    ∙ changes_went a b (drop 1 old) (drop 1 new) (subst IsRising is olds) (subst IsRising has news) before
    ∙ sym (ap (λ (l : List Extent). Went a ∷ changes (drop 1 old) l) has)

-- the first member of the new list comes before that of the old one
pub tells_came : (a b : Extent) (old new : List Extent) → IsRising old → IsRising new → old ≡ a ∷ drop 1 old → new ≡ b ∷ drop 1 new → comes_before b a ≡ true
    → changes old new ≡ Came b ∷ changes old (drop 1 new)
tells_came a b old new olds news is has before =
    ap (λ (l : List Extent). changes l new) is
    ∙ ap (λ (l : List Extent). changes (a ∷ drop 1 old) l) has
    ∙ changes_came a b (drop 1 old) (drop 1 new) (subst IsRising is olds) (subst IsRising has news) before
    ∙ sym (ap (λ (l : List Extent). Came b ∷ changes l (drop 1 new)) is)

-- of two intervals of which neither comes before the other both are the same
neither_before : (a b : Extent) → comes_before a b ≡ false → comes_before b a ≡ false → a ≡ b
neither_before a b forth back =
    let parts = or_parts (ltb a.start b.start) (eqb a.start b.start && ltb a.end b.end) forth in
    let others = or_parts (ltb b.start a.start) (eqb b.start a.start && ltb b.end a.end) back in
    let le : b.start ≤ a.start = ltb-false a.start b.start parts.0 in
    let ge : a.start ≤ b.start = ltb-false b.start a.start others.0 in
    let starts : a.start ≡ b.start = omega arith in
    let lower : ltb a.end b.end ≡ false = subst (λ (t : Bool). (t && ltb a.end b.end) ≡ false) (eq-eqb a.start b.start starts) parts.1 in
    let upper : ltb b.end a.end ≡ false = subst (λ (t : Bool). (t && ltb b.end a.end) ≡ false) (eq-eqb b.start a.start (sym starts)) others.1 in
    let low : b.end ≤ a.end = ltb-false a.end b.end lower in
    let high : a.end ≤ b.end = ltb-false b.end a.end upper in
    let ends : a.end ≡ b.end = omega arith in
    rw (← starts, ← ends) refl

-- neither of the two first members comes before the other
pub skips_both : (a b : Extent) (old new : List Extent) → IsRising old → IsRising new → old ≡ a ∷ drop 1 old → new ≡ b ∷ drop 1 new
    → comes_before a b ≡ false → comes_before b a ≡ false → changes old new ≡ changes (drop 1 old) (drop 1 new)
skips_both a b old new olds news is has forth back =
    let same : new ≡ a ∷ drop 1 new = has ∙ ap (λ (x : Extent). x ∷ drop 1 new) (sym (neither_before a b forth back)) in
    ap (λ (l : List Extent). changes l new) is
    ∙ ap (λ (l : List Extent). changes (a ∷ drop 1 old) l) same
    ∙ changes_same a (drop 1 old) (drop 1 new) (subst IsRising is olds) (subst IsRising same news)

shorter : (a : Extent) (list : List Extent) → list ≡ a ∷ drop 1 list → length list ≡ length (drop 1 list) + 1
shorter a list is = let count : length list ≡ length (a ∷ drop 1 list) = ap length is in omega arith

-- both lists are shorter by a member
pub fewer_left : (a b : Extent) (old new : List Extent) → old ≡ a ∷ drop 1 old → new ≡ b ∷ drop 1 new → length (drop 1 old) + length (drop 1 new) < length old + length new
fewer_left a b old new is has = let olds = shorter a old is in let news = shorter b new has in omega arith
