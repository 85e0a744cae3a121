-- The members of a list up to an address.
use Rattle.std.proofs.Common.{◌≡◌, ℕ, ◌<◌, ◌≤◌, Bool, cond, List, [], ◌∷◌, take_while, refl, ap, ◌∙◌, arith}
use Rattle.std.specs.List.{AllByRecursion}
use Rattle.std.proofs.lemmas.Bool.{le-leb}
use Rattle.std.proofs.lemmas.List.Sums.{take_while-cons}
use Rattle.gcl_model.specs.Extents.{Extent}
use Rattle.gcl_model.specs.Forms.{Form}
use Rattle.gcl_model.specs.Meaning.{concordance}
use Rattle.gcl_model.specs.Texts.{Text}
use Rattle.gcl_model.proofs.Lists.{all_weaker}
use Rattle.near_search.specs.Contents.{starts_by}
use Rattle.query_search.proofs.SearchLemmas.{start_before}

-- if all start there or before, they are all of them
all_start : (high : ℕ) (list : List Extent) → AllByRecursion (λ (a : Extent). a.start ≤ high) list → take_while (starts_by high) list ≡ list
all_start high [] all = refl
all_start high (x ∷ list) all =
    take_while-cons (starts_by high) x list
    ∙ ap (λ (b : Bool). cond b (x ∷ take_while (starts_by high) list) []) (le-leb x.start high all.0)
    ∙ ap (λ (l : List Extent). x ∷ l) (all_start high list all.1)

-- no member starts after the end of the text
pub whole_list : (text : Text) (form : Form) (high : ℕ) → text.next ≤ high → take_while (starts_by high) (concordance text form) ≡ concordance text form
whole_list text form high within =
    all_start high (concordance text form)
    (all_weaker (λ (a : Extent). a.start < text.next) (λ (a : Extent). a.start ≤ high) (λ a lt. omega arith) (concordance text form) (start_before text form))
