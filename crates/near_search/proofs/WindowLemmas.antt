-- What a page of members over a part of the text leaves.
use Rattle.std.proofs.Common.{◌≡◌, ℕ, suc, ◌+◌, ◌-◌, ◌<◌, ◌≤◌, min, get_or, List, [], ◌∷◌, ◌++◌, length, take, drop, refl, sym, ap, ◌∙◌, subst, arith}
use Rattle.std.proofs.lemmas.List.{drop_all, length-take}
use Rattle.std.specs.List.{AllByRecursion}
use Rattle.gcl_model.specs.Extents.{Extent}
use Rattle.gcl_model.specs.Forms.{Form}
use Rattle.gcl_model.specs.Limits.{address_end, far}
use Rattle.gcl_model.specs.Meaning.{concordance}
use Rattle.gcl_model.specs.Texts.{Text}
use Rattle.gcl_model.specs.declared.expr.Expr.{Expr}
use Rattle.live_version.specs.Contents.{VersionContent}
use Rattle.gcl_model.proofs.Lists.{all_weaker}
use Rattle.gcl_eval.specs.Members.{members_from}
use Rattle.gcl_readers.specs.Reading.{behind_page}
use Rattle.query_search.proofs.SearchLemmas.{after_page, page_before}
use Rattle.text_window.specs.Within.{within}

-- behind a page is behind the start of its last member
pub behind_last : (k : ℕ) (before : List Extent) (last : Extent) → behind_page k (before ++ last ∷ []) ≡ last.start + 1
behind_last k [] last = refl
behind_last k (a ∷ before) last = behind_last (a.start + 1) before last

-- of a page in range that is no farther than the end of the addresses
pub behind_below : (k : ℕ) (page : List Extent) → k < far → AllByRecursion (λ (a : Extent). a.start < address_end) page → behind_page k page < far
behind_below k [] below all = below
behind_below k (a ∷ page) below all = let lt : a.start < address_end = all.0 in behind_below (a.start + 1) page (omega arith) all.1

-- a part of a text ends in range
pub within_range : (text : Text) (low high : ℕ) → text.next ≤ address_end → (within text low high).next ≤ address_end
within_range text low high in_range = omega arith

-- the members of a page over a part of a text start in range
pub page_below : (text : Text) (low high : ℕ) (form : Form) (k most : ℕ) (page : List Extent) → text.next ≤ address_end
    → page ≡ take most (members_from (concordance (within text low high) form) k) → AllByRecursion (λ (a : Extent). a.start < address_end) page
page_below text low high form k most page in_range is =
    let part : Text = within text low high in
    let le : part.next ≤ address_end = omega arith in
    all_weaker (λ (a : Extent). a.start < part.next) (λ (a : Extent). a.start < address_end) (λ a lt. omega arith) page (page_before part form k most part.next page refl is)

-- a full page leaves those that start behind it
pub full_leaves : (text : Text) (form : Form) (k most : ℕ) (page : List Extent) → 0 < most → page ≡ take most (members_from (concordance text form) k) → most ≤ length page
    → members_from (concordance text form) (behind_page k page) ≡ drop most (members_from (concordance text form) k)
full_leaves text form k most page some is full =
    after_page text form k most text.next (behind_page k page) page refl some is (record {
      full = λ before last ends enough. ap (behind_page k) ends ∙ behind_last k before last;
      short = λ less. absurd (omega arith);
    })

-- and a page that is not full leaves none
pub short_leaves : (most : ℕ) (list page : List Extent) → page ≡ take most list → length page < most → [] ≡ drop most list
short_leaves most list page is less =
    let count : length page ≡ min most (length list) = ap length is ∙ length-take most list in
    sym (drop_all most list (omega arith))

-- it is no longer than was asked for
pub page_fits : (most : ℕ) (list page : List Extent) → page ≡ take most list → length page ≤ most
page_fits most list page is = let count : length page ≡ min most (length list) = ap length is ∙ length-take most list in omega arith

-- what is true over the part of one version is true over that of an equal one
pub over_part : (P : VersionContent → ℕ → ℕ → Expr → Type 0) (v w : VersionContent) (low low' high high' : ℕ) (expr expr' : Expr)
    → v ≡ w → low ≡ low' → high ≡ high' → expr ≡ expr' → P v low high expr → P w low' high' expr'
over_part P v w low low' high high' expr expr' same begins ends is p =
    subst (λ e. P w low' high' e) is (subst (λ h. P w low' h expr) ends (subst (λ l. P w l high expr) begins (subst (λ u. P u low high expr) same p)))

-- behind a page is behind the start of the member at its last place
pub behind_at : (k : ℕ) (page : List Extent) (other : Extent) → 0 < length page → behind_page k page ≡ (get_or page (length page - 1) other).start + 1
behind_at k [] other some = absurd (omega arith)
behind_at k (a ∷ []) other some = refl
behind_at k (a ∷ b ∷ page) other some =
    let at : length (a ∷ b ∷ page) - 1 ≡ suc (length (b ∷ page) - 1) = omega arith in
    behind_at (a.start + 1) (b ∷ page) other (omega arith) ∙ sym (ap (λ n. (get_or (a ∷ b ∷ page) n other).start + 1) at)
