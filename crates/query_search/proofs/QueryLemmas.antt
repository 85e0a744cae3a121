-- A query over words, or over the places of its prefix terms.
use Rattle.std.proofs.Common.{◌≡◌, ◌∙◌, ℕ, zero, true, List, Option, Some, None, refl, sym, ap, subst}
use Rattle.std.specs.Prelude.{IfSome}
use Rattle.gcl_model.specs.Extents.{Extent}
use Rattle.gcl_model.specs.FormOf.{form_of}
use Rattle.gcl_model.specs.declared.expr.Expr.{Expr}
use Rattle.gcl_model.specs.Forms.{Form}
use Rattle.gcl_model.specs.Texts.{Text}
use Rattle.gcl_model.specs.Meaning.{concordance}
use Rattle.gcl_model.specs.WellFormed.{IsWellFormed}
use Rattle.gcl_model.specs.Wide.{wide}
use Rattle.live_version.specs.Contents.{VersionContent, version_text}
use Rattle.manifest_publish.specs.Histories.{IsLatest}
use Rattle.collection.specs.Engines.{last_of}
use Rattle.collection.proofs.EngineLemmas.{last_is}
use Rattle.reader_pass.specs.Members.{access_most}
use Rattle.prefix_places.specs.Places.{PrefixContent}
use Rattle.prefix_leaves.specs.Prefixes.{AreOver, tokens_of, wide_most}
use Rattle.prefix_leaves.specs.Renaming.{is_apart, renamed}
use Rattle.prefix_leaves.proofs.Renamed.{apart_decides}
use Rattle.query_search.specs.inner.Queries.{IsQuery, QueryContent, list_of, query_most, query_text}

-- the text of a query ends where its version does
pub ends : (history : List VersionContent) (table : Option (List PrefixContent)) → (last_of history).next ≡ (query_text history table).next
ends history None = refl
ends history (Some table) = refl

-- and begins where it does
pub begins : (history : List VersionContent) (table : Option (List PrefixContent)) → (last_of history).first ≡ (query_text history table).first
begins history None = refl
begins history (Some table) = refl

-- what holds of a text, of the look-ups of a call and of a form holds of equal ones
pub alike : (P : Text → ℕ → Form → Type 0) (t u : Text) (m n : ℕ) (f g : Form) → t ≡ u → m ≡ n → f ≡ g → P t m f → P u n g
alike P t u m n f g texts mosts forms holds = subst (λ (h : Form). P u n h) forms (subst (λ (k : ℕ). P u k f) mosts (subst (λ (s : Text). P s m f) texts holds))

-- the query of a history, by what is asked of its last version: the expression is given
module _ (query : QueryContent) (history : List VersionContent) (expr : Expr) (table : Option (List PrefixContent)) (is : IsQuery history (form_of expr) table)
    (view : record { text = query_text history table; most = query_most history table; expr = expr } ≡ query) (e : Expr) (same_expr : e ≡ expr) where
  pub asked_well_formed : IsWellFormed (form_of e)
  asked_well_formed = subst (λ (x : Expr). IsWellFormed (form_of x)) (sym same_expr) is.well_formed

  pub asked_form : form_of e ≡ form_of query.expr
  asked_form = ap form_of same_expr ∙ ap (λ (q : QueryContent). form_of q.expr) view

  -- over the words
  module _ (none : table ≡ None) where
    pub words_text : version_text (last_of history) ≡ query.text
    words_text = ap (λ (o : Option (List PrefixContent)). query_text history o) (sym none) ∙ ap (λ (q : QueryContent). q.text) view

    pub words_most : access_most (last_of history) ≡ query.most
    words_most = ap (λ (o : Option (List PrefixContent)). query_most history o) (sym none) ∙ ap (λ (q : QueryContent). q.most) view

    pub words_list : concordance (version_text (last_of history)) (form_of e) ≡ list_of query
    words_list = ap (λ (t : Text). concordance t (form_of e)) words_text ∙ ap (concordance query.text) asked_form

  -- over the places in a table, which is given, too
  module _ (t : List PrefixContent) (some : table ≡ Some t) (v : VersionContent) (latest : IsLatest history v) (u : List PrefixContent) (same_table : u ≡ t) where
    pub places_over : AreOver (version_text v) u
    places_over =
        subst (λ (w : VersionContent). AreOver (version_text w) u) (last_is history v latest)
        (subst (λ (l : List PrefixContent). AreOver (version_text (last_of history)) l) (sym same_table)
        (subst (λ (o : Option (List PrefixContent)). IfSome o (λ l. AreOver (version_text (last_of history)) l × (is_apart (tokens_of l) (form_of expr) ≡ true))) some is.named).0)

    pub places_apart : is_apart (tokens_of u) (form_of e) ≡ true
    places_apart =
        ap (λ (l : List PrefixContent). is_apart (tokens_of l) (form_of e)) same_table
        ∙ ap (λ (x : Expr). is_apart (tokens_of t) (form_of x)) same_expr
        ∙ (subst (λ (o : Option (List PrefixContent)). IfSome o (λ l. AreOver (version_text (last_of history)) l × (is_apart (tokens_of l) (form_of expr) ≡ true))) some is.named).1

    pub places_text : renamed (tokens_of u) (version_text v) ≡ query.text
    places_text =
        ap (λ (l : List PrefixContent). renamed (tokens_of l) (version_text v)) same_table
        ∙ ap (λ (w : VersionContent). renamed (tokens_of t) (version_text w)) (sym (last_is history v latest))
        ∙ ap (λ (o : Option (List PrefixContent)). query_text history o) (sym some)
        ∙ ap (λ (q : QueryContent). q.text) view

    pub places_most : wide_most v ≡ query.most
    places_most =
        ap wide_most (sym (last_is history v latest))
        ∙ ap (λ (o : Option (List PrefixContent)). query_most history o) (sym some)
        ∙ ap (λ (q : QueryContent). q.most) view

    pub places_list : wide (version_text v) (form_of e) ≡ list_of query
    places_list =
        sym (apart_decides (tokens_of u) (version_text v) (form_of e) places_apart)
        ∙ ap (λ (x : Text). concordance x (form_of e)) places_text
        ∙ ap (concordance query.text) asked_form

-- what is the list is what the pages have to come, before the first
pub same_list : (merging : Option (List Extent)) (list come : List Extent) → list ≡ come → IfSome merging (λ (l : List Extent). l ≡ list) → IfSome merging (λ (l : List Extent). (l ≡ come) × (zero ≡ zero))
same_list None list come same is = tt
same_list (Some l) list come same is = (is ∙ same, refl)
