-- The accesses of a term, by a look-up of its places.
use Rattle.std.proofs.Common.{◌≡◌, ℕ, List, Option, leb, sym, ap, ◌∙◌}
use Rattle.std.specs.Option.{option_map}
use Rattle.std.proofs.lemmas.Bool.{and_parts, eqb-true}
use Rattle.gcl_model.specs.Extents.{Extent, all_extents}
use Rattle.gcl_model.specs.Texts.{Text, IsText}
use Rattle.gcl_model.specs.Forms.{term}
use Rattle.gcl_model.specs.Meaning.{concordance, denotes}
use Rattle.gcl_model.specs.Access.{first_start, first_end, last_end, last_start}
use Rattle.gcl_model.proofs.Covers.{Has, find_agree_on, find_last_agree_on}
use Rattle.gcl_model.proofs.Minimal.{has_filter}
use Rattle.gcl_model.proofs.Places.{point, first_start-term_found, last_end-term_found}
use Rattle.gcl_eval.specs.Directions.{access_of, place_of}
use Rattle.gcl_eval.specs.declared.direction.Access.{Access}
use Rattle.gcl_eval.specs.declared.direction.Access.TheVariants.{FirstStart, FirstEnd, LastEnd, LastStart}

-- each member starts where it ends
starts_where_it_ends : (text : Text) (token : List ℕ) (a : Extent) → Has (concordance text (term token)) a → a.start ≡ a.end
starts_where_it_ends text token a m = eqb-true a.start a.end (and_parts _ _ (has_filter (denotes text (term token)) (all_extents text.first text.next) a m).1).0

first_end-term : (text : Text) (token : List ℕ) (k : ℕ) → first_start (concordance text (term token)) k ≡ first_end (concordance text (term token)) k
first_end-term text token k = find_agree_on (λ a. leb k a.start) (λ a. leb k a.end) (concordance text (term token)) (λ a m. ap (leb k) (starts_where_it_ends text token a m))

last_start-term : (text : Text) (token : List ℕ) (k : ℕ) → last_end (concordance text (term token)) k ≡ last_start (concordance text (term token)) k
last_start-term text token k = find_last_agree_on (λ a. leb a.end k) (λ a. leb a.start k) (concordance text (term token)) (λ a m. ap (λ n. leb n k) (sym (starts_where_it_ends text token a m)))

-- the access, if a look-up of the same bytes gave o
pub term_found : (access : Access) (text : Text) (token bytes : List ℕ) (k : ℕ) (o : Option ℕ) → IsText text → bytes ≡ token → o ≡ place_of access text.words bytes k →
    option_map point o ≡ access_of access (concordance text (term token)) k
term_found FirstStart text token bytes k o sound same is = first_start-term_found text token bytes k o sound same is
term_found FirstEnd text token bytes k o sound same is = first_start-term_found text token bytes k o sound same is ∙ first_end-term text token k
term_found LastEnd text token bytes k o sound same is = last_end-term_found text token bytes k o sound same is
term_found LastStart text token bytes k o sound same is = last_end-term_found text token bytes k o sound same is ∙ last_start-term text token k
