-- Expressions by their forms, and what a width's and a term's readers answer.
use Rattle.std.proofs.Common.{◌≡◌, ℕ, ◌≤◌, List, leb, Option, Some, None, sym, ap, ◌∙◌, subst, arith}
use Rattle.std.proofs.lemmas.Bool.{and_parts, eqb-true}
use Rattle.gcl_model.specs.declared.expr.Expr.{Expr, Term, Width}
use Rattle.gcl_model.specs.declared.expr.Expr.TheOpen as F
use Rattle.gcl_model.specs.declared.expr.Expr.TheVariants.{rolls-Term, rolls-Width}
use Rattle.gcl_model.specs.declared.expr.Expr.TheFolds.{fold-roll-Expr}
use Rattle.gcl_model.specs.Extents.{Extent, all_extents}
use Rattle.gcl_model.specs.Texts.{Text}
use Rattle.gcl_model.specs.Forms.{Form, Forms, term, width, one}
use Rattle.gcl_model.specs.FormOf.{form_of, form_step}
use Rattle.gcl_model.specs.Meaning.{concordance, operands, denotes}
use Rattle.gcl_model.specs.Access.{first_start, first_end}
use Rattle.gcl_model.proofs.Covers.{Has, find_agree_on}
use Rattle.gcl_model.proofs.Minimal.{has_filter}
use Rattle.gcl_contain.proofs.Accesses.{found_first}
use Rattle.gcl_model.proofs.Meanings.{concordance_rises}
use Rattle.gcl_eval.specs.Members.{members_from}
use Rattle.gcl_eval.proofs.Listing.{all_members}
use Rattle.gcl_readers.specs.declared.front.Place.{Place}
use Rattle.gcl_readers.specs.Fronts.{left_of, front_at, after}
use Rattle.gcl_readers.specs.Agreement.{AllAnswerFrom}
use Rattle.gcl_readers.specs.Standing.{Stands, Tell, left_to, starts_at}
use Rattle.gcl_readers.proofs.Members.{from_has}
use Rattle.gcl_readers.proofs.Answers.{all_answer_later}

pub form-Width : (e : Expr) (n : ℕ) → e ≡ Width n → form_of e ≡ width n
form-Width e n is = ap form_of (is ∙ sym (rolls-Width n)) ∙ fold-roll-Expr Form form_step (F.Width n)

pub form-Term : (e : Expr) (token : List ℕ) → e ≡ Term token → form_of e ≡ term token
form-Term e token is = ap form_of (is ∙ sym (rolls-Term token)) ∙ fold-roll-Expr Form form_step (F.Term token)

-- all members are left to a width's reader
width_all : (text : Text) (n : ℕ) (places : List Place) → Stands text (width n) places → left_to text (width n) places ≡ concordance text (width n)
width_all text n places s = ap (left_of (concordance text (width n))) s.tells ∙ all_members (concordance text (width n))

pub width_left : (text : Text) (form : Form) (n : ℕ) → form ≡ width n → (places : List Place) → Stands text form places → concordance text (width n) ≡ left_to text form places
width_left text form n is places s =
    subst (λ f. concordance text (width n) ≡ left_to text f places) (sym is) (sym (width_all text n places (subst (λ f. Stands text f places) is s)))

-- each member of a term starts where it ends
starts_where_it_ends : (text : Text) (token : List ℕ) (a : Extent) → Has (concordance text (term token)) a → a.start ≡ a.end
starts_where_it_ends text token a m = eqb-true a.start a.end (and_parts _ _ (has_filter (denotes text (term token)) (all_extents text.first text.next) a m).1).0

pub term_ends : (text : Text) (form : Form) (token : List ℕ) → form ≡ term token → (x k : ℕ) → first_start (members_from (concordance text form) x) k ≡ first_end (members_from (concordance text form) x) k
term_ends text form token is x k =
    subst (λ f. first_start (members_from (concordance text f) x) k ≡ first_end (members_from (concordance text f) x) k) (sym is)
    (find_agree_on (λ a. leb k a.start) (λ a. leb k a.end) (members_from (concordance text (term token)) x)
    (λ a m. ap (leb k) (starts_where_it_ends text token a (from_has (concordance text (term token)) x a m).0)))

-- behind its member the operands of "one of" answer as their whole lists do
pub one_tell : (text : Text) (forms : Forms) (places : List Place) (k : ℕ) (o : Option Extent) → o ≡ first_start (concordance text (one forms)) k → AllAnswerFrom (operands text forms) (starts_at forms places) k →
    Tell text (one forms) (front_at o) places
one_tell text forms places k None is all = tt
one_tell text forms places k (Some a) is all =
    let f = found_first (λ c. c.start) (concordance text (one forms)) (concordance_rises text (one forms)) k a (sym is) in
    let far : k ≤ a.start = f.far in
    all_answer_later (operands text forms) (starts_at forms places) k (after (Some a)) (omega arith) all
