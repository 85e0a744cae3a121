-- No two trees of the grammar spell the same tokens and stand for different forms.
use Rattle.std.proofs.Common.{◌≡◌, ℕ, List, [], ◌∷◌, refl, sym, ap, ◌∙◌}
use Rattle.gcl_model.specs.Forms.{Form, more_forms, no_forms}
use Rattle.gcl_parser.specs.declared.token.Joint.{Joint}
use Rattle.gcl_model.specs.declared.containment.Containment.{Containment}
use Rattle.gcl_parser.specs.QueryTokens.{QueryToken, operand, joint, containment, open_bracket, close_bracket, broken}
use Rattle.gcl_parser.specs.Reading.{Ends, EndsQuery}
use Rattle.gcl_model.specs.FormOf.{containment_form}
use Rattle.gcl_parser.specs.Grammar.{Level, joined, Part, simple, bracketed, only, join, Query, query, Containments, no_more, and_then, spelling, query_spelling, more_spelling, form_of_part, form_of_query, members, grouped, chain_form, IsQuery}
use Rattle.gcl_parser.proofs.Trees.{ends_below, ends_joint, joint_goes_on, ends_containments}

pub record AreSame {l : Level} (p q : Part l) (rest tail : List QueryToken) : Type 0 where
  pub form : form_of_part p ≡ form_of_part q
  pub all : members p ≡ members q
  pub behind : rest ≡ tail

pub record AreSameForm (f g : Form) (rest tail : List QueryToken) : Type 0 where
  pub form : f ≡ g
  pub behind : rest ≡ tail

head_form : (f g : Form) (rest tail : List QueryToken) → operand f ∷ rest ≡ operand g ∷ tail → AreSameForm f g rest tail
head_form f g rest tail is = record { form = cc; behind = cc }

tail_of : (s t : QueryToken) (rest tail : List QueryToken) → s ∷ rest ≡ t ∷ tail → rest ≡ tail
tail_of s t rest tail is = cc

-- a chain cannot both end and go on
not_both : (j : Joint) (rest tail : List QueryToken) → Ends (joined j) rest → rest ≡ joint j ∷ tail → ⊥
not_both j [] tail ends is = cc
not_both j (token ∷ rest) tail ends is =
    let head : token ≡ joint j = cc in
    joint_goes_on j rest (rw head at ends)

not_both_more : (rest tail : List QueryToken) (operator : Containment) → EndsQuery rest → rest ≡ containment operator ∷ tail → ⊥
not_both_more [] tail operator ends is = cc
not_both_more (operand form ∷ rest) tail operator ends is = cc
not_both_more (joint j ∷ rest) tail operator ends is = cc
not_both_more (containment other ∷ rest) tail operator ends is = cc
not_both_more (open_bracket ∷ rest) tail operator ends is = cc
not_both_more (close_bracket ∷ rest) tail operator ends is = cc
not_both_more (broken kind ∷ rest) tail operator ends is = cc

mutual
  pub same_part : {l : Level} (p q : Part l) (rest tail : List QueryToken) → spelling p rest ≡ spelling q tail → Ends l rest → Ends l tail → AreSame p q rest tail
  same_part (simple form) (simple other) rest tail is e f =
      let same = head_form form other rest tail is in
      record { form = same.form; all = ap (λ x. more_forms x no_forms) same.form; behind = same.behind }
  same_part (simple form) (bracketed q) rest tail is e f = absurd cc
  same_part (bracketed p) (simple other) rest tail is e f = absurd cc
  same_part (bracketed p) (bracketed q) rest tail is e f =
      let same = same_query p q (close_bracket ∷ rest) (close_bracket ∷ tail) (tail_of open_bracket open_bracket (query_spelling p (close_bracket ∷ rest)) (query_spelling q (close_bracket ∷ tail)) is) refl refl in
      record { form = same.form; all = ap (λ x. more_forms x no_forms) same.form; behind = tail_of close_bracket close_bracket rest tail same.behind }
  same_part (only j p) (only k q) rest tail is e f =
      let same = same_part p q rest tail is (ends_below j rest e) (ends_below j tail f) in
      record { form = same.form; all = ap (λ x. more_forms x no_forms) same.form; behind = same.behind }
  same_part (only j p) (join k q chain) rest tail is e f =
      let same = same_part p q rest (joint j ∷ spelling chain tail) is (ends_below j rest e) (ends_joint j (spelling chain tail)) in
      absurd (not_both j rest (spelling chain tail) e same.behind)
  same_part (join j p chain) (only k q) rest tail is e f =
      let same = same_part p q (joint j ∷ spelling chain rest) tail is (ends_joint j (spelling chain rest)) (ends_below j tail f) in
      absurd (not_both j tail (spelling chain rest) f (sym same.behind))
  same_part (join j p more) (join k q chain) rest tail is e f =
      let first = same_part p q (joint j ∷ spelling more rest) (joint j ∷ spelling chain tail) is (ends_joint j (spelling more rest)) (ends_joint j (spelling chain tail)) in
      let then = same_part more chain rest tail (tail_of (joint j) (joint j) (spelling more rest) (spelling chain tail) first.behind) e f in
      let all : more_forms (form_of_part p) (members more) ≡ more_forms (form_of_part q) (members chain) = ap (λ x. more_forms x (members more)) first.form ∙ ap (λ x. more_forms (form_of_part q) x) then.all in
      record { form = ap (λ x. chain_form j x) all; all = all; behind = then.behind }

  pub same_query : (p q : Query) (rest tail : List QueryToken) → query_spelling p rest ≡ query_spelling q tail → EndsQuery rest → EndsQuery tail → AreSameForm (form_of_query p) (form_of_query q) rest tail
  same_query (query p more) (query q rows) rest tail is e f =
      let first = same_part p q (more_spelling more rest) (more_spelling rows tail) is (ends_containments rest more e) (ends_containments tail rows f) in
      same_more more rows (form_of_part p) (form_of_part q) rest tail first.form first.behind e f

  same_more : (m n : Containments) (a b : Form) (rest tail : List QueryToken) → a ≡ b → more_spelling m rest ≡ more_spelling n tail → EndsQuery rest → EndsQuery tail → AreSameForm (grouped a m) (grouped b n) rest tail
  same_more no_more no_more a b rest tail ab is e f = record { form = ab; behind = is }
  same_more no_more (and_then operator q rows) a b rest tail ab is e f = absurd (not_both_more rest (spelling q (more_spelling rows tail)) operator e is)
  same_more (and_then operator p more) no_more a b rest tail ab is e f = absurd (not_both_more tail (spelling p (more_spelling more rest)) operator f (sym is))
  same_more (and_then operator p more) (and_then other q rows) a b rest tail ab is e f =
      let first = same_part p q (more_spelling more rest) (more_spelling rows tail) (tail_of (containment operator) (containment other) (spelling p (more_spelling more rest)) (spelling q (more_spelling rows tail)) is) (ends_containments rest more e) (ends_containments tail rows f) in
      let operators : operator ≡ other = cc in
      let left : containment_form operator a (form_of_part p) ≡ containment_form other b (form_of_part q) =
      ap (λ x. containment_form x a (form_of_part p)) operators ∙ ap (λ x. containment_form other x (form_of_part p)) ab ∙ ap (λ x. containment_form other b x) first.form in
      same_more more rows (containment_form operator a (form_of_part p)) (containment_form other b (form_of_part q)) rest tail left first.behind e f

pub one_form : (text : List ℕ) (a b : Form) → IsQuery text a → IsQuery text b → a ≡ b
one_form text a b p q =
    sym p.stands_for ∙ (same_query p.tree q.tree [] [] (sym p.spelled ∙ q.spelled) tt tt).form ∙ q.stands_for
