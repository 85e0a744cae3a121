-- The form that one pass over the tokens gives is that of the tree that spells them.
use Rattle.std.proofs.Common.{◌≡◌, ℕ, List, [], ◌∷◌, map, Option, Some, None, refl, sym, ap, subst, ◌∙◌}
use Rattle.gcl_model.specs.Forms.{Form, Forms, no_forms, more_forms}
use Rattle.gcl_parser.specs.declared.fault.QueryFault.{QueryFault}
use Rattle.gcl_parser.specs.declared.token.Joint.{Joint}
use Rattle.gcl_parser.specs.declared.token.Joint.TheVariants.{FollowedBy, BothOf, OneOf}
use Rattle.gcl_model.specs.declared.containment.Containment.{Containment}
use Rattle.gcl_parser.specs.QueryTokens.{QueryToken, joint, close_bracket, token_of, query_tokens}
use Rattle.gcl_parser.specs.Refusal.{refused}
use Rattle.gcl_model.specs.FormOf.{containment_form}
use Rattle.gcl_parser.specs.Grammar.{Level, single, joined, Part, simple, bracketed, only, join, Query, query, Containments, no_more, and_then, spelling, query_spelling, more_spelling, form_of_part, form_of_query, members, grouped, IsQuery, IsQueryWithin}
use Rattle.gcl_parser.specs.QueryForm.{forms_append, forms_and, chain_of, Unfinished, begun, seq_of, both_of, one_of, behind_left, whole_of, with_operand, with_joint, with_containment, form_from, unless, query_form}
use Rattle.gcl_parser.specs.Laws.{QueryFormsAreOfQueries}
use Rattle.gcl_parser.proofs.Derives.{not_refused, is_not_refused}

forms_append-assoc : (a b c : Forms) → forms_append (forms_append a b) c ≡ forms_append a (forms_append b c)
forms_append-assoc no_forms b c = refl
forms_append-assoc (more_forms form forms) b c = ap (λ others. more_forms form others) (forms_append-assoc forms b c)

-- what was read after a tree
abbrev after_part : {l : Level} → Part l → Unfinished → Unfinished
after_part (simple form) u = with_operand u form
after_part (bracketed q) u = with_operand u (form_of_query q)
after_part (only j part) u = after_part part u
after_part (join j part chain) u = after_part chain (with_joint j (after_part part u))

abbrev after_more : Containments → Unfinished → Unfinished
after_more no_more u = u
after_more (and_then operator part more) u = after_more more (after_part part (with_containment operator u))

abbrev after_query : Query → Unfinished → Unfinished
after_query (query part more) u = after_more more (after_part part u)

-- a part of a chain gives the form of the chain
form_is_chain : (j : Joint) (p : Part (joined j)) → form_of_part p ≡ chain_of j (members p)
form_is_chain j (only k part) = refl
form_is_chain j (join k part (only i last)) = refl
form_is_chain j (join k part (join i next chain)) = refl

single_after : (p : Part single) (u : Unfinished) → after_part p u ≡ with_operand u (form_of_part p)
single_after (simple form) u = refl
single_after (bracketed q) u = refl

-- the members of a chain of `..` are put after those before
seqs_after : (p : Part (joined FollowedBy)) (u : Unfinished) → after_part p u ≡ record { left = u.left; ones = u.ones; boths = u.boths; seqs = forms_append u.seqs (members p) }
seqs_after (only k part) u = single_after part u
seqs_after (join k part chain) u =
    ap (λ v. after_part chain v) (single_after part u)
    ∙ seqs_after chain (with_operand u (form_of_part part))
    ∙ ap (λ forms. record { left = u.left; ones = u.ones; boths = u.boths; seqs = forms }) (forms_append-assoc u.seqs (more_forms (form_of_part part) no_forms) (members chain))

-- a chain of `..` was read when none was begun
record IsSeqRead (u v : Unfinished) (form : Form) : Type 0 where
  left : v.left ≡ u.left
  ones : v.ones ≡ u.ones
  boths : v.boths ≡ u.boths
  value : seq_of v ≡ form

seq_read : (p : Part (joined FollowedBy)) (u : Unfinished) → u.seqs ≡ no_forms → IsSeqRead u (after_part p u) (form_of_part p)
seq_read p u none = subst (λ v. IsSeqRead u v (form_of_part p)) (sym (seqs_after p u)) record {
  left = refl;
  ones = refl;
  boths = refl;
  value = ap (λ forms. chain_of FollowedBy (forms_append forms (members p))) none ∙ sym (form_is_chain FollowedBy p);
}

-- members of a chain of `^` were put after those before
record AreBothsRead (u v : Unfinished) (forms : Forms) : Type 0 where
  left : v.left ≡ u.left
  ones : v.ones ≡ u.ones
  all : forms_and v.boths (seq_of v) ≡ forms_append u.boths forms

boths_after : (p : Part (joined BothOf)) (u : Unfinished) → u.seqs ≡ no_forms → AreBothsRead u (after_part p u) (members p)
boths_after (only k part) u none =
    let first = seq_read part u none in
    record { left = first.left; ones = first.ones; all = ap (λ forms. forms_and forms (seq_of (after_part part u))) first.boths ∙ ap (λ form. forms_and u.boths form) first.value }
boths_after (join k part chain) u none =
    let v = after_part part u in
    let first = seq_read part u none in
    let rest = boths_after chain (with_joint BothOf v) refl in
    record {
      left = rest.left ∙ first.left;
      ones = rest.ones ∙ first.ones;
      all = rest.all ∙ ap (λ forms. forms_append (forms_and forms (seq_of v)) (members chain)) first.boths ∙ ap (λ form. forms_append (forms_and u.boths form) (members chain)) first.value
          ∙ forms_append-assoc u.boths (more_forms (form_of_part part) no_forms) (members chain);
    }

record IsBothRead (u v : Unfinished) (form : Form) : Type 0 where
  left : v.left ≡ u.left
  ones : v.ones ≡ u.ones
  value : both_of v ≡ form

both_read : (p : Part (joined BothOf)) (u : Unfinished) → u.seqs ≡ no_forms → u.boths ≡ no_forms → IsBothRead u (after_part p u) (form_of_part p)
both_read p u seqs boths =
    let read = boths_after p u seqs in
    record { left = read.left; ones = read.ones; value = ap (chain_of BothOf) (read.all ∙ ap (λ forms. forms_append forms (members p)) boths) ∙ sym (form_is_chain BothOf p) }

-- members of a chain of `+` were put after those before
record AreOnesRead (u v : Unfinished) (forms : Forms) : Type 0 where
  left : v.left ≡ u.left
  all : forms_and v.ones (both_of v) ≡ forms_append u.ones forms

ones_after : (p : Part (joined OneOf)) (u : Unfinished) → u.seqs ≡ no_forms → u.boths ≡ no_forms → AreOnesRead u (after_part p u) (members p)
ones_after (only k part) u seqs boths =
    let first = both_read part u seqs boths in
    record { left = first.left; all = ap (λ forms. forms_and forms (both_of (after_part part u))) first.ones ∙ ap (λ form. forms_and u.ones form) first.value }
ones_after (join k part chain) u seqs boths =
    let v = after_part part u in
    let first = both_read part u seqs boths in
    let rest = ones_after chain (with_joint OneOf v) refl refl in
    record {
      left = rest.left ∙ first.left;
      all = rest.all ∙ ap (λ forms. forms_append (forms_and forms (both_of v)) (members chain)) first.ones ∙ ap (λ form. forms_append (forms_and u.ones form) (members chain)) first.value
          ∙ forms_append-assoc u.ones (more_forms (form_of_part part) no_forms) (members chain);
    }

one_read : (p : Part (joined OneOf)) (left : Option (Form × Containment)) → whole_of (after_part p (begun left)) ≡ behind_left left (form_of_part p)
one_read p left =
    let v = after_part p (begun left) in
    let read = ones_after p (begun left) refl refl in
    ap (λ side. behind_left side (one_of v)) read.left ∙ ap (λ forms. behind_left left (chain_of OneOf forms)) read.all ∙ ap (behind_left left) (sym (form_is_chain OneOf p))

more_read : (m : Containments) (u : Unfinished) (form : Form) → whole_of u ≡ form → whole_of (after_more m u) ≡ grouped form m
more_read no_more u form is = is
more_read (and_then operator part more) u form is =
    more_read more (after_part part (with_containment operator u)) (containment_form operator form (form_of_part part))
    (one_read part (Some (whole_of u, operator)) ∙ ap (λ left. containment_form operator left (form_of_part part)) is)

query_read : (q : Query) → whole_of (after_query q (begun None)) ≡ form_of_query q
query_read (query part more) = more_read more (after_part part (begun None)) (form_of_part part) (one_read part None)

-- the tokens of a tree lead from what was read before it to what was read after it
mutual
  part_leads : {l : Level} (p : Part l) (rest : List QueryToken) (u : Unfinished) (outers : List Unfinished) → form_from (spelling p rest) u outers ≡ form_from rest (after_part p u) outers
  part_leads (simple form) rest u outers = refl
  part_leads (bracketed q) rest u outers =
      query_leads q (close_bracket ∷ rest) (begun None) (u ∷ outers) ∙ ap (λ form. form_from rest (with_operand u form) outers) (query_read q)
  part_leads (only j part) rest u outers = part_leads part rest u outers
  part_leads (join j part chain) rest u outers = part_leads part (joint j ∷ spelling chain rest) u outers ∙ part_leads chain rest (with_joint j (after_part part u)) outers

  query_leads : (q : Query) (rest : List QueryToken) (u : Unfinished) (outers : List Unfinished) → form_from (query_spelling q rest) u outers ≡ form_from rest (after_query q u) outers
  query_leads (query part more) rest u outers = part_leads part (more_spelling more rest) u outers ∙ more_leads more rest (after_part part u) outers

  more_leads : (m : Containments) (rest : List QueryToken) (u : Unfinished) (outers : List Unfinished) → form_from (more_spelling m rest) u outers ≡ form_from rest (after_more m u) outers
  more_leads no_more rest u outers = refl
  more_leads (and_then operator part more) rest u outers =
      part_leads part (more_spelling more rest) (with_containment operator u) outers ∙ more_leads more rest (after_part part (with_containment operator u)) outers

form_of_tokens : (text : List ℕ) (form : Form) → IsQuery text form → form_from (map token_of (query_tokens text)) (begun None) [] ≡ Some form
form_of_tokens text form is =
    ap (λ tokens. form_from tokens (begun None) []) is.spelled
    ∙ query_leads is.tree [] (begun None) []
    ∙ ap (λ f. Some f) (query_read is.tree ∙ is.stands_for)

form_of_within : (text : List ℕ) (form : Form) → IsQueryWithin text form → query_form text ≡ Some form
form_of_within text form within =
    ap (λ fault. unless fault (form_from (map token_of (query_tokens text)) (begun None) [])) (is_not_refused text form within) ∙ form_of_tokens text form within.is

within_of_form : (text : List ℕ) (form : Form) → query_form text ≡ Some form → IsQueryWithin text form
within_of_form text form is = by_fault (refused text) refl is
  where
    other : (found : (f : Form) × IsQueryWithin text f) → IsQueryWithin text form
    other found = subst (λ f. IsQueryWithin text f) (let same : Some found.0 ≡ Some form = sym (form_of_within text found.0 found.1) ∙ is in cc) found.1

    by_fault : (fault : Option QueryFault) → refused text ≡ fault → unless fault (form_from (map token_of (query_tokens text)) (begun None) []) ≡ Some form → IsQueryWithin text form
    by_fault (Some fault) refusal some = absurd cc
    by_fault None none some = other (not_refused text none)

pub query_forms_are_of_queries : QueryFormsAreOfQueries
query_forms_are_of_queries text form = (within_of_form text form, form_of_within text form)
