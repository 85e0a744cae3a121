-- How what was read grows, token by token.
use Rattle.std.proofs.Common.{◌≡◌, ℕ, ◌+◌, ◌<◌, ◌≤◌, true, false, List, [], ◌∷◌, ◌++◌, map, length, None, Result, Ok, Err, IfOk, refl, sym, ap, subst, ◌∙◌, arith}
use Rattle.std.specs.Result.{IsErrAnd}
use Rattle.gcl_model.specs.Limits.{most_operands, most_brackets}
use Rattle.gcl_model.specs.declared.expr.Expr.{Expr}
use Rattle.gcl_model.specs.Forms.{Form, no_forms, more_forms}
use Rattle.gcl_model.specs.FormOf.{form_of, forms_from}
use Rattle.gcl_parser.specs.declared.token.Joint.{Joint}
use Rattle.gcl_parser.specs.declared.token.Joint.TheVariants.{OneOf}
use Rattle.gcl_model.specs.declared.containment.Containment.{Containment}
use Rattle.gcl_parser.specs.declared.token.Token.TheVariants as T
use Rattle.gcl_parser.specs.declared.token.PlacedToken.{PlacedToken}
use Rattle.gcl_parser.specs.declared.parsed.Parsed.{Parsed}
use Rattle.gcl_parser.specs.QueryTokens.{QueryToken, operand, joint, containment, open_bracket, close_bracket, broken, token_of, query_tokens}
use Rattle.gcl_parser.specs.Refusal.{refused}
use Rattle.gcl_parser.specs.Scanned.{shown, IsNext, tokens_from, bare_from}
use Rattle.gcl_parser.specs.Reading.{IsFaultless, Ends, EndsQuery, CanRead, CanReadInside, IsNotNext}
use Rattle.gcl_parser.specs.QueryForm.{forms_and}
use Rattle.gcl_parser.specs.Parsed.{IsParsed, IsQueryParsed, IsBracketParsed}
use Rattle.gcl_model.specs.FormOf.{containment_form}
use Rattle.gcl_parser.specs.Grammar.{single, joined, below, Part, simple, bracketed, only, join, Query, query, Containments, no_more, and_then, spelling, query_spelling, more_spelling, form_of_part, form_of_query, members, grouped, chain_form, operands, query_operands, query_nesting, IsQueryWithin}
use Rattle.gcl_parser.proofs.Faults.{end_is_open, refused_is, none_faultless}
use Rattle.gcl_parser.proofs.Trees.{part_behind, query_behind, ends_single}
use Rattle.gcl_parser.proofs.Derives.{After, goes, stops, after}

-- one more member at the end of a chain
abbrev pub snoc : (j : Joint) → Part (joined j) → Part (below j) → Part (joined j)
snoc j (only k first) last = join j first (only j last)
snoc j (join k first chain) last = join j first (snoc j chain last)

snoc_spelling : (j : Joint) (chain : Part (joined j)) (last : Part (below j)) (rest : List QueryToken) → spelling (snoc j chain last) rest ≡ spelling chain (joint j ∷ spelling last rest)
snoc_spelling j (only k first) last rest = refl
snoc_spelling j (join k first chain) last rest = ap (λ ts. spelling first (joint j ∷ ts)) (snoc_spelling j chain last rest)

snoc_members : (j : Joint) (chain : Part (joined j)) (last : Part (below j)) → members (snoc j chain last) ≡ forms_and (members chain) (form_of_part last)
snoc_members j (only k first) last = refl
snoc_members j (join k first chain) last = ap (λ forms. more_forms (form_of_part first) forms) (snoc_members j chain last)

snoc_form : (j : Joint) (chain : Part (joined j)) (last : Part (below j)) → form_of_part (snoc j chain last) ≡ chain_form j (members (snoc j chain last))
snoc_form j (only k first) last = refl
snoc_form j (join k first chain) last = refl

pub forms_push : (exprs : List Expr) (last : Expr) → forms_from (map form_of (exprs ++ last ∷ [])) ≡ forms_and (forms_from (map form_of exprs)) (form_of last)
forms_push [] last = refl
forms_push (expr ∷ exprs) last = ap (λ forms. more_forms (form_of expr) forms) (forms_push exprs last)

-- one more containment at the end of a query
abbrev more_snoc : Containments → Containment → Part (joined OneOf) → Containments
more_snoc no_more operator last = and_then operator last no_more
more_snoc (and_then first part more) operator last = and_then first part (more_snoc more operator last)

abbrev query_snoc : Query → Containment → Part (joined OneOf) → Query
query_snoc (query part more) operator last = query part (more_snoc more operator last)

more_snoc_spelling : (m : Containments) (operator : Containment) (last : Part (joined OneOf)) (rest : List QueryToken) →
    more_spelling (more_snoc m operator last) rest ≡ more_spelling m (containment operator ∷ spelling last rest)
more_snoc_spelling no_more operator last rest = refl
more_snoc_spelling (and_then first part more) operator last rest = ap (λ ts. containment first ∷ spelling part ts) (more_snoc_spelling more operator last rest)

query_snoc_spelling : (q : Query) (operator : Containment) (last : Part (joined OneOf)) (rest : List QueryToken) →
    query_spelling (query_snoc q operator last) rest ≡ query_spelling q (containment operator ∷ spelling last rest)
query_snoc_spelling (query part more) operator last rest = ap (λ ts. spelling part ts) (more_snoc_spelling more operator last rest)

more_snoc_form : (m : Containments) (form : Form) (operator : Containment) (last : Part (joined OneOf)) →
    grouped form (more_snoc m operator last) ≡ containment_form operator (grouped form m) (form_of_part last)
more_snoc_form no_more form operator last = refl
more_snoc_form (and_then first part more) form operator last = more_snoc_form more (containment_form first form (form_of_part part)) operator last

query_snoc_form : (q : Query) (operator : Containment) (last : Part (joined OneOf)) → form_of_query (query_snoc q operator last) ≡ containment_form operator (form_of_query q) (form_of_part last)
query_snoc_form (query part more) operator last = more_snoc_form more (form_of_part part) operator last

-- the placed that is next, without places
pub next_bare : (text : List ℕ) (from : ℕ) (l : PlacedToken) → IsNext text from l → bare_from text from ≡ shown text l.token ∷ bare_from text l.end
next_bare text from l next = ap (λ ps. map token_of ps) next.tokens

-- a chain with the joint after it, which the program has read up to the next place
pub record Chained (j : Joint) (text : List ℕ) (at next : ℕ) (exprs : List Expr) : Type 0 where
  pub tree : Part (joined j)
  pub spelled : bare_from text at ≡ spelling tree (joint j ∷ bare_from text next)
  pub all : members tree ≡ forms_from (map form_of exprs)
  pub can : CanRead (bare_from text next)
  pub later : at < next
  pub within : next ≤ length text

-- after the joint an operand can be read
chain_can : (j : Joint) (text : List ℕ) (at next : ℕ) → CanRead (bare_from text at) → (tree : Part (joined j)) → bare_from text at ≡ spelling tree (joint j ∷ bare_from text next) → CanRead (bare_from text next)
chain_can j text at next can tree spelled =
    let behind = part_behind tree can.opened can.count (joint j ∷ bare_from text next) can.deep
    (subst (λ ts. IsFaultless true can.opened can.count ts) spelled can.faultless) in
    record { opened = can.opened; count = can.count + operands tree; deep = can.deep; faultless = behind.faultless.1 }

pub chain_starts : (j : Joint) (text : List ℕ) (at next : ℕ) (first : Parsed) → CanRead (bare_from text at) → IsParsed (below j) text at first →
    bare_from text first.end ≡ joint j ∷ bare_from text next → first.end < next → next ≤ length text → Chained j text at next (first.expr ∷ [])
chain_starts j text at next first can parsed is lt le =
    let later : at < first.end = parsed.later in
    let spelled : bare_from text at ≡ spelling (only j parsed.read.tree) (joint j ∷ bare_from text next) = parsed.read.spelled ∙ ap (λ ts. spelling parsed.read.tree ts) is in
    record {
      tree = only j parsed.read.tree;
      spelled = spelled;
      all = ap (λ form. more_forms form no_forms) (sym parsed.read.stands_for);
      can = chain_can j text at next can (only j parsed.read.tree) spelled;
      later = omega arith;
      within = le;
    }

-- the chain with a member more
grown : (j : Joint) (text : List ℕ) (at next : ℕ) (exprs : List Expr) (c : Chained j text at next exprs) (rest : List QueryToken) (last : Part (below j)) →
    bare_from text next ≡ spelling last rest → bare_from text at ≡ spelling (snoc j c.tree last) rest
grown j text at next exprs c rest last is =
    c.spelled ∙ ap (λ ts. spelling c.tree (joint j ∷ ts)) is ∙ sym (snoc_spelling j c.tree last rest)

members_grow : (j : Joint) (text : List ℕ) (at next : ℕ) (exprs : List Expr) (c : Chained j text at next exprs) (last : Part (below j)) (expr : Expr) → form_of expr ≡ form_of_part last →
    members (snoc j c.tree last) ≡ forms_from (map form_of (exprs ++ expr ∷ []))
members_grow j text at next exprs c last expr is =
    snoc_members j c.tree last ∙ ap (λ forms. forms_and forms (form_of_part last)) c.all ∙ ap (λ form. forms_and (forms_from (map form_of exprs)) form) (sym is) ∙ sym (forms_push exprs expr)

pub chain_goes_on : (j : Joint) (text : List ℕ) (at next place : ℕ) (exprs : List Expr) (member : Parsed) → CanRead (bare_from text at) → Chained j text at next exprs → IsParsed (below j) text next member →
    bare_from text member.end ≡ joint j ∷ bare_from text place → member.end < place → place ≤ length text → Chained j text at place (exprs ++ member.expr ∷ [])
chain_goes_on j text at next place exprs member can c parsed is lt le =
    let last = parsed.read.tree in
    let spelled = grown j text at next exprs c (joint j ∷ bare_from text place) last (parsed.read.spelled ∙ ap (λ ts. spelling last ts) is) in
    let later : next < member.end = parsed.later in
    let first : at < next = c.later in
    record {
      tree = snoc j c.tree last;
      spelled = spelled;
      all = members_grow j text at next exprs c last member.expr parsed.read.stands_for;
      can = chain_can j text at place can (snoc j c.tree last) spelled;
      later = omega arith;
      within = le;
    }

-- if the joint does not come next the chain ends
ends_chain : (j : Joint) (rest : List QueryToken) → After j rest → IsNotNext (joint j) rest → Ends (joined j) rest
ends_chain j rest (stops others ends) other = ends
ends_chain j rest (goes tail) other = absurd (other refl)

pub chain_ends : (j : Joint) (text : List ℕ) (at next : ℕ) (exprs : List Expr) (member whole : Parsed) → Chained j text at next exprs → IsParsed (below j) text next member →
    IsNotNext (joint j) (bare_from text member.end) → form_of whole.expr ≡ chain_form j (forms_from (map form_of (exprs ++ member.expr ∷ []))) → whole.end ≡ member.end →
    IsParsed (joined j) text at whole
chain_ends j text at next exprs member whole c parsed other form end =
    let last = parsed.read.tree in
    let later : next < member.end = parsed.later in
    let first : at < next = c.later in
    let within : member.end ≤ length text = parsed.within in
    record {
      read = record {
        tree = snoc j c.tree last;
        spelled = grown j text at next exprs c (bare_from text whole.end) last (parsed.read.spelled ∙ ap (λ n. spelling last (bare_from text n)) (sym end));
        stands_for = form ∙ ap (λ forms. chain_form j forms) (sym (members_grow j text at next exprs c last member.expr parsed.read.stands_for)) ∙ sym (snoc_form j c.tree last);
        ends = subst (λ n. Ends (joined j) (bare_from text n)) (sym end)
            (ends_chain j (bare_from text member.end) (after j (bare_from text member.end) parsed.read.ends) other);
      };
      later = omega arith;
      within = omega arith;
    }

pub chain_of_one : (j : Joint) (text : List ℕ) (at : ℕ) (first : Parsed) → IsParsed (below j) text at first → IsNotNext (joint j) (bare_from text first.end) → IsParsed (joined j) text at first
chain_of_one j text at first parsed other = record {
  read = record {
    tree = only j parsed.read.tree;
    spelled = parsed.read.spelled;
    stands_for = parsed.read.stands_for;
    ends = ends_chain j (bare_from text first.end) (after j (bare_from text first.end) parsed.read.ends) other;
  };
  later = parsed.later;
  within = parsed.within;
}

-- a query as far as it was read
pub record QuerySoFar (text : List ℕ) (at : ℕ) (whole : Parsed) : Type 0 where
  pub tree : Query
  pub spelled : bare_from text at ≡ query_spelling tree (bare_from text whole.end)
  pub stands_for : form_of whole.expr ≡ form_of_query tree
  pub ends : Ends (joined OneOf) (bare_from text whole.end)
  pub later : at < whole.end
  pub within : whole.end ≤ length text

pub query_starts : (text : List ℕ) (at : ℕ) (whole : Parsed) → IsParsed (joined OneOf) text at whole → QuerySoFar text at whole
query_starts text at whole parsed = record {
  tree = query parsed.read.tree no_more;
  spelled = parsed.read.spelled;
  stands_for = parsed.read.stands_for;
  ends = parsed.read.ends;
  later = parsed.later;
  within = parsed.within;
}

pub query_goes_on : (text : List ℕ) (at next : ℕ) (operator : Containment) (whole part grown : Parsed) → QuerySoFar text at whole → bare_from text whole.end ≡ containment operator ∷ bare_from text next →
    whole.end < next → IsParsed (joined OneOf) text next part → form_of grown.expr ≡ containment_form operator (form_of whole.expr) (form_of part.expr) → grown.end ≡ part.end → QuerySoFar text at grown
query_goes_on text at next operator whole part grown q is lt parsed form end =
    let last = parsed.read.tree in
    let first : at < whole.end = q.later in
    let later : next < part.end = parsed.later in
    let within : part.end ≤ length text = parsed.within in
    record {
      tree = query_snoc q.tree operator last;
      spelled = q.spelled ∙ ap (λ ts. query_spelling q.tree ts) (is ∙ ap (λ ts. containment operator ∷ ts) (parsed.read.spelled ∙ ap (λ n. spelling last (bare_from text n)) (sym end)))
          ∙ sym (query_snoc_spelling q.tree operator last (bare_from text grown.end));
      stands_for = form ∙ ap (λ f. containment_form operator f (form_of part.expr)) q.stands_for ∙ ap (λ f. containment_form operator (form_of_query q.tree) f) parsed.read.stands_for
          ∙ sym (query_snoc_form q.tree operator last);
      ends = subst (λ n. Ends (joined OneOf) (bare_from text n)) (sym end) parsed.read.ends;
      later = omega arith;
      within = omega arith;
    }

pub query_can : (text : List ℕ) (at next : ℕ) (operator : Containment) (whole : Parsed) → CanRead (bare_from text at) → QuerySoFar text at whole → bare_from text whole.end ≡ containment operator ∷ bare_from text next →
    CanRead (bare_from text next)
query_can text at next operator whole can q is =
    let behind = query_behind q.tree can.opened can.count (containment operator ∷ bare_from text next) can.deep
    (subst (λ ts. IsFaultless true can.opened can.count ts) (q.spelled ∙ ap (λ ts. query_spelling q.tree ts) is) can.faultless) in
    record { opened = can.opened; count = can.count + query_operands q.tree; deep = can.deep; faultless = behind.faultless.1 }

-- a quoted text or a width
pub single_read : (text : List ℕ) (at : ℕ) (l : PlacedToken) (form : Form) (parsed : Parsed) → IsNext text at l → shown text l.token ≡ operand form → form_of parsed.expr ≡ form → parsed.end ≡ l.end →
    IsParsed single text at parsed
single_read text at l form parsed next is form_is end =
    let later : at < l.end = next.later in
    let within : l.end ≤ length text = next.within in
    record {
      read = record {
        tree = simple form;
        spelled = next_bare text at l next ∙ ap (λ t. t ∷ bare_from text l.end) is ∙ ap (λ n. operand form ∷ bare_from text n) (sym end);
        stands_for = form_is;
        ends = ends_single (bare_from text parsed.end);
      };
      later = omega arith;
      within = omega arith;
    }

pub bracket_read : (text : List ℕ) (at : ℕ) (l : PlacedToken) (parsed : Parsed) → IsNext text at l → l.token ≡ T.Open → IsBracketParsed text l.end parsed → IsParsed single text at parsed
bracket_read text at l parsed next is inside =
    let later : at < l.end = next.later in
    let then : l.end < parsed.end = inside.later in
    record {
      read = record {
        tree = bracketed inside.tree;
        spelled = next_bare text at l next ∙ ap (λ t. shown text t ∷ bare_from text l.end) is ∙ ap (λ ts. open_bracket ∷ ts) inside.spelled;
        stands_for = inside.stands_for;
        ends = ends_single (bare_from text parsed.end);
      };
      later = omega arith;
      within = inside.within;
    }

-- after the query in a bracket the bracket is closed
pub data Closed : List QueryToken → Type 0 where
  closes : (tail : List QueryToken) → Closed (close_bracket ∷ tail)

closed : (o c : ℕ) (rest : List QueryToken) → EndsQuery rest → IsFaultless false (o + 1) c rest → Closed rest
closed o c [] ends h = absurd (end_is_open (o + 1) (omega arith) h)
closed o c (operand form ∷ rest) ends h = absurd (let none = h.0 in cc)
closed o c (joint j ∷ rest) ends h = absurd cc
closed o c (containment operator ∷ rest) ends h = absurd cc
closed o c (open_bracket ∷ rest) ends h = absurd (let none = h.0 in cc)
closed o c (close_bracket ∷ rest) ends h = closes rest
closed o c (broken kind ∷ rest) ends h = absurd (let none = h.0 in cc)

pub bracket_closed : (text : List ℕ) (at : ℕ) (inside : Parsed) → CanReadInside (bare_from text at) → IsQueryParsed text at inside → Closed (bare_from text inside.end)
bracket_closed text at inside can parsed =
    let q = parsed.read.tree in
    let behind = query_behind q (can.opened + 1) can.count (bare_from text inside.end) can.deep
    (subst (λ ts. IsFaultless true (can.opened + 1) can.count ts) parsed.read.spelled can.faultless) in
    closed can.opened (can.count + query_operands q) (bare_from text inside.end) parsed.read.ends behind.faultless

not_empty : (tokens : List QueryToken) → Closed tokens → tokens ≡ [] → ⊥
not_empty tokens (closes tail) is = cc

pub not_at_end : (text : List ℕ) (at : ℕ) → Closed (bare_from text at) → tokens_from text at ≡ [] → ⊥
not_at_end text at is none = not_empty (bare_from text at) is (ap (λ ps. map token_of ps) none)

head_closes : (tokens : List QueryToken) → Closed tokens → (token : QueryToken) (rest : List QueryToken) → tokens ≡ token ∷ rest → tokens ≡ close_bracket ∷ rest
head_closes tokens (closes tail) token rest is = cc

pub bracket_ends : (text : List ℕ) (at : ℕ) (inside parsed : Parsed) (close : PlacedToken) → CanReadInside (bare_from text at) → IsQueryParsed text at inside → IsNext text inside.end close →
    parsed.expr ≡ inside.expr → parsed.end ≡ close.end → IsBracketParsed text at parsed
bracket_ends text at inside parsed close can q next expr end =
    let first : at < inside.end = q.later in
    let later : inside.end < close.end = next.later in
    let within : close.end ≤ length text = next.within in
    let here = head_closes (bare_from text inside.end) (bracket_closed text at inside can q) (shown text close.token) (bare_from text close.end) (next_bare text inside.end close next) in
    record {
      tree = q.read.tree;
      spelled = q.read.spelled ∙ ap (λ ts. query_spelling q.read.tree ts) (here ∙ ap (λ n. close_bracket ∷ bare_from text n) (sym end));
      stands_for = ap (λ e. form_of e) expr ∙ q.read.stands_for;
      later = omega arith;
      within = omega arith;
    }

-- after a whole query nothing is left
nothing_left : (c : ℕ) (rest : List QueryToken) → EndsQuery rest → IsFaultless false 0 c rest → rest ≡ []
nothing_left c [] ends h = refl
nothing_left c (operand form ∷ rest) ends h = absurd (let none = h.0 in cc)
nothing_left c (joint j ∷ rest) ends h = absurd cc
nothing_left c (containment operator ∷ rest) ends h = absurd cc
nothing_left c (open_bracket ∷ rest) ends h = absurd (let none = h.0 in cc)
nothing_left c (close_bracket ∷ rest) ends h = absurd (let none = h.0 in cc)
nothing_left c (broken kind ∷ rest) ends h = absurd (let none = h.0 in cc)

not_refused_faultless : (text : List ℕ) → refused text ≡ None → IsFaultless true 0 0 (bare_from text 0)
not_refused_faultless text none = none_faultless true 0 0 (length text) (query_tokens text) (sym (refused_is text) ∙ none)

pub can_start : (text : List ℕ) → refused text ≡ None → CanRead (bare_from text 0)
can_start text none = record { opened = 0; count = 0; deep = omega arith; faultless = not_refused_faultless text none }

pub whole_query : (text : List ℕ) (whole : Parsed) → refused text ≡ None → IsQueryParsed text 0 whole → IsQueryWithin text (form_of whole.expr)
whole_query text whole none parsed =
    let q = parsed.read.tree in
    let behind = query_behind q 0 0 (bare_from text whole.end) (omega arith) (subst (λ ts. IsFaultless true 0 0 ts) parsed.read.spelled (not_refused_faultless text none)) in
    let deep : 0 + query_nesting q ≤ most_brackets = behind.deep in
    let many : 0 + query_operands q ≤ most_operands = behind.many in
    let left = nothing_left (0 + query_operands q) (bare_from text whole.end) parsed.read.ends behind.faultless in
    record {
      is = record { tree = q; spelled = parsed.read.spelled ∙ ap (λ ts. query_spelling q ts) left; stands_for = sym parsed.read.stands_for };
      brackets = omega arith;
      size = omega arith;
    }

-- what is asked of an Ok, at an Err
pub no_value : {T E : Type 0} (P : T → Type 0) (result : Result T E) (Q : E → Type 0) → IsErrAnd result Q → IfOk result P
no_value P (Ok value) Q is = absurd is
no_value P (Err fault) Q is = tt
