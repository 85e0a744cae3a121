-- The grammar of queries: its trees, what each spells, and the form that it stands for.
use Rattle.std.specs.Prelude.{◌≡◌, ℕ, ◌+◌, ◌≤◌, max, List, [], ◌∷◌, map}
use Rattle.gcl_model.specs.Limits.{most_operands, most_brackets}
use Rattle.gcl_model.specs.Forms.{Form, Forms, both, one, seq, no_forms, more_forms}
use Rattle.gcl_model.specs.FormOf.{containment_form}
use Rattle.gcl_parser.specs.declared.token.Joint.{Joint}
use Rattle.gcl_parser.specs.declared.token.Joint.TheVariants.{FollowedBy, BothOf, OneOf}
use Rattle.gcl_model.specs.declared.containment.Containment.{Containment}
use Rattle.gcl_parser.specs.QueryTokens.{QueryToken, operand, joint, containment, open_bracket, close_bracket, token_of, query_tokens}

-- a single operand, or what a joint joins
pub data Level : Type 0 where
  single : Level
  joined : Joint → Level

-- `..` joins single operands, `^` joins what `..` joined, and `+` what `^` joined
abbrev pub below : Joint → Level
below FollowedBy = single
below BothOf = joined FollowedBy
below OneOf = joined BothOf

mutual
  -- a single operand is a quoted text, a width, or a query in brackets; a chain is one part of the level below,
  -- then any number of its joint and such a part
  pub data Part : Level → Type 0 where
    simple : Form → Part single
    bracketed : Query → Part single
    only : (j : Joint) → Part (below j) → Part (joined j)
    join : (j : Joint) → Part (below j) → Part (joined j) → Part (joined j)

  -- a query is one chain of `+`, then any number of a containment and such a chain
  pub data Query : Type 0 where
    query : Part (joined OneOf) → Containments → Query

  -- the containments of a query, each with the chain to its right
  pub data Containments : Type 0 where
    no_more : Containments
    and_then : Containment → Part (joined OneOf) → Containments → Containments

abbrev mutual
  -- the query tokens that a tree spells, in front of others
  pub spelling : {l : Level} → Part l → List QueryToken → List QueryToken
  spelling (simple form) rest = operand form ∷ rest
  spelling (bracketed q) rest = open_bracket ∷ query_spelling q (close_bracket ∷ rest)
  spelling (only j part) rest = spelling part rest
  spelling (join j part chain) rest = spelling part (joint j ∷ spelling chain rest)

  -- those of a query: of two widths with a `>` between them they are three
  pub query_spelling : Query → List QueryToken → List QueryToken
  query_spelling (query part more) rest = spelling part (more_spelling more rest)

  -- those of its containments
  pub more_spelling : Containments → List QueryToken → List QueryToken
  more_spelling no_more rest = rest
  more_spelling (and_then operator part more) rest = containment operator ∷ spelling part (more_spelling more rest)

-- the form of a chain of several members: `..` makes it `seq`, `^` makes it `both`, and `+` makes it `one`
abbrev pub chain_form : Joint → Forms → Form
chain_form FollowedBy members = seq members
chain_form BothOf members = both members
chain_form OneOf members = one members

abbrev mutual
  -- a chain of one member is that member, of several one node of all of them
  pub form_of_part : {l : Level} → Part l → Form
  form_of_part (simple form) = form
  form_of_part (bracketed q) = form_of_query q
  form_of_part (only j part) = form_of_part part
  form_of_part (join j part chain) = chain_form j (more_forms (form_of_part part) (members chain))

  -- the forms that the joint of a chain joins: of `[1]+[2]^[3]` the form of `[1]` and that of `[2]^[3]`
  pub members : {l : Level} → Part l → Forms
  members (simple form) = more_forms form no_forms
  members (bracketed q) = more_forms (form_of_query q) no_forms
  members (only j part) = more_forms (form_of_part part) no_forms
  members (join j part chain) = more_forms (form_of_part part) (members chain)

  -- the form of a query: of its first chain, and of all containments
  pub form_of_query : Query → Form
  form_of_query (query part more) = grouped (form_of_part part) more

  -- containments group from the left: `[1]>[2]>[3]` is `([1]>[2])>[3]`
  pub grouped : Form → Containments → Form
  grouped form no_more = form
  grouped form (and_then operator part more) = grouped (containment_form operator form (form_of_part part)) more

abbrev mutual
  -- how many brackets are in one another: in `(([1])+([2]))` two
  pub nesting : {l : Level} → Part l → ℕ
  nesting (simple form) = 0
  nesting (bracketed q) = query_nesting q + 1
  nesting (only j part) = nesting part
  nesting (join j part chain) = max (nesting part) (nesting chain)

  -- the same of a query
  pub query_nesting : Query → ℕ
  query_nesting (query part more) = max (nesting part) (more_nesting more)

  -- and of its containments
  pub more_nesting : Containments → ℕ
  more_nesting no_more = 0
  more_nesting (and_then operator part more) = max (nesting part) (more_nesting more)

abbrev mutual
  -- how many quoted texts and widths there are: in `[1]+"to"` two
  pub operands : {l : Level} → Part l → ℕ
  operands (simple form) = 1
  operands (bracketed q) = query_operands q
  operands (only j part) = operands part
  operands (join j part chain) = operands part + operands chain

  -- the same of a query
  pub query_operands : Query → ℕ
  query_operands (query part more) = operands part + more_operands more

  -- and of its containments
  pub more_operands : Containments → ℕ
  more_operands no_more = 0
  more_operands (and_then operator part more) = operands part + more_operands more

-- the text is a query that stands for the form: a tree of the grammar spells it
pub record IsQuery (text : List ℕ) (form : Form) : Type 0 where
  pub tree : Query
  pub spelled : map token_of (query_tokens text) ≡ query_spelling tree []
  pub stands_for : form_of_query tree ≡ form

-- the text is such a query within the limits: of brackets in one another, and of quoted texts and widths
pub record IsQueryWithin (text : List ℕ) (form : Form) : Type 0 where
  pub is : IsQuery text form
  pub brackets : query_nesting is.tree ≤ most_brackets
  pub size : query_operands is.tree ≤ most_operands
