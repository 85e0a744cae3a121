-- For proofs alone: what is known while a text is read from the left.
use Rattle.std.specs.Prelude.{◌≡◌, ℕ, ◌≢◌, ◌+◌, ◌-◌, ◌≤◌, Bool, true, false, ◌||◌, List, [], ◌∷◌, Option, None, Some, if◌then◌else◌}
use Rattle.gcl_model.specs.Limits.{most_brackets}
use Rattle.gcl_model.specs.Forms.{Form}
use Rattle.gcl_parser.specs.declared.fault.QueryFault.{QueryFault}
use Rattle.gcl_parser.specs.declared.fault.QueryKind.{QueryKind}
use Rattle.gcl_parser.specs.declared.state.State.{State}
use Rattle.gcl_parser.specs.declared.token.Joint.{Joint}
use Rattle.gcl_parser.specs.declared.token.Joint.TheVariants.{FollowedBy, BothOf, OneOf}
use Rattle.gcl_parser.specs.QueryTokens.{QueryToken, joint, containment, Placed}
use Rattle.gcl_parser.specs.Refusal.{is_operand, is_open, is_close, is_operator, fault_in, fault_at_end, fault_or}
use Rattle.gcl_parser.specs.Grammar.{Level, joined, Part, Query, spelling, query_spelling, form_of_part, form_of_query}

-- whether an operand is to come after this token
abbrev pub wants_behind : QueryToken → Bool
wants_behind token = is_operator token || is_open token

-- how many brackets are open after it
abbrev pub opened_behind : ℕ → QueryToken → ℕ
opened_behind opened token = (if is_open token then opened + 1 else (if is_close token then opened - 1 else opened))

-- how many operands there are with it
abbrev pub count_behind : ℕ → QueryToken → ℕ
count_behind count token = (if is_operand token then count + 1 else count)

-- a token that has no fault leads from one state to the next
pub record IsPassed (before : State) (token : QueryToken) (next : State) : Type 0 where
  pub faultless : fault_in before.wants_operand before.opened before.operands token ≡ None
  pub wants : next.wants_operand ≡ wants_behind token
  pub opened : next.opened ≡ opened_behind before.opened token
  pub count : next.operands ≡ count_behind before.operands token

-- a token has this fault in this state
abbrev pub IsStopped : State → QueryToken → QueryKind → Type 0
IsStopped before token kind = fault_in before.wants_operand before.opened before.operands token ≡ Some kind

-- the first fault of tokens, by the state before them
abbrev pub fault_from : Bool → ℕ → ℕ → ℕ → List Placed → Option QueryFault
fault_from wants opened count end [] = fault_or end (fault_at_end wants opened) None
fault_from wants opened count end (p ∷ ps) =
    fault_or p.at (fault_in wants opened count p.token) (fault_from (wants_behind p.token) (opened_behind opened p.token) (count_behind count p.token) end ps)

-- the tokens have no fault, by the state before them
abbrev pub IsFaultless : Bool → ℕ → ℕ → List QueryToken → Type 0
IsFaultless wants opened count [] = fault_at_end wants opened ≡ None
IsFaultless wants opened count (token ∷ tokens) =
    (fault_in wants opened count token ≡ None) × IsFaultless (wants_behind token) (opened_behind opened token) (count_behind count token) tokens

-- the joints by which a part of the level goes on
abbrev pub goes_on : Level → QueryToken → Bool
goes_on (joined FollowedBy) (joint FollowedBy) = true
goes_on (joined BothOf) (joint FollowedBy) = true
goes_on (joined BothOf) (joint BothOf) = true
goes_on (joined OneOf) (joint j) = true
goes_on level token = false

-- no part of the level goes on with these tokens
abbrev pub Ends : Level → List QueryToken → Type 0
Ends level [] = Unit {0}
Ends level (token ∷ tokens) = goes_on level token ≡ false

-- no query goes on with these tokens
abbrev pub EndsQuery : List QueryToken → Type 0
EndsQuery [] = Unit {0}
EndsQuery (token ∷ tokens) = is_operator token ≡ false

-- tokens at which an operand is to come are without a fault, by some state before them
pub record CanRead (tokens : List QueryToken) : Type 0 where
  pub opened : ℕ
  pub count : ℕ
  pub deep : opened ≤ most_brackets
  pub faultless : IsFaultless true opened count tokens

-- the same, inside a bracket
pub record CanReadInside (tokens : List QueryToken) : Type 0 where
  pub opened : ℕ
  pub count : ℕ
  pub deep : opened + 1 ≤ most_brackets
  pub faultless : IsFaultless true (opened + 1) count tokens

-- a part of the level spells the tokens up to a rest at which it ends, and stands for the form
pub record IsRead (level : Level) (tokens rest : List QueryToken) (form : Form) : Type 0 where
  pub tree : Part level
  pub spelled : tokens ≡ spelling tree rest
  pub stands_for : form ≡ form_of_part tree
  pub ends : Ends level rest

-- the same of a query
pub record IsQueryRead (tokens rest : List QueryToken) (form : Form) : Type 0 where
  pub tree : Query
  pub spelled : tokens ≡ query_spelling tree rest
  pub stands_for : form ≡ form_of_query tree
  pub ends : EndsQuery rest

-- another token than this comes next, or none
abbrev pub IsNotNext : QueryToken → List QueryToken → Type 0
IsNotNext token [] = Unit {0}
IsNotNext token (next ∷ tokens) = next ≢ token

-- no containment comes next
abbrev pub IsNoContainment : List QueryToken → Type 0
IsNoContainment (containment operator ∷ tokens) = ⊥
IsNoContainment tokens = Unit {0}

-- how deep a chain is in a query
abbrev pub rank : Joint → ℕ
rank FollowedBy = 1
rank BothOf = 2
rank OneOf = 3
