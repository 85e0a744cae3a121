-- The first place at which a text is no query, and what is wrong there.
use Rattle.std.specs.Prelude.{ℕ, ◌-◌, Bool, true, false, not, ◌&&◌, ◌||◌, nat_le, List, [], ◌∷◌, length, Option, Some, None, if◌then◌else◌}
use Rattle.std.specs.List.{count_by}
use Rattle.gcl_model.specs.Limits.{most_operands, most_brackets}
use Rattle.gcl_parser.specs.declared.fault.QueryKind.{QueryKind}
use Rattle.gcl_parser.specs.declared.fault.QueryKind.TheVariants.{OperandExpected, OperatorOrCloseExpected, TooLarge, TooDeep}
use Rattle.gcl_parser.specs.declared.fault.QueryFault.{QueryFault}
use Rattle.gcl_parser.specs.QueryTokens.{QueryToken, operand, joint, containment, open_bracket, close_bracket, broken, Placed, query_tokens}

-- a quoted text or a width
abbrev pub is_operand : QueryToken → Bool
is_operand (operand form) = true
is_operand _ = false

-- `(`
abbrev pub is_open : QueryToken → Bool
is_open open_bracket = true
is_open _ = false

-- `)`
abbrev pub is_close : QueryToken → Bool
is_close close_bracket = true
is_close _ = false

-- a joint or a containment
abbrev pub is_operator : QueryToken → Bool
is_operator (joint j) = true
is_operator (containment operator) = true
is_operator _ = false

-- an operand is to come first of all, and after an operator or an open bracket; the nearest token is first in the list
abbrev pub wants_operand : List QueryToken → Bool
wants_operand [] = true
wants_operand (nearest ∷ before) = is_operator nearest || is_open nearest

-- how many brackets were opened and not closed
abbrev pub open_count : List QueryToken → ℕ
open_count before = count_by is_open before - count_by is_close before

-- how many quoted texts and widths there are
abbrev pub operand_count : List QueryToken → ℕ
operand_count before = count_by is_operand before

-- what is wrong with a token, by the first rule that it breaks, given whether an operand is to come, how many brackets
-- are open and how many operands come before
abbrev pub fault_in : Bool → ℕ → ℕ → QueryToken → Option QueryKind
fault_in wants opened count (broken kind) = Some kind
fault_in wants opened count token =
    if wants && not (is_operand token || is_open token) then Some OperandExpected
    else if not wants && not (is_operator token || (is_close token && nat_le 1 opened)) then Some OperatorOrCloseExpected
    else if is_open token && nat_le most_brackets opened then Some TooDeep
    else if is_operand token && nat_le most_operands count then Some TooLarge
    else None

-- what is wrong with the end of the text
abbrev pub fault_at_end : Bool → ℕ → Option QueryKind
fault_at_end wants opened =
    if wants then Some OperandExpected
    else if nat_le 1 opened then Some OperatorOrCloseExpected
    else None

-- a fault at the place, or else the later one
abbrev pub fault_or : ℕ → Option QueryKind → Option QueryFault → Option QueryFault
fault_or at None later = later
fault_or at (Some kind) later = Some record { at = at; kind = kind }

-- the first fault of tokens that come after others, in a text that ends at a place
abbrev pub first_fault : List QueryToken → ℕ → List Placed → Option QueryFault
first_fault before end [] = fault_or end (fault_at_end (wants_operand before) (open_count before)) None
first_fault before end (p ∷ ps) =
    fault_or p.at (fault_in (wants_operand before) (open_count before) (operand_count before) p.token) (first_fault (p.token ∷ before) end ps)

-- the first fault of a text: of `"to" ..` it is an operand expected at 7, and of `"to"` there is none
abbrev pub refused : List ℕ → Option QueryFault
refused text = first_fault [] (length text) (query_tokens text)
