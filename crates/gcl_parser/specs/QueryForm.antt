-- The form of a text that is not refused, by one pass over its query tokens.
use Rattle.std.specs.Prelude.{ℕ, List, [], ◌∷◌, map, Option, Some, None}
use Rattle.gcl_model.specs.Forms.{Form, Forms, no_forms, more_forms}
use Rattle.gcl_parser.specs.declared.fault.QueryFault.{QueryFault}
use Rattle.gcl_parser.specs.declared.token.Joint.{Joint}
use Rattle.gcl_parser.specs.declared.token.Joint.TheVariants.{FollowedBy, BothOf, OneOf}
use Rattle.gcl_model.specs.declared.containment.Containment.{Containment}
use Rattle.gcl_parser.specs.QueryTokens.{QueryToken, operand, joint, containment, open_bracket, close_bracket, broken, token_of, query_tokens}
use Rattle.gcl_model.specs.FormOf.{containment_form}
use Rattle.gcl_parser.specs.Grammar.{chain_form}
use Rattle.gcl_parser.specs.Refusal.{refused}

-- the forms of two lists, one after the other
abbrev pub forms_append : Forms → Forms → Forms
forms_append no_forms others = others
forms_append (more_forms form forms) others = more_forms form (forms_append forms others)

-- one more form at the end
abbrev pub forms_and : Forms → Form → Forms
forms_and forms form = forms_append forms (more_forms form no_forms)

-- a chain of one member is that member, of several a node of all of them
abbrev pub chain_of : Joint → Forms → Form
chain_of j (more_forms form no_forms) = form
chain_of j forms = chain_form j forms

-- What was read so far inside one pair of brackets: the left side of the last containment, the members so far of the chain of `+`
-- to its right, those of the chain of `^` that becomes the next member of that, and those of the chain of `..` that becomes the next
-- member of that. Of `[1] > [2] + [3] ^ [4] .. [5]` these are `[1]` with `>`; `[2]`; `[3]`; and `[4]` with `[5]`
pub record Unfinished : Type 0 where
  pub left : Option (Form × Containment)
  pub ones : Forms
  pub boths : Forms
  pub seqs : Forms

-- nothing was read yet, except this left side
abbrev pub begun : Option (Form × Containment) → Unfinished
begun left = record { left = left; ones = no_forms; boths = no_forms; seqs = no_forms }

-- the chain of `..` as it is so far
abbrev pub seq_of : Unfinished → Form
seq_of u = chain_of FollowedBy u.seqs

-- the chain of `^`, with that as its last member
abbrev pub both_of : Unfinished → Form
both_of u = chain_of BothOf (forms_and u.boths (seq_of u))

-- the chain of `+`, with that as its last member
abbrev pub one_of : Unfinished → Form
one_of u = chain_of OneOf (forms_and u.ones (both_of u))

-- a form, or the containment of which it is the right side, if there is a left one
abbrev pub behind_left : Option (Form × Containment) → Form → Form
behind_left None right = right
behind_left (Some left) right = containment_form left.1 left.0 right

-- the form of all that was read
abbrev pub whole_of : Unfinished → Form
whole_of u = behind_left u.left (one_of u)

-- one more operand
abbrev pub with_operand : Unfinished → Form → Unfinished
with_operand u form = record { left = u.left; ones = u.ones; boths = u.boths; seqs = forms_and u.seqs form }

-- a joint ends the chains that bind tighter than it does
abbrev pub with_joint : Joint → Unfinished → Unfinished
with_joint FollowedBy u = u
with_joint BothOf u = record { left = u.left; ones = u.ones; boths = forms_and u.boths (seq_of u); seqs = no_forms }
with_joint OneOf u = record { left = u.left; ones = forms_and u.ones (both_of u); boths = no_forms; seqs = no_forms }

-- a containment ends all chains, and its left side is all that was read
abbrev pub with_containment : Containment → Unfinished → Unfinished
with_containment operator u = begun (Some (whole_of u, operator))

-- The form of all tokens, by those that are left: what was read so far inside the nearest bracket that is open, and inside each of
-- those around it, the nearest first. None if the brackets do not match
abbrev pub form_from : List QueryToken → Unfinished → List Unfinished → Option Form
form_from [] u [] = Some (whole_of u)
form_from [] u (outer ∷ outers) = None
form_from (operand form ∷ tokens) u outers = form_from tokens (with_operand u form) outers
form_from (joint j ∷ tokens) u outers = form_from tokens (with_joint j u) outers
form_from (containment operator ∷ tokens) u outers = form_from tokens (with_containment operator u) outers
form_from (open_bracket ∷ tokens) u outers = form_from tokens (begun None) (u ∷ outers)
form_from (close_bracket ∷ tokens) u [] = None
form_from (close_bracket ∷ tokens) u (outer ∷ outers) = form_from tokens (with_operand outer (whole_of u)) outers
form_from (broken kind ∷ tokens) u outers = None

-- a form, if there is no fault
abbrev pub unless : Option QueryFault → Option Form → Option Form
unless None form = form
unless (Some fault) form = None

-- the form that a text stands for, and none if it is refused: of `"to".."be"` it is `to` followed by `be`
abbrev pub query_form : List ℕ → Option Form
query_form text = unless (refused text) (form_from (map token_of (query_tokens text)) (begun None) [])
