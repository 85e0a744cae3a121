-- Worked examples of query tokens, refusals and the grammar, computed.
use Rattle.std.specs.Prelude.{◌≡◌, refl, [], ◌∷◌, codes, Some, None, replicate, true, false, ◌++◌}
use Rattle.gcl_model.specs.Forms.{term, phrase, width, seq, both, one, containing, more_forms, no_forms}
use Rattle.gcl_parser.specs.declared.fault.QueryKind.TheVariants.{OperandExpected, OperatorOrCloseExpected, EmptyTerm, BadPrefix, BadWidth, OpenQuote, Character, TooDeep, TooLarge}
use Rattle.gcl_parser.specs.declared.token.Joint.TheVariants.{FollowedBy, BothOf, OneOf}
use Rattle.gcl_model.specs.declared.containment.Containment.TheVariants.{Containing, NotContainedIn}
use Rattle.gcl_parser.specs.QueryTokens.{operand, joint, containment, query_tokens, open_bracket}
use Rattle.gcl_parser.specs.Refusal.{refused, fault_in}
use Rattle.gcl_parser.specs.QueryForm.{query_form}
use Rattle.gcl_parser.specs.Grammar.{simple, bracketed, only, join, query, no_more, and_then, IsQuery}

-- tokens and places
pub a_chain_of_two : query_tokens (codes "\"to\" .. \"be\"")
    ≡ record { at = 0; token = operand (term (codes "to")) } ∷ record { at = 5; token = joint FollowedBy } ∷ record { at = 8; token = operand (term (codes "be")) } ∷ []
a_chain_of_two = refl

pub several_terms_are_a_phrase : query_tokens (codes "\"To be\"") ≡ record { at = 0; token = operand (phrase (codes "to" ∷ codes "be" ∷ [])) } ∷ []
several_terms_are_a_phrase = refl

pub a_boundary_is_spelled_out : query_tokens (codes "\"<file!>\"/<\"</file!>\"")
    ≡ record { at = 0; token = operand (term (codes "<file!>")) } ∷ record { at = 9; token = containment NotContainedIn } ∷ record { at = 11; token = operand (term (codes "</file!>")) } ∷ []
a_boundary_is_spelled_out = refl

pub with_more_it_is_no_boundary : query_tokens (codes "\" <file!>\"") ≡ record { at = 0; token = operand (term (codes "<file>")) } ∷ []
with_more_it_is_no_boundary = refl

pub leading_zeros : query_tokens (codes " [0007]") ≡ record { at = 1; token = operand (width 7) } ∷ []
leading_zeros = refl

pub the_widest : query_tokens (codes "[72057594037927936]") ≡ record { at = 0; token = operand (width 72057594037927936) } ∷ []
the_widest = refl

pub too_wide : refused (codes "[72057594037927937]") ≡ Some record { at = 0; kind = BadWidth }
too_wide = refl

pub forty_digits : refused (codes "[1234567890123456789012345678901234567890]") ≡ Some record { at = 0; kind = BadWidth }
forty_digits = refl

-- refusals
pub a_bracket_stays_open : refused (codes "(\"to\"") ≡ Some record { at = 5; kind = OperatorOrCloseExpected }
a_bracket_stays_open = refl

pub an_operand_is_to_come : refused (codes "\"to\" ..") ≡ Some record { at = 7; kind = OperandExpected }
an_operand_is_to_come = refl

pub a_quoted_text_has_a_term : refused (codes "\"\"") ≡ Some record { at = 0; kind = EmptyTerm }
a_quoted_text_has_a_term = refl

pub no_width_is_zero : refused (codes "[0]") ≡ Some record { at = 0; kind = BadWidth }
no_width_is_zero = refl

pub a_width_is_closed : refused (codes "[5") ≡ Some record { at = 0; kind = BadWidth }
a_width_is_closed = refl

pub nothing_is_no_query : refused [] ≡ Some record { at = 0; kind = OperandExpected }
nothing_is_no_query = refl

pub blanks_are_no_query : refused (codes "  ") ≡ Some record { at = 2; kind = OperandExpected }
blanks_are_no_query = refl

pub operands_are_joined : refused (codes "\"a\" \"b\"") ≡ Some record { at = 4; kind = OperatorOrCloseExpected }
operands_are_joined = refl

pub a_lone_point : refused (codes "\"a\" . \"b\"") ≡ Some record { at = 4; kind = Character }
a_lone_point = refl

pub a_quote_is_closed : refused (codes "\"abc") ≡ Some record { at = 0; kind = OpenQuote }
a_quote_is_closed = refl

pub no_operand_in_front_of_a_bracket : refused (codes "\"a\"^)") ≡ Some record { at = 4; kind = OperandExpected }
no_operand_in_front_of_a_bracket = refl

pub nothing_is_closed_unopened : refused (codes "\"a\")") ≡ Some record { at = 3; kind = OperatorOrCloseExpected }
nothing_is_closed_unopened = refl

-- what is no token comes before what the state wants
pub a_broken_token_comes_first : refused (codes "\"a\" [x]") ≡ Some record { at = 4; kind = BadWidth }
a_broken_token_comes_first = refl

pub thirteen_brackets : refused (replicate 13 40) ≡ Some record { at = 12; kind = TooDeep }
thirteen_brackets = refl

pub twelve_brackets : refused (replicate 12 40 ++ codes "[1]" ++ replicate 12 41) ≡ None
twelve_brackets = refl

-- 256 operands pass
pub the_last_operand : fault_in true 0 255 (operand (width 1)) ≡ None
the_last_operand = refl

pub an_operand_too_many : fault_in true 0 256 (operand (width 1)) ≡ Some TooLarge
an_operand_too_many = refl

-- what the state wants comes before the limits
pub state_before_size : fault_in false 0 256 (operand (width 1)) ≡ Some OperatorOrCloseExpected
state_before_size = refl

pub state_before_depth : fault_in false 12 0 open_bracket ≡ Some OperatorOrCloseExpected
state_before_depth = refl

pub no_fault : refused (codes "(\"a\" + [3]) /< \"b c\"") ≡ None
no_fault = refl

-- the grammar: `..` binds more than `^`, and `^` more than `+`
pub sequence_before_both : IsQuery (codes "\"to\"..\"be\"^\"not\"")
    (both (more_forms (seq (more_forms (term (codes "to")) (more_forms (term (codes "be")) no_forms))) (more_forms (term (codes "not")) no_forms)))
sequence_before_both = record {
  tree = query (only OneOf (join BothOf (join FollowedBy (simple (term (codes "to"))) (only FollowedBy (simple (term (codes "be"))))) (only BothOf (only FollowedBy (simple (term (codes "not"))))))) no_more;
  spelled = refl;
  stands_for = refl;
}

pub both_before_one : IsQuery (codes "\"to\" + \"be\" ^ \"not\"")
    (one (more_forms (term (codes "to")) (more_forms (both (more_forms (term (codes "be")) (more_forms (term (codes "not")) no_forms))) no_forms)))
both_before_one = record {
  tree = query (join OneOf (only BothOf (only FollowedBy (simple (term (codes "to"))))) (only OneOf (join BothOf (only FollowedBy (simple (term (codes "be")))) (only BothOf (only FollowedBy (simple (term (codes "not")))))))) no_more;
  spelled = refl;
  stands_for = refl;
}

-- containments group from the left
pub containments_from_the_left : IsQuery (codes "[2] > \"to\" > \"be\"") (containing (containing (width 2) (term (codes "to"))) (term (codes "be")))
containments_from_the_left = record {
  tree = query (only OneOf (only BothOf (only FollowedBy (simple (width 2)))))
      (and_then Containing (only OneOf (only BothOf (only FollowedBy (simple (term (codes "to"))))))
      (and_then Containing (only OneOf (only BothOf (only FollowedBy (simple (term (codes "be")))))) no_more));
  spelled = refl;
  stands_for = refl;
}

-- a chain of three is one node, and a chain in brackets is one member of the chain around it
pub brackets_stay : IsQuery (codes "(\"a\"^\"b\")^\"c\"")
    (both (more_forms (both (more_forms (term (codes "a")) (more_forms (term (codes "b")) no_forms))) (more_forms (term (codes "c")) no_forms)))
brackets_stay = record {
  tree = query (only OneOf (join BothOf (only FollowedBy (bracketed (query (only OneOf (join BothOf (only FollowedBy (simple (term (codes "a")))) (only BothOf (only FollowedBy (simple (term (codes "b"))))))) no_more)))
      (only BothOf (only FollowedBy (simple (term (codes "c"))))))) no_more;
  spelled = refl;
  stands_for = refl;
}

pub three_in_one_node : IsQuery (codes "\"a\"^\"b\"^\"c\"") (both (more_forms (term (codes "a")) (more_forms (term (codes "b")) (more_forms (term (codes "c")) no_forms))))
three_in_one_node = record {
  tree = query (only OneOf (join BothOf (only FollowedBy (simple (term (codes "a")))) (join BothOf (only FollowedBy (simple (term (codes "b")))) (only BothOf (only FollowedBy (simple (term (codes "c")))))))) no_more;
  spelled = refl;
  stands_for = refl;
}

-- forms, computed
pub the_tightest_joint_first : query_form (codes "\"to\"..\"be\"^[3]")
    ≡ Some (both (more_forms (seq (more_forms (term (codes "to")) (more_forms (term (codes "be")) no_forms))) (more_forms (width 3) no_forms)))
the_tightest_joint_first = refl

pub a_chain_has_all_its_members : query_form (codes "[1]+[2]+[3]") ≡ Some (one (more_forms (width 1) (more_forms (width 2) (more_forms (width 3) no_forms))))
a_chain_has_all_its_members = refl

pub a_containment_has_all_before_it_on_its_left : query_form (codes "[1]>[2]>[3]") ≡ Some (containing (containing (width 1) (width 2)) (width 3))
a_containment_has_all_before_it_on_its_left = refl

pub brackets_first : query_form (codes "[1]..([2]>[3])") ≡ Some (seq (more_forms (width 1) (more_forms (containing (width 2) (width 3)) no_forms)))
brackets_first = refl

pub no_form_of_a_refused_text : query_form (codes "([1]") ≡ None
no_form_of_a_refused_text = refl

-- prefix terms
pub a_word_with_a_star_is_a_prefix_term : query_tokens (codes "\"To\"*^[2]")
    ≡ record { at = 0; token = operand (term (codes "to*")) } ∷ record { at = 5; token = joint BothOf } ∷ record { at = 6; token = operand (width 2) } ∷ []
a_word_with_a_star_is_a_prefix_term = refl

pub separators_are_no_part_of_a_prefix : query_form (codes "\"< to!\"*") ≡ Some (term (codes "to*"))
separators_are_no_part_of_a_prefix = refl

pub a_prefix_is_one_word : refused (codes "\"to be\"*") ≡ Some record { at = 0; kind = BadPrefix }
a_prefix_is_one_word = refl

pub a_prefix_is_no_tag : refused (codes "[1]..\"<t>\"*") ≡ Some record { at = 5; kind = BadPrefix }
a_prefix_is_no_tag = refl

-- with a `*` the text of a boundary token is cut as any other
pub a_prefix_is_no_boundary : refused (codes "\"<file!>\"*") ≡ Some record { at = 0; kind = BadPrefix }
a_prefix_is_no_boundary = refl

pub an_empty_prefix_is_an_empty_term : refused (codes "\"\"*") ≡ Some record { at = 0; kind = EmptyTerm }
an_empty_prefix_is_an_empty_term = refl

-- a bad prefix comes before what the state wants
pub a_bad_prefix_comes_first : refused (codes "\"a\" \"b c\"*") ≡ Some record { at = 4; kind = BadPrefix }
a_bad_prefix_comes_first = refl

pub the_star_follows_at_once : refused (codes "\"to\" *") ≡ Some record { at = 5; kind = Character }
the_star_follows_at_once = refl

pub one_star_is_enough : refused (codes "\"a\"**") ≡ Some record { at = 4; kind = Character }
one_star_is_enough = refl
