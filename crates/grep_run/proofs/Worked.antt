-- The definitions computed on small files.
use Rattle.std.specs.Prelude.{◌≡◌, ℕ, List, [], ◌∷◌, ◌++◌, true, codes, Some, refl}
use Rattle.std.specs.Fmt.{digits}
use Rattle.gcl_model.specs.Forms.{Form, seq, term, no_forms, more_forms}
use Rattle.file_answers.specs.declared.mode.Mode.{Mode}
use Rattle.file_answers.specs.declared.mode.Mode.TheVariants.{Lines, Answers, Count, Names}
use Rattle.grep_run.specs.Requests.{Request, file_output}
use Rattle.grep_run.specs.Searches.{form_asked}
use Rattle.grep_run.specs.Visits.{look_ups, searched}

abbrev request : Mode → ℕ → Form → Request
request mode most form = record { mode = mode; named = true; numbered = true; most = most; form = form }

-- `to be or not to be`
abbrev a : List ℕ
a = codes "to be or not to be"

-- `to` followed by `be`
abbrev to_be : Form
to_be = seq (more_forms (term (codes "to")) (more_forms (term (codes "be")) no_forms))

a_query_is_read : form_asked [] (codes "\"to\"..\"be\"") ≡ Some to_be
a_query_is_read = refl

a_query_is_read_with_its_names : form_asked ((codes "x", codes "\"to\"") ∷ []) (codes "$x..\"be\"") ≡ Some to_be
a_query_is_read_with_its_names = refl

lines_are_written_once : file_output (request Lines 9 to_be) (codes "a") a ≡ codes "a:1:to be or not to be" ++ 10 ∷ []
unfolding digits
lines_are_written_once = refl

each_answer_is_written : file_output (request Answers 9 to_be) (codes "a") a ≡ codes "a:1:to be" ++ 10 ∷ codes "a:1:to be" ++ 10 ∷ []
unfolding digits
each_answer_is_written = refl

the_first_answer_alone : file_output (request Answers 1 to_be) (codes "a") a ≡ codes "a:1:to be" ++ 10 ∷ []
unfolding digits
the_first_answer_alone = refl

standard_input_is_shown_by_name : file_output (request Count 9 to_be) (codes "-") a ≡ codes "(standard input):2" ++ 10 ∷ []
unfolding digits
standard_input_is_shown_by_name = refl

a_file_without_answers_has_a_count : file_output (request Count 9 to_be) (codes "e") [] ≡ codes "e:0" ++ 10 ∷ []
unfolding digits
a_file_without_answers_has_a_count = refl

a_file_without_answers_is_not_named : file_output (request Names 9 to_be) (codes "e") [] ≡ []
a_file_without_answers_is_not_named = refl

tags_end_their_passages : file_output (request Answers 9 (term (codes "<br>"))) (codes "t") (codes "four <br/> five") ≡ codes "t:1:<br/>" ++ 10 ∷ []
unfolding digits
tags_end_their_passages = refl

all_parts_are_merged : look_ups (request Lines 9 to_be) (searched a) ≡ 18
all_parts_are_merged = refl
