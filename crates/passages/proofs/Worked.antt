-- The definitions computed on small files.
use Rattle.std.specs.Prelude.{◌≡◌, ℕ, List, [], ◌∷◌, ◌++◌, true, false, codes, None, Some, refl}
use Rattle.std.specs.Fmt.{digits}
use Rattle.passages.specs.Lines.{lines_of}
use Rattle.passages.specs.Texts.{lines_text, answers_text, count_text}
use Rattle.passages.specs.declared.passage.Passage.{Passage}
use Rattle.passages.specs.declared.shown.Shown.{Shown}

-- `<p>One two</p>`, newline, `<p>three`, newline, `four <br/> five</p>`, newline
abbrev t : List ℕ
t = codes "<p>One two</p>" ++ 10 ∷ codes "<p>three" ++ 10 ∷ codes "four <br/> five</p>" ++ 10 ∷ []

-- `to be or not to be`, with no newline
abbrev a : List ℕ
a = codes "to be or not to be"

abbrev shown : List ℕ → Shown
shown name = record { name = Some name; numbered = true }

abbrev numbers : Shown
numbers = record { name = None; numbered = true }

abbrev bare : Shown
bare = record { name = None; numbered = false }

abbrev p : ℕ → ℕ → Passage
p from to = record { from = from; to = to }

a_file_without_a_newline_is_one_line : lines_of a ≡ record { number = 1; from = 0; bytes = a } ∷ []
a_file_without_a_newline_is_one_line = refl

a_newline_is_an_empty_line : lines_of (10 ∷ []) ≡ record { number = 1; from = 0; bytes = [] } ∷ []
a_newline_is_an_empty_line = refl

an_empty_file_has_no_line : lines_of [] ≡ []
an_empty_file_has_no_line = refl

two_answers_in_a_line_write_it_once : lines_text (shown (codes "a")) a (p 0 5 ∷ p 13 18 ∷ []) ≡ codes "a:1:to be or not to be" ++ 10 ∷ []
unfolding digits
two_answers_in_a_line_write_it_once = refl

each_answer_by_itself : answers_text (shown (codes "a")) a (p 0 5 ∷ p 13 18 ∷ []) ≡ codes "a:1:to be" ++ 10 ∷ codes "a:1:to be" ++ 10 ∷ []
unfolding digits
each_answer_by_itself = refl

an_answer_meets_two_lines : lines_text (shown (codes "t")) t (p 15 43 ∷ []) ≡ codes "t:2:<p>three" ++ 10 ∷ codes "t:3:four <br/> five</p>" ++ 10 ∷ []
unfolding digits
an_answer_meets_two_lines = refl

further_lines_have_another_mark : answers_text (shown (codes "t")) t (p 15 43 ∷ []) ≡ codes "t:2:<p>three" ++ 10 ∷ codes "t-3-four <br/> five</p>" ++ 10 ∷ []
unfolding digits
further_lines_have_another_mark = refl

parts_begin_and_end_within_lines : answers_text (shown (codes "t")) t (p 7 39 ∷ []) ≡ codes "t:1:two</p>" ++ 10 ∷ codes "t-2-<p>three" ++ 10 ∷ codes "t-3-four <br/> five" ++ 10 ∷ []
unfolding digits
parts_begin_and_end_within_lines = refl

both_tokens_of_a_tag_are_its_bytes : answers_text (shown (codes "t")) t (p 29 34 ∷ p 29 34 ∷ []) ≡ codes "t:3:<br/>" ++ 10 ∷ codes "t:3:<br/>" ++ 10 ∷ []
unfolding digits
both_tokens_of_a_tag_are_its_bytes = refl

an_empty_passage_has_an_empty_part : answers_text (shown (codes "e")) [] (p 0 0 ∷ []) ≡ codes "e:1:" ++ 10 ∷ []
unfolding digits
an_empty_passage_has_an_empty_part = refl

an_empty_passage_meets_no_line : lines_text (shown (codes "a")) a (p 0 0 ∷ []) ≡ []
unfolding digits
an_empty_passage_meets_no_line = refl

a_passage_that_ends_with_a_newline_has_no_part_behind_it : answers_text numbers (codes "to" ++ 10 ∷ []) (p 0 3 ∷ []) ≡ codes "1:to" ++ 10 ∷ []
unfolding digits
a_passage_that_ends_with_a_newline_has_no_part_behind_it = refl

numbers_alone : answers_text numbers a (p 0 2 ∷ []) ≡ codes "1:to" ++ 10 ∷ []
unfolding digits
numbers_alone = refl

neither_names_nor_numbers : answers_text bare a (p 9 12 ∷ []) ≡ codes "not" ++ 10 ∷ []
unfolding digits
neither_names_nor_numbers = refl

a_count_of_two : count_text (shown (codes "a")) 2 ≡ codes "a:2" ++ 10 ∷ []
unfolding digits
a_count_of_two = refl
