-- The definitions computed on small queries.
use Rattle.std.specs.Prelude.{◌≡◌, false, [], ◌∷◌, codes, Ok, Err, Some, refl}
use Rattle.query_names.specs.Names.{Defined, is_name, name_of, text_under}
use Rattle.query_names.specs.PutIn.{put_in, put_from}
use Rattle.query_names.specs.declared.fault.NameFault.TheVariants.{Unknown, TooLong}

abbrev defined : Defined
defined = (codes "x", codes "\"be\"") ∷ (codes "line", codes "\"a\"..\"b\"") ∷ (codes "x", codes "\"to\"") ∷ []

a_name_ends_where_no_name_byte_is : name_of (codes "line_2 > $x") ≡ codes "line_2"
a_name_ends_where_no_name_byte_is = refl

a_name_begins_with_a_letter : is_name (codes "2a") ≡ false
a_name_begins_with_a_letter = refl

of_two_definitions_the_later_counts : text_under defined (codes "x") ≡ Some (codes "\"be\"")
of_two_definitions_the_later_counts = refl

names_are_put_in_in_brackets : put_in defined (codes "$line > $x") ≡ Ok (codes "(\"a\"..\"b\") > (\"be\")")
names_are_put_in_in_brackets = refl

no_name_is_read_within_quotes : put_in defined (codes "\"$x\"$x") ≡ Ok (codes "\"$x\"(\"be\")")
no_name_is_read_within_quotes = refl

a_name_that_is_not_defined_is_refused_at_its_place : put_in defined (codes "$x+$lines") ≡ Err (Unknown 3)
a_name_that_is_not_defined_is_refused_at_its_place = refl

nothing_behind_the_mark_is_no_name : put_in defined (codes "$") ≡ Err (Unknown 0)
nothing_behind_the_mark_is_no_name = refl

the_place_where_there_is_no_more_room_is_refused : put_from defined false 0 0 7 (codes "$x+$x") ≡ Err (TooLong 3)
the_place_where_there_is_no_more_room_is_refused = refl
