-- Answers, worked out.
use Rattle.std.proofs.Common.{◌≡◌, true, false, refl, codes}
use Rattle.gcl_model.specs.Extents.{extent}
use Rattle.std.specs.Fmt.{digits}
use Rattle.script_lang.specs.Answers.{file_line, gone_line, interval_line, total_line, record_line, merging_line, shards_line, saved_line, opened_line, watch_line, unwatched_line, change_line, refusal_line}
use Rattle.script_lang.specs.declared.refusals.Refusal.TheVariants.{NoFile, NotEmpty, NotImage, NoWatch, TooManyWatches, Query}
use Rattle.gcl_parser.specs.declared.fault.QueryKind.TheVariants.{OperatorOrCloseExpected}

file-added : file_line 0 0 7 ≡ codes "file 0 0 7"
unfolding digits
file-added = refl

file-gone : gone_line 12 ≡ codes "gone 12"
unfolding digits
file-gone = refl

interval-listed : interval_line (extent 1 20) ≡ codes "1 20"
unfolding digits
interval-listed = refl

total-of_none : total_line 0 ≡ codes "= 0"
unfolding digits
total-of_none = refl

record-listed : record_line (record { id = 2; base = 10; len = 2; name = codes "a b" }) ≡ codes "2 10 11 a b"
unfolding digits
record-listed = refl

merge-asked_for : merging_line ≡ codes "merging"
merge-asked_for = refl

shards-of_two : shards_line 2 ≡ codes "shards 2"
unfolding digits
shards-of_two = refl

image-saved : saved_line 118 ≡ codes "saved 118"
unfolding digits
image-saved = refl

image-opened : opened_line 0 ≡ codes "opened 0"
unfolding digits
image-opened = refl

watch-begun : watch_line 0 ≡ codes "watch 0"
unfolding digits
watch-begun = refl

watch-ended : unwatched_line 15 ≡ codes "unwatched 15"
unfolding digits
watch-ended = refl

change-came : change_line 0 true (extent 1 2) ≡ codes "+ 0 1 2"
unfolding digits
change-came = refl

change-went : change_line 1 false (extent 3 3) ≡ codes "- 1 3 3"
unfolding digits
change-went = refl

refusal-no_watch : refusal_line (NoWatch 0) ≡ codes "! no watch 0"
unfolding digits
refusal-no_watch = refl

refusal-too_many_watches : refusal_line TooManyWatches ≡ codes "! too many watches"
refusal-too_many_watches = refl

refusal-not_empty : refusal_line NotEmpty ≡ codes "! not empty"
refusal-not_empty = refl

refusal-not_image : refusal_line NotImage ≡ codes "! not an image"
refusal-not_image = refl

refusal-no_file : refusal_line (NoFile 3) ≡ codes "! no file 3"
unfolding digits
refusal-no_file = refl

refusal-query : refusal_line (Query (record { at = 5; kind = OperatorOrCloseExpected })) ≡ codes "! query at 5: operator or close expected"
unfolding digits
refusal-query = refl
