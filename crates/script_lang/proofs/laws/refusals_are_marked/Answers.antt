use Rattle.script_lang.proofs.AnswerLemmas.{file_line-plain, gone_line-plain, interval_line-plain, total_line-plain, record_line-plain, merging_line-plain, shards_line-plain, saved_line-plain, opened_line-plain, watch_lines-plain, change_line-plain, refusal_line-marked}
use Rattle.script_lang.proofs.laws.refusals_are_marked.Goals as goal

pub returns : goal.returns
returns c = record {
  refusal = refusal_line-marked;
  file = file_line-plain;
  gone = gone_line-plain;
  interval = interval_line-plain;
  total = total_line-plain;
  listed = record_line-plain;
  merging = merging_line-plain;
  shards = shards_line-plain;
  saved = saved_line-plain;
  opened = opened_line-plain;
  watches = watch_lines-plain;
  change = change_line-plain;
}
