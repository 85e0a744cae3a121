use Rattle.std.proofs.Common.{sym, ap, ◌∙◌, subst}
use Rattle.index_shard.specs.Tables.{IsTable, ShardContent}
use Rattle.shard_build.specs.Groups.{table_of}
use Rattle.shard_build.specs.Met.{AreNames, NamesContent, addresses_of, names_of, rows_of}
use Rattle.shard_build.proofs.SeenRows.{rows_rise, rows_found}
use Rattle.shard_build.proofs.Handing.{same_shard}
use Rattle.shard_build.proofs.MapTables.{map_is_table, map_has_words}
use Rattle.shard_build.proofs.names.Names.make.Goals as goal

pub hand_over-requires : goal.hand_over-requires
hand_over-requires c =
    let es = c.self.inside.lists.items in
    let seen = c.sort_seen.new.seen.items in
    let names : AreNames (names_of es seen) = c.sort_seen.ensures.names in
    let have = c.requires.1 in
    let rows = rows_of (names_of es seen) in
    record {
      names = names;
      none = c.in_ok-maker.ensures.table;
      table =
          subst (λ range. IsTable range (table_of rows)) (sym c.in_ok-maker.ensures.range)
          (map_is_table rows c.requires.0 c.args.range have.width (rows_rise es seen names c.sort_seen.ensures.sorted)
          (λ token. rows_found es seen names token ∙ ap (λ (n : NamesContent). addresses_of n token) c.self.view_is ∙ have.lists token));
    }

pub returns-clause-words : goal.returns-clause-words
returns-clause-words c =
    let es = c.self.inside.lists.items in
    let seen = c.sort_seen.new.seen.items in
    let names : AreNames (names_of es seen) = c.sort_seen.ensures.names in
    let rows = rows_of (names_of es seen) in
    let made = same_shard c.finish.result c.args.range (table_of rows) (ap (λ (s : ShardContent). s.range) c.finish.ensures.value ∙ c.hand_over.ensures.range ∙ c.in_ok-maker.ensures.range) (ap (λ (s : ShardContent). s.table) c.finish.ensures.value ∙ c.in_ok-hand_over.ensures.table) in
    λ tokens have.
    map_has_words rows tokens c.finish.result c.args.range.first c.args.range.last have.width have.some made (rows_rise es seen names c.sort_seen.ensures.sorted)
    (λ token. rows_found es seen names token ∙ ap (λ (n : NamesContent). addresses_of n token) c.self.view_is ∙ have.lists token)
