use Rattle.std.proofs.Common.{◌<◌, length, sym, ap, ◌∙◌, subst, rules, map, arith}
use Rattle.std.specs.List.{slice_get}
use Rattle.std.proofs.lemmas.Fn.{always_returns_same}
use Rattle.std.proofs.lemmas.List.{length-map}
use Rattle.index_shard.specs.Tables.{TermEntry}
use Rattle.index_shard.specs.Kept.{AreBytes, entry_in, table_in, order_in}
use Rattle.index_shard.proofs.TableLaws.{searchable, least_met, least_parted}
use Rattle.index_shard.proofs.KeptTables.{kept_searchable, kept_met, kept_parted}
use Rattle.index_shard.proofs.find.place_from.Goals as goal

pub returns-in-Ok : goal.returns-in-Ok
returns-in-Ok c = λ packed long range table.
    let bytes = c.args.bytes.now in
    let entries = c.args.entries.now in
    let low = c.args.low.now in
    let head = c.head_of-head.result in
    let bytes_fit : AreBytes bytes = λ k. omega (arith, c.type_inv.bytes k) in
    let low_fits : AreBytes low = λ k. omega (arith, c.type_inv.low k) in
    let at = c.in-Ok.ensures.position (order_in bytes head low) (always_returns_same _ _ _ (λ a r g called. (search rules, search rules))) in
    let within : c.in-Ok.i < length (table_in bytes packed long entries) = subst (λ n. c.in-Ok.i < n) (sym (length-map entries (entry_in bytes packed long))) c.in-Ok.ensures.bound in
    ap (slice_get (map (λ (entry : TermEntry). entry.term) (table_in bytes packed long entries))) c.behind.ensures
    ∙ least_met range (table_in bytes packed long entries) c.in-Ok.i low c.args.strict table within
    (λ d. kept_met bytes packed long low head entries c.in-Ok.i d bytes_fit low_fits c.head_of-head.ensures c.requires c.in-Ok.ensures.bound at)

pub returns-in-Err : goal.returns-in-Err
returns-in-Err c = λ packed long range table.
    let bytes = c.args.bytes.now in
    let entries = c.args.entries.now in
    let low = c.args.low.now in
    let head = c.head_of-head.result in
    let bytes_fit : AreBytes bytes = λ k. omega (arith, c.type_inv.bytes k) in
    let low_fits : AreBytes low = λ k. omega (arith, c.type_inv.low k) in
    let at = c.in-Err.ensures.position (order_in bytes head low) (always_returns_same _ _ _ (λ a r g called. (search rules, search rules))) in
    let rises = kept_searchable bytes packed long low head entries bytes_fit low_fits c.head_of-head.ensures c.requires (searchable range (table_in bytes packed long entries) low table) in
    least_parted (table_in bytes packed long entries) _ low c.args.strict
    (kept_parted bytes packed long low head entries _ bytes_fit low_fits c.head_of-head.ensures c.requires c.in-Err.ensures.bound (at rises))
