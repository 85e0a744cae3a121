use Rattle.std.proofs.Common.{◌<◌, length, sym, subst, [], rules, arith}
use Rattle.std.proofs.lemmas.Fn.{always_returns_same}
use Rattle.std.proofs.lemmas.List.{length-map}
use Rattle.index_shard.specs.Tables.{TermEntry}
use Rattle.index_shard.specs.Kept.{AreBytes, entry_in, table_in, order_in}
use Rattle.index_shard.proofs.TableLaws.{searchable, place_met, place_parted}
use Rattle.index_shard.proofs.KeptTables.{kept_searchable, kept_met, kept_parted}
use Rattle.index_shard.proofs.find.find_place.Goals as goal

pub returns-in-Ok : goal.returns-in-Ok
returns-in-Ok c = λ packed long range table.
    let bytes = c.args.bytes.now in
    let entries = c.args.entries.now in
    let term = c.args.term.now in
    let head = c.head_of-head.result in
    let bytes_fit : AreBytes bytes = λ k. omega (arith, c.type_inv.bytes k) in
    let term_fits : AreBytes term = λ k. omega (arith, c.type_inv.term k) in
    let at = c.in-Ok.ensures.position (order_in bytes head term) (always_returns_same _ _ _ (λ a r g called. (search rules, search rules))) in
    let d : TermEntry = record { term = []; addresses = [] } in
    let within : c.in-Ok.i < length (table_in bytes packed long entries) = subst (λ n. c.in-Ok.i < n) (sym (length-map entries (entry_in bytes packed long))) c.in-Ok.ensures.bound in
    sym (place_met range (table_in bytes packed long entries) c.in-Ok.i term d table within
    (kept_met bytes packed long term head entries c.in-Ok.i d bytes_fit term_fits c.head_of-head.ensures c.requires c.in-Ok.ensures.bound at))

pub returns-in-Err : goal.returns-in-Err
returns-in-Err c = λ packed long range table.
    let bytes = c.args.bytes.now in
    let entries = c.args.entries.now in
    let term = c.args.term.now in
    let head = c.head_of-head.result in
    let bytes_fit : AreBytes bytes = λ k. omega (arith, c.type_inv.bytes k) in
    let term_fits : AreBytes term = λ k. omega (arith, c.type_inv.term k) in
    let at = c.in-Err.ensures.position (order_in bytes head term) (always_returns_same _ _ _ (λ a r g called. (search rules, search rules))) in
    let rises = kept_searchable bytes packed long term head entries bytes_fit term_fits c.head_of-head.ensures c.requires (searchable range (table_in bytes packed long entries) term table) in
    sym (place_parted (table_in bytes packed long entries) _ term
    (kept_parted bytes packed long term head entries _ bytes_fit term_fits c.head_of-head.ensures c.requires c.in-Err.ensures.bound (at rises)))
