-- A search and its listing may go to another thread.
use Rattle.std.proofs.Crossing.{crosses}
use denote.Param.Send.{IsSend, sendable}
use Rattle.gcl_model.proofs.expr.Expr.TheLaws.TheKnot.{send-Expr, sync-Expr, both_send-Expr}
use Rattle.gcl_model.proofs.bytes.Bytes.TheSendSync.{the_send as bytes_send, the_sync as bytes_sync}
use Rattle.gcl_model.proofs.token_list.TokenList.TheSendSync.{the_send as tokens_send, the_sync as tokens_sync}
use Rattle.gcl_model.proofs.interval_list.IntervalList.TheSendSync.{the_send as list_send}
use Rattle.gcl_cursor.proofs.cursor.Cursor.TheSendSync.{the_send as cursor_send}
use Rattle.manifest_publish.proofs.pass.Pass.TheSendSync.{the_send as pass_send}
use Rattle.prefix_leaves.proofs.table.PrefixTable.TheSendSync.{the_send as table_send}
use Rattle.prefix_leaves.proofs.terms.PrefixTerms.TheSendSync.{the_send as terms_send}
use Rattle.query_search.specs.contracts.query.Query as query
use Rattle.query_search.specs.contracts.query_pages.QueryPages as paged
use Rattle.query_search.specs.contracts.merging.Merging as merging
use Rattle.query_search.specs.contracts.search.Search as searched
use Rattle.query_search.specs.contracts.listing.Listing as listed

query_send : IsSend query.the_row
query_send = search (pass_send, table_send, send-Expr, sync-Expr, both_send-Expr, bytes_send, bytes_sync, tokens_send, tokens_sync, sendable, crosses) depth 100 fits 100000

pages_send : IsSend paged.the_row
pages_send = search (query_send, cursor_send, sendable, crosses) depth 100 fits 100000

merging_send : IsSend merging.the_row
merging_send = search (pass_send, terms_send, send-Expr, sync-Expr, both_send-Expr, bytes_send, bytes_sync, tokens_send, tokens_sync, sendable, crosses) depth 100 fits 100000

search_send : IsSend searched.the_row
search_send = search (pages_send, merging_send, sendable, crosses) depth 100 fits 100000

pub listing_send : IsSend listed.the_row
listing_send = search (search_send, list_send, sendable, crosses) depth 100 fits 100000
