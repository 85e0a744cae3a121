-- What crosses to another thread, a type at a time: one search over all that a closure holds would pass its limit.
use Rattle.std.proofs.Crossing.{crosses}
use denote.Param.Send.{IsSend, IsSync, sendable}
use denote.Ref.{NamedLft}
use denote.RattleType.{RattleType}
use Rattle.gcl_model.proofs.expr.Expr.TheLaws.TheKnot.{send-Expr, sync-Expr, both_send-Expr}
use Rattle.gcl_model.proofs.bytes.Bytes.TheSendSync.{the_send as bytes_send, the_sync as bytes_sync}
use Rattle.gcl_model.proofs.token_list.TokenList.TheSendSync.{the_send as tokens_send, the_sync as tokens_sync}
use Rattle.gcl_parser.proofs.fault.QueryFault.TheSendSync.{the_sync as fault_sync}
use Rattle.query_search.proofs.Crossings.{listing_send}
use Rattle.query_lanes.specs.contracts.asks.Ask as ask
use Rattle.query_lanes.specs.contracts.context.Dealt as dealt
use Rattle.query_lanes.specs.contracts.lane.Work as work

pub work_send : IsSend work.the_row
work_send = search (listing_send, sendable, crosses) depth 100 fits 100000

ask_sync : IsSync ask.the_row
ask_sync = search (send-Expr, sync-Expr, both_send-Expr, bytes_send, bytes_sync, tokens_send, tokens_sync, fault_sync, sendable, crosses) depth 100 fits 100000

pub dealt_sync : (a : NamedLft) (G : RattleType) → IsSync G → IsSync (dealt.the_row a G)
dealt_sync a G s = search (ask_sync, sendable, crosses) depth 100 fits 100000
