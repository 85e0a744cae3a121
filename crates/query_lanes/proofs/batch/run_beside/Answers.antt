use Rattle.std.proofs.Crossing.{crosses}
use denote.Param.Send.{IsSend, IsSync, arg_send, param_send, sendable}
use denote.Exit.{no}
use denote.Param.{param}
use denote.Ref.{NamedLft, ShrRef}
use denote.Slice.{MutSlice}
use denote.Struct.Tuple.{TupleAt}
use mathlib.Core.List.{[], ◌∷◌}
use mir.Syntax.{Lifetime, Sym}
use base.Fml.{Lft}
use denote.RattleType.{RattleType}
use Rattle.manifest_publish.proofs.reader.Reader.TheSendSync.{the_send as reader_send}
use Rattle.query_lanes.specs.contracts.context.Dealt as dealt
use Rattle.query_lanes.specs.contracts.lane.Work as work
use Rattle.manifest_publish.specs.contracts.reader.Reader as reader
use Rattle.query_lanes.proofs.Crossings.{work_send, dealt_sync}
use Rattle.query_lanes.proofs.batch.run_beside.Goals as goal
use Rattle.query_lanes.proofs.batch.run_beside.Lts as lts

closure_send : (ν : Sym) (ℓ₁ ℓ₂ ℓ₃ ℓ₄ : Lifetime) (κ₁ κ₂ κ₃ κ₄ : Lft) (a : NamedLft) (R G : RattleType) → IsSync R → IsSync G → IsSend (TupleAt ν (ShrRef ℓ₁ κ₁ R ∷
    ShrRef ℓ₂ κ₂ (dealt.the_row a G) ∷ MutSlice ℓ₃ κ₃ work.the_row ∷ MutSlice ℓ₄ κ₄ reader.the_row ∷ []))
closure_send ν ℓ₁ ℓ₂ ℓ₃ ℓ₄ κ₁ κ₂ κ₃ κ₄ a R G r g = search (work_send, dealt_sync, reader_send, sendable, crosses) depth 100 fits 100000

pub join_mut-merged-requires-send-F : goal.join_mut-merged-requires-send-F
join_mut-merged-requires-send-F g c κs within =
    let threads_sync : IsSync (param 0 g.row.R) = c.type_bounds.sync-R in
    let gate_sync : IsSync (param 1 g.row.G) = c.type_bounds.sync-G in
    param_send 1 (lts.arg-0-1 g.row.R g.row.G g.R.laws g.G.laws g.R.Threads-dict g.R.Wait-dict g.G.Gate-dict κs)
    (arg_send _ no _ (closure_send _ _ _ _ _ _ _ _ _ _ (param 0 g.row.R) (param 1 g.row.G) threads_sync gate_sync))
