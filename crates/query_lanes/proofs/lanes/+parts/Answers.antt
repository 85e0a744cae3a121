use Rattle.std.proofs.Common.{◌≡◌, ℕ, ◌+◌, ◌++◌, List, length, rules, subst}
use Rattle.std.proofs.Crossing.{crosses}
use Rattle.std.specs.Borrow.{usize}
use denote.Param.Send.{IsSend, IsSync, arg_send, param_send, sendable}
use denote.Exit.{no}
use denote.Param.{param}
use denote.Ref.{NamedLft, ShrRef}
use denote.Slice.{MutSlice}
use denote.Struct.Tuple.{TupleAt}
use denote.RattleType.{RattleType}
use mathlib.Core.List.{[], ◌∷◌}
use mir.Syntax.{Lifetime, Sym}
use base.Fml.{Lft}
use Rattle.manifest_publish.proofs.reader.Reader.TheSendSync.{the_send as reader_send}
use Rattle.manifest_publish.specs.Accounts.{ReaderContent}
use Rattle.query_lanes.specs.declared.lane.Work.{Work}
use Rattle.query_lanes.specs.inner.Lanes.{AreRun}
use Rattle.query_lanes.proofs.Crossings.{work_send, dealt_sync}
use Rattle.query_lanes.proofs.LaneLemmas.{runs_together}
use Rattle.manifest_publish.specs.contracts.reader.Reader as reader
use Rattle.query_lanes.specs.contracts.context.Dealt as dealt
use Rattle.query_lanes.specs.contracts.lane.Work as work
use Rattle.query_lanes.proofs.lanes.+parts.Goals as goal
use Rattle.query_lanes.proofs.lanes.+parts.Lts-run_parts as lts

pub run_lanes-returns : goal.run_lanes-returns
run_lanes-returns g t c =
    let low : List ReaderContent = c.split_at_mut-readers_low.result.0.now in
    let high : List ReaderContent = c.split_at_mut-readers_low.result.1.now in
    let up : ℕ = c.args.from + 1 in
    let half : up ≡ c.args.from + length low = search rules in
    let all : low ++ high ≡ c.args.readers.now = search rules in
    let readers : List ReaderContent = c.run_parts.new.readers_low ++ c.run_parts.new.readers_high in
    let works : List Work = c.run_parts.new.works_low ++ c.run_parts.new.works_high in
    subst (λ (before : List ReaderContent). AreRun c.args.dealt.now.asks.now c.args.dealt.now.lanes c.args.from before readers works) all
    (runs_together c.args.dealt.now.asks.now c.args.dealt.now.lanes c.args.from up low high c.run_parts.new.readers_low c.run_parts.new.readers_high c.run_parts.new.works_low c.run_parts.new.works_high
    half c.run_parts.ensures.low c.run_parts.ensures.high)

closure_send : (ν : Sym) (ℓ₁ ℓ₂ ℓ₃ ℓ₄ : Lifetime) (κ₁ κ₂ κ₃ κ₄ : Lft) (a : NamedLft) (G : RattleType) → IsSync G → IsSend (TupleAt ν (ShrRef ℓ₁ κ₁ (dealt.the_row a G) ∷
    ShrRef ℓ₂ κ₂ usize ∷ MutSlice ℓ₃ κ₃ work.the_row ∷ MutSlice ℓ₄ κ₄ reader.the_row ∷ []))
closure_send ν ℓ₁ ℓ₂ ℓ₃ ℓ₄ κ₁ κ₂ κ₃ κ₄ a G g = search (work_send, dealt_sync, reader_send, sendable, crosses) depth 100 fits 100000

pub run_parts-join_mut-requires-send-F : goal.run_parts-join_mut-requires-send-F
run_parts-join_mut-requires-send-F g t c κs within =
    let gate_sync : IsSync (param 1 g.row.G) = search (t, c.requires) in
    param_send 1 (lts.arg-0-1 g.row.R g.row.G g.R.laws g.G.laws g.R.Threads-dict g.G.Gate-dict κs)
    (arg_send _ no _ (closure_send _ _ _ _ _ _ _ _ _ _ (param 1 g.row.G) gate_sync))
