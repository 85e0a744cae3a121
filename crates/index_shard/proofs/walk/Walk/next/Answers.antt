use Rattle.std.proofs.Common.{sym, subst, ◌∙◌, arith}
use Rattle.index_shard.proofs.Walks.{IsReady, ready_refilled, ready_step}
use Rattle.index_shard.proofs.walk.Walk.next.Given as given
use Rattle.index_shard.proofs.walk.Walk.next.Goals as goal
use Rattle.index_shard.proofs.walk.Walk.next.Goals.{then-self+else-self-block_count, else-self}

ready : (g : given.Over) (c : goal.After-tick g) →
    IsReady c.if-self.self-inside.list c.if-self.self-inside.members c.if-self.self-inside.next_block c.if-self.self-inside.at c.if-self.self-inside.count c.args.self.now
ready g c =
    elim c.if-self.branch [
      | then-self+else-self-block_count w ↦
          let read = w.read_block-self-inside in
          let more = w.if-self-block_count.false in
          let blocks = w.block_count.ensures.value in
          let i = c.self.invariant in
          subst (λ s. IsReady s.list s.members s.next_block s.at s.count c.args.self.now) (sym w.self-inside-is)
          (ready_refilled c.self.inside.list c.self.inside.members read.new.into c.self.inside.next_block c.self.inside.at c.self.inside.count read.result c.args.self.now
          w.if-self.true i.2 (λ e. more (e ∙ sym blocks)) read.ensures.long read.ensures.count read.ensures.members c.self.view_is)
      | else-self w ↦
          let i = c.self.invariant in
          let le = i.0 in
          let more = w.if-self.false in
          subst (λ s. IsReady s.list s.members s.next_block s.at s.count c.args.self.now) (sym w.self-inside-is)
          record { some = omega arith; few = i.1; within = i.2; long = i.3; is = sym c.self.view_is }
    ]

pub invariant_of-self : goal.invariant_of-self
invariant_of-self g c = let r = ready g c in let some = r.some in (omega arith, r.few, r.within, r.long)

pub returns-clause-postings : goal.returns-clause-postings
returns-clause-postings g c = let r = ready g c in ready_step _ _ _ _ _ _ r
