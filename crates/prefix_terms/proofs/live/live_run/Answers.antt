use Rattle.std.proofs.Common.{ℕ, ◌+◌, ◌++◌, ◌∷◌, [], List, true, false, length, take, slice_get, sym, ap, subst, ◌∙◌, arith}
use denote.Ref.{Bor}
use Rattle.std.proofs.lemmas.List.{append-nil, map-append}
use Rattle.index_shard.specs.Tables.{ShardContent}
use Rattle.prefix_terms.specs.Runs.{IsRun, live_in, names, tokens_in}
use Rattle.prefix_terms.proofs.Matches.{cost_more, cost_upto, live_before, live_matches, live_more, live_upto, token_at}
use Rattle.prefix_terms.proofs.live.live_run.Goals as goal
use Rattle.prefix_terms.proofs.live.live_run.Goals.{then-is_live+in_ok-push, else-is_live}

pub loop-place-init : goal.loop-place-init
loop-place-init g c =
    let slot = c.args.slot.now in
    let run = subst (λ (s : ShardContent). IsRun (names s.table) c.args.prefix.now c.run_of-run.result.from c.run_of-run.result.end) c.shard.ensures.value c.run_of-run.ensures.run in
    record {
      words = ap tokens_in c.in_ok-words.ensures.items ∙ sym (live_before slot.mask c.args.prefix.now slot.shard.table c.run_of-run.result.from run.before);
      counted = omega arith;
      cost = omega arith;
    }

pub returns-in_err-push-clause-cost : goal.returns-in_err-push-clause-cost
returns-in_err-push-clause-cost g c =
    let slot = c.args.slot.now in
    let prefix = c.args.prefix.now in
    let place = c.loop-place.place in
    let run = subst (λ (s : ShardContent). IsRun (names s.table) prefix c.run_of-run.result.from c.run_of-run.result.end) c.shard.ensures.value c.run_of-run.ensures.run in
    let from = c.loop-place.auto.place in
    let lt = c.loop-place-test.true in
    let within = run.within in
    let t = token_at (names slot.shard.table) place (omega arith) in
    let before = c.loop-place.invariant.cost in
    let here = c.is_live.ensures.cost in
    let more = cost_more prefix (names slot.shard.table) place t.0 (1 + length slot.mask) t.1 (run.inside place t.0 t.1 from lt) in
    omega (arith, before, here, more, cost_upto prefix (names slot.shard.table) (place + 1) (1 + length slot.mask))

pub loop-place-preserved : goal.loop-place-preserved
loop-place-preserved g c =
    let slot = c.args.slot.now in
    let prefix = c.args.prefix.now in
    let place = c.loop-place.place in
    let run = subst (λ (s : ShardContent). IsRun (names s.table) prefix c.run_of-run.result.from c.run_of-run.result.end) c.shard.ensures.value c.run_of-run.ensures.run in
    let from = c.loop-place.auto.place in
    let lt = c.loop-place-test.true in
    let within = run.within in
    let t = token_at (names slot.shard.table) place (omega arith) in
    let begins = run.inside place t.0 t.1 from lt in
    let before = c.loop-place.invariant.cost in
    let here = c.is_live.ensures.cost in
    let counted = c.loop-place.invariant.counted in
    let on = c.is_live.ensures.counted in
    let more = cost_more prefix (names slot.shard.table) place t.0 (1 + length slot.mask) t.1 begins in
    record {
      words = elim c.if-is_live.branch [
        | then-is_live+in_ok-push w ↦
            let at = ap (λ (s : ShardContent). slice_get (names s.table) place) (sym w.shard-then-is_live.ensures.value) ∙ w.term.ensures.value in
            ap (λ v. tokens_in v.items) w.words-is
            ∙ ap tokens_in w.in_ok-push.ensures.items
            ∙ map-append (λ (word : Bor (List ℕ)). word.now) c.loop-place.words.items (w.term.result ∷ [])
            ∙ ap (λ l. l ++ w.term.result.now ∷ []) c.loop-place.invariant.words
            ∙ sym (live_more slot.mask prefix slot.shard.table place w.term.result.now true at (run.inside place w.term.result.now at from lt) (sym w.if-is_live.true ∙ c.is_live.ensures.value))
        | else-is_live w ↦
            ap (λ v. tokens_in v.items) w.words-is
            ∙ c.loop-place.invariant.words
            ∙ sym (append-nil (live_in slot.mask prefix (take place slot.shard.table)))
            ∙ sym (live_more slot.mask prefix slot.shard.table place t.0 false t.1 begins (sym w.if-is_live.false ∙ c.is_live.ensures.value))
      ];
      counted = omega arith;
      cost = omega (arith, before, here, more);
    }

pub returns-clause-words : goal.returns-clause-words
returns-clause-words g c =
    let slot = c.args.slot.now in
    let run = subst (λ (s : ShardContent). IsRun (names s.table) c.args.prefix.now c.run_of-run.result.from c.run_of-run.result.end) c.shard.ensures.value c.run_of-run.ensures.run in
    let past = c.loop-place-test.false in
    c.loop-place.invariant.words
    ∙ live_upto slot.mask c.args.prefix.now slot.shard.table c.loop-place.place (λ k t is le. run.behind k t is (omega arith))
    ∙ live_matches slot c.args.prefix.now c.shard.ensures.slot

pub returns-clause-cost : goal.returns-clause-cost
returns-clause-cost g c =
    let slot = c.args.slot.now in
    let before = c.loop-place.invariant.cost in
    omega (arith, before, cost_upto c.args.prefix.now (names slot.shard.table) c.loop-place.place (1 + length slot.mask))
