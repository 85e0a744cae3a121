use Rattle.std.proofs.Common.{◌+◌, ◌-◌, ◌*◌, ◌/◌, ◌^◌, drop, ap, ◌∙◌, arith, le_refl}
use Rattle.std.proofs.lemmas.List.{drop-append-le, take_all}
use Rattle.posting_code.proofs.Rising.{rise_length}
use Rattle.posting_code.proofs.InRows.{begins_pushed, head_fits, heads_still, no_shorter, placed_all, placed_before, placed_more}
use Rattle.posting_code.proofs.rows.put_heads.Goals as goal

pub returns-then-behind-eq0-clause-heads : goal.returns-then-behind-eq0-clause-heads
returns-then-behind-eq0-clause-heads c before start behind le has = heads_still before c.args.list.now _ (omega (arith, c.if-behind-eq0.true, c.len-behind.ensures.value)) has

pub loop-place-init : goal.loop-place-init
loop-place-init c = record {
  placed = λ before start behind le has. placed_before before c.args.list.now _ _ has (c.until_block-place.ensures ∙ ap (λ n. 64 * ((n + 63) / 64 - 1 + 1)) behind.counted);
  near = omega (arith, c.until_block-place.ensures, c.if-behind-eq0.false, c.len-behind.ensures.value);
  begins = take_all _ c.args.heads.now.items (le_refl _);
}

pub overflow_add-shift : goal.overflow_add-shift
overflow_add-shift c =
    let fits = head_fits c.requires.0 c.args.list.now c.args.front c.args.shift c.head-head.result.at c.requires.1 c.head-head.ensures.within in
    omega (arith, fits)

pub overflow_add-place : goal.overflow_add-place
overflow_add-place c =
    let short = rise_length 0 (2 ^ 56) c.args.list.now c.len-behind.ensures.rising in
    omega (arith, short, c.loop-place-test.true, c.len-behind.ensures.value)

pub loop-place-preserved : goal.loop-place-preserved
loop-place-preserved c = record {
  placed = λ before start behind le has.
      let wide = no_shorter c.args.heads.now.items c.loop-place.heads.items c.loop-place.invariant.begins in
      placed_more before c.args.list.now c.args.front c.args.shift c.loop-place.place (drop start c.loop-place.heads.items) _ c.head-head.result behind (omega (arith, c.loop-place-test.true, c.len-behind.ensures.value))
      (c.loop-place.invariant.placed before start behind le has) c.head-head.ensures
      (ap (drop start) c.in_ok-push.ensures.items ∙ drop-append-le start c.loop-place.heads.items _ (omega (arith, le, wide)));
  near = omega (arith, c.loop-place-test.true, c.len-behind.ensures.value);
  begins = begins_pushed c.args.heads.now.items c.loop-place.heads.items _ _ c.loop-place.invariant.begins c.in_ok-push.ensures.items;
}

pub returns-clause-heads : goal.returns-clause-heads
returns-clause-heads c before start behind le has =
    placed_all before c.args.list.now c.args.front c.loop-place.place _ behind.counted (c.loop-place.invariant.placed before start behind le has) (omega (arith, c.loop-place-test.false, c.len-behind.ensures.value)) c.loop-place.invariant.near
