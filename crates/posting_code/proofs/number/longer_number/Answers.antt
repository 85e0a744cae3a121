use Rattle.std.proofs.Common.{◌+◌, ◌-◌, ◌<◌, get_or, refl, arith}
use Rattle.posting_code.proofs.Numbers.{reading_ends, reading_full, reading_padded, reading_done, reading_more, reading_small, reading_scaled}
use Rattle.posting_code.proofs.number.longer_number.Goals as goal

pub returns-then-bytes-at : goal.returns-then-bytes-at
returns-then-bytes-at c = reading_ends _ _ _ _ _ _ c.loop-i.invariant (omega arith)

pub returns-then-byte-eq0 : goal.returns-then-byte-eq0
returns-then-byte-eq0 c =
    reading_padded _ _ _ c.loop-i.i _ _ _ c.loop-i.invariant (omega arith) (omega arith) refl (omega arith)

pub overflow_mul-result : goal.overflow_mul-result
overflow_mul-result c =
    let b = get_or c.args.bytes.now (c.args.at + c.loop-i.i) 0 in
    let few : c.loop-i.i < 8 = omega arith in
    let fits : b < 256 = omega (arith, c.type_inv.bytes (c.args.at + c.loop-i.i)) in
    let small = (reading_scaled _ _ _ _ _ _ b c.loop-i.invariant few fits).0 in
    omega (arith, small)

pub overflow_add-result : goal.overflow_add-result
overflow_add-result c =
    let b = get_or c.args.bytes.now (c.args.at + c.loop-i.i) 0 in
    let few : c.loop-i.i < 8 = omega arith in
    let fits : b < 256 = omega (arith, c.type_inv.bytes (c.args.at + c.loop-i.i)) in
    let small = (reading_scaled _ _ _ _ _ _ b c.loop-i.invariant few fits).1 in
    omega (arith, small)

pub returns-then-byte-lt128 : goal.returns-then-byte-lt128
returns-then-byte-lt128 c = reading_done _ _ _ c.loop-i.i _ _ _ c.loop-i.invariant (omega arith) (omega arith) refl (omega arith) (omega arith)

pub overflow_mul-value : goal.overflow_mul-value
overflow_mul-value c =
    let b = get_or c.args.bytes.now (c.args.at + c.loop-i.i) 0 in
    let few : c.loop-i.i < 8 = omega arith in
    let fits : b - 128 < 256 = omega (arith, c.type_inv.bytes (c.args.at + c.loop-i.i)) in
    let small = (reading_scaled _ _ _ _ _ _ (b - 128) c.loop-i.invariant few fits).0 in
    omega (arith, small)

pub overflow_add-value : goal.overflow_add-value
overflow_add-value c =
    let b = get_or c.args.bytes.now (c.args.at + c.loop-i.i) 0 in
    let few : c.loop-i.i < 8 = omega arith in
    let fits : b - 128 < 256 = omega (arith, c.type_inv.bytes (c.args.at + c.loop-i.i)) in
    let small = (reading_scaled _ _ _ _ _ _ (b - 128) c.loop-i.invariant few fits).1 in
    omega (arith, small)

pub overflow_mul-scale : goal.overflow_mul-scale
overflow_mul-scale c =
    let small = reading_small _ _ _ _ _ _ c.loop-i.invariant (omega arith) in
    omega (arith, small)

pub loop-i-preserved : goal.loop-i-preserved
loop-i-preserved c = reading_more _ _ _ c.loop-i.i _ _ _ c.loop-i.invariant (omega arith) (omega arith) refl (omega arith) (omega (arith, c.type_inv.bytes (c.args.at + c.loop-i.i)))

pub returns : goal.returns
returns c = reading_full _ _ _ _ _ _ c.loop-i.invariant (omega arith)
