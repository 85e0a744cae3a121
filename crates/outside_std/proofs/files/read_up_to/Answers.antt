use Rattle.std.proofs.Common.{◌≡◌, ◌+◌, ◌-◌, ◌<◌, ◌≤◌, ◌++◌, length, take, sym, ap, ◌∙◌, subst, arith, rules}
use Rattle.std.proofs.lemmas.List.{length-append, length-take-le}
use Rattle.std.proofs.KnownBytes.{Consumes-trans}
use Rattle.std.specs.Io.KnownBytes.{Consumes}
use Rattle.outside_std.proofs.Pieces.{cut_read}
use Rattle.outside_std.proofs.files.read_up_to.Goals as goal

pub returns-then-count-room-clause-bytes : goal.returns-then-count-room-clause-bytes
returns-then-count-room-clause-bytes g c =
    let front = c.pieces.out.items in
    let piece = c.read_again.new.into in
    let room = c.args.most - length front in
    let short : length front ≤ c.args.most = c.pieces.invariant.short in
    let over : room < c.in-Ok.count = search rules in
    let bound : c.in-Ok.count ≤ length piece = c.in-Ok.ensures.bound.0 in
    let items : c.extend_from_slice.new.self.items ≡ front ++ take (room + 1) piece = search rules in
    cut_read (g.R.Read.remaining c.args.file.now) (g.R.Read.remaining c.pieces.file) (g.R.Read.remaining c.read_again.new.inner) front piece c.extend_from_slice.new.self.items
    (room + 1) c.in-Ok.count c.args.most c.pieces.invariant.read c.in-Ok.ensures.bytes.0 (omega arith) bound (omega arith) items

pub returns-then-count-room-clause-size : goal.returns-then-count-room-clause-size
returns-then-count-room-clause-size g c =
    let front = c.pieces.out.items in
    let piece = c.read_again.new.into in
    let room = c.args.most - c.len.result in
    let short = c.pieces.invariant.short in
    let bound = c.in-Ok.ensures.bound.0 in
    let items : c.extend_from_slice.new.self.items ≡ front ++ take (room + 1) piece = c.in_ok-extend_from_slice.ensures.items in
    let taken = length-take-le (room + 1) piece (omega (arith, bound, c.if-count-room.true)) in
    let long = ap length items ∙ length-append front (take (room + 1) piece) in
    (omega (arith, long, taken, short, c.len.ensures), tt)

pub pieces-preserved : goal.pieces-preserved
pieces-preserved g c =
    let front = c.pieces.out.items in
    let piece = c.read_again.new.into in
    let short = c.pieces.invariant.short in
    let bound = c.in-Ok.ensures.bound.0 in
    let items : c.extend_from_slice-in-pieces.new.self.items ≡ front ++ take c.in-Ok.count piece = c.in_ok-extend_from_slice-2.ensures.items in
    let taken = length-take-le c.in-Ok.count piece bound in
    let long = ap length items ∙ length-append front (take c.in-Ok.count piece) in
    let left = g.R.Read.remaining in
    record {
      short = omega (arith, long, taken, short, c.len.ensures, c.if-count-room.false);
      read = subst (λ bytes. Consumes (left c.args.file.now) (left c.read_again.new.inner) bytes) (sym items)
          (Consumes-trans (left c.args.file.now) (left c.pieces.file) (left c.read_again.new.inner) front (take c.in-Ok.count piece) c.pieces.invariant.read c.in-Ok.ensures.bytes.0);
    }
