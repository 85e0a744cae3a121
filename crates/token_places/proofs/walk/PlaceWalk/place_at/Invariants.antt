use Rattle.std.proofs.Common.{◌≡◌, ◌≤◌, ◌-◌}
use Rattle.token_places.specs.Walks.{IsWalk}
use Rattle.token_places.proofs.walk.PlaceWalk.place_at.Given as goal

-- the walk is at an address up to the one that is asked for
abbrev pub invariant-loop-self : goal.invariant-loop-self
invariant-loop-self l = record {
  upto : l.self-inside.address ≤ l.address;
  same : l.self-inside.bytes.now ≡ l.fn.self;
  at : IsWalk l.self-inside.bytes.now l.self-inside.address l.self-inside.place l.self-inside.cursor;
}

abbrev pub decreases-loop-self : goal.decreases-loop-self
decreases-loop-self l = l.address - l.self-inside.address
