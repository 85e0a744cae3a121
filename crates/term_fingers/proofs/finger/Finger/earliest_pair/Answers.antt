use Rattle.std.proofs.Common.{◌+◌, ◌<◌, ◌≤◌, length, take, get_or, arith}
use Rattle.std.proofs.lemmas.List.{length-take}
use Rattle.term_fingers.specs.Lists.{list_of}
use Rattle.term_fingers.proofs.Beside.{lists_lack, list_rises, members_rise}
use Rattle.term_fingers.proofs.Found.{in_list}
use Rattle.term_fingers.proofs.finger.Finger.earliest_pair.Goals as goal

pub earliest_pair_in-at-requires-clause-first : goal.earliest_pair_in-at-requires-clause-first
earliest_pair_in-at-requires-clause-first g c =
    let finger = c.args.self.now in
    members_rise g.J.Naming.version finger.slot finger.place finger.block finger.count finger.members c.requires finger.is

pub earliest_pair_in-at-requires-clause-second : goal.earliest_pair_in-at-requires-clause-second
earliest_pair_in-at-requires-clause-second g c =
    let finger = c.args.other.now in
    members_rise g.J.Naming.version finger.slot finger.place finger.block finger.count finger.members c.requires finger.is

pub returns-clause-none : goal.returns-clause-none
returns-clause-none g c =
    let v = g.J.Naming.version in
    let finger = c.args.self.now in
    let other = c.args.other.now in
    let part = take finger.count finger.members in
    let behind = take other.count other.members in
    let reach = c.reach_around.ensures c.if-not-reach_around.false in
    let reach_behind = c.reach_around-else-not-reach_around.ensures c.if-not-reach_around-2.false in
    let some : 0 < length part = reach.0 in
    let some_behind : 0 < length behind = reach_behind.0 in
    let held : 0 < finger.count = omega (arith, some, length-take finger.count finger.members) in
    let held_behind : 0 < other.count = omega (arith, some_behind, length-take other.count other.members) in
    let low : get_or behind 0 0 ≤ c.saturating_add.result = reach_behind.1 in
    let near : get_or behind 0 0 ≤ c.args.k + 1 = omega (arith, low, c.saturating_add.ensures) in
    let told = c.earliest_pair_in-at.ensures in
    lists_lack (list_of v.slots finger.slot finger.place) (list_of v.slots other.slot other.place) part behind finger.block other.block c.args.k c.earliest_pair_in-at.result.0.at
    (list_rises v finger.slot finger.place c.requires) (list_rises v other.slot other.place c.requires)
    (finger.is held) (other.is held_behind) some some_behind reach.1 near told.first told.second told.none

pub returns-clause-found : goal.returns-clause-found
returns-clause-found g c = λ found.
    let v = g.J.Naming.version in
    let finger = c.args.self.now in
    let other = c.args.other.now in
    let part = take finger.count finger.members in
    let behind = take other.count other.members in
    let some : 0 < length part = (c.reach_around.ensures c.if-not-reach_around.false).0 in
    let some_behind : 0 < length behind = (c.reach_around-else-not-reach_around.ensures c.if-not-reach_around-2.false).0 in
    let held : 0 < finger.count = omega (arith, some, length-take finger.count finger.members) in
    let held_behind : 0 < other.count = omega (arith, some_behind, length-take other.count other.members) in
    let told = c.earliest_pair_in-at.ensures.found found in (
      in_list (list_of v.slots finger.slot finger.place) part finger.block c.earliest_pair_in-at.result.0.at (finger.is held) told.0,
      in_list (list_of v.slots other.slot other.place) behind other.block (c.earliest_pair_in-at.result.0.at + 1) (other.is held_behind) told.1,
    )
