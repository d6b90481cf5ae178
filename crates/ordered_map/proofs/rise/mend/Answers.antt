use Rattle.std.proofs.Common.{◌<◌, length, rules}
use Rattle.ordered_map.proofs.Mends.{place_in, lean_near, lean_far, join_ready, mended_near, mended_far, mended_even}
use Rattle.ordered_map.proofs.rise.mend.Goals as goal

pub offset_bounds-nodes-step : goal.offset_bounds-nodes-step
offset_bounds-nodes-step g c =
    let h : c.args.step.place < length c.args.nodes.now = place_in c.requires in
    search rules

pub bounds-nodes-step : goal.bounds-nodes-step
bounds-nodes-step g c = place_in c.requires

pub lean-requires : goal.lean-requires
lean-requires g c = lean_near c.requires c.index-nodes-step.is c.pick-far.ensures c.in-Some.ensures.0 c.in-Some.ensures.1

pub lean-requires-in-Some-higher : goal.lean-requires-in-Some-higher
lean-requires-in-Some-higher g c = lean_far c.requires c.index-nodes-step.is c.pick-far.ensures c.in-Some-higher.ensures.0 c.in-Some-higher.ensures.1

pub join-requires : goal.join-requires
join-requires g c = join_ready c.requires c.index-nodes-step.is c.pick-far.ensures

pub returns-in-Some : goal.returns-in-Some
returns-in-Some g c m =
    mended_near m c.index-nodes-step.is c.pick-far.ensures c.in-Some.ensures.1
    (c.lean.ensures (lean_near m c.index-nodes-step.is c.pick-far.ensures c.in-Some.ensures.0 c.in-Some.ensures.1))

pub returns-in-Some-higher : goal.returns-in-Some-higher
returns-in-Some-higher g c m =
    mended_far m c.index-nodes-step.is c.pick-far.ensures c.in-Some-higher.ensures.1
    (c.lean-in-Some-higher.ensures (lean_far m c.index-nodes-step.is c.pick-far.ensures c.in-Some-higher.ensures.0 c.in-Some-higher.ensures.1))

pub returns-in_default-higher : goal.returns-in_default-higher
returns-in_default-higher g c m = mended_even m c.index-nodes-step.is c.pick-far.ensures c.in_default.ensures c.in_default-higher.ensures c.join.ensures
