use Rattle.std.proofs.Common.{◌<◌, length, rules}
use Rattle.ordered_map.proofs.Rotations.{stage}
use Rattle.ordered_map.proofs.Leans.{heavy_in, single_ready_1, single_ready_2, single_made, inner_in, inner_parts, double_ready_1, double_ready_2, double_ready_3, double_made}
use Rattle.ordered_map.proofs.edit.lean.Goals as goal

pub offset_bounds-nodes-heavy : goal.offset_bounds-nodes-heavy
offset_bounds-nodes-heavy g c =
    let h : c.args.heavy < length c.args.nodes.now = heavy_in c.requires in
    search rules

pub bounds-nodes-heavy : goal.bounds-nodes-heavy
bounds-nodes-heavy g c = heavy_in c.requires

pub offset_bounds-nodes-up : goal.offset_bounds-nodes-up
offset_bounds-nodes-up g c =
    let t = stage c.requires c.index-nodes-heavy.is c.pick-outer.ensures c.pick-inner.ensures in
    let h : c.in-Some.up < length c.args.nodes.now = inner_in t c.in-Some.ensures.0 c.in-Some.ensures.1 in
    search rules

pub bounds-nodes-up : goal.bounds-nodes-up
bounds-nodes-up g c =
    let t = stage c.requires c.index-nodes-heavy.is c.pick-outer.ensures c.pick-inner.ensures in
    inner_in t c.in-Some.ensures.0 c.in-Some.ensures.1

pub join-requires : goal.join-requires
join-requires g c =
    let t = stage c.requires c.index-nodes-heavy.is c.pick-outer.ensures c.pick-inner.ensures in
    let d = inner_parts t c.in-Some.ensures.0 c.in-Some.ensures.1 c.index-nodes-up.is c.pick-first.ensures c.pick-second.ensures in
    double_ready_1 t c.in-Some.ensures.0 c.in-Some.ensures.1 d

pub join-requires-in-Some : goal.join-requires-in-Some
join-requires-in-Some g c =
    let t = stage c.requires c.index-nodes-heavy.is c.pick-outer.ensures c.pick-inner.ensures in
    let d = inner_parts t c.in-Some.ensures.0 c.in-Some.ensures.1 c.index-nodes-up.is c.pick-first.ensures c.pick-second.ensures in
    double_ready_2 t c.in-Some.ensures.0 c.in-Some.ensures.1 d _ c.join.ensures

pub join-requires-in-Some-2 : goal.join-requires-in-Some-2
join-requires-in-Some-2 g c =
    let t = stage c.requires c.index-nodes-heavy.is c.pick-outer.ensures c.pick-inner.ensures in
    let d = inner_parts t c.in-Some.ensures.0 c.in-Some.ensures.1 c.index-nodes-up.is c.pick-first.ensures c.pick-second.ensures in
    double_ready_3 t c.in-Some.ensures.0 c.in-Some.ensures.1 d _ c.join.ensures _ c.join-in-Some.ensures

pub join-requires-in_default : goal.join-requires-in_default
join-requires-in_default g c = single_ready_1 (stage c.requires c.index-nodes-heavy.is c.pick-outer.ensures c.pick-inner.ensures)

pub join-requires-in_default-2 : goal.join-requires-in_default-2
join-requires-in_default-2 g c =
    single_ready_2 (stage c.requires c.index-nodes-heavy.is c.pick-outer.ensures c.pick-inner.ensures) _ c.join-in_default.ensures

pub returns-in-Some : goal.returns-in-Some
returns-in-Some g c l =
    let t = stage l c.index-nodes-heavy.is c.pick-outer.ensures c.pick-inner.ensures in
    let d = inner_parts t c.in-Some.ensures.0 c.in-Some.ensures.1 c.index-nodes-up.is c.pick-first.ensures c.pick-second.ensures in
    double_made t c.in-Some.ensures.0 c.in-Some.ensures.1 d _ c.join.ensures _ c.join-in-Some.ensures _ c.join-in-Some-2.ensures

pub returns-in_default : goal.returns-in_default
returns-in_default g c l =
    single_made (stage l c.index-nodes-heavy.is c.pick-outer.ensures c.pick-inner.ensures) _ c.join-in_default.ensures _ c.join-in_default-2.ensures c.in_default.ensures
