use Rattle.std.proofs.Common.{◌<◌, length, refl, inr, arith, rules}
use Rattle.ordered_map.specs.Tree.{node, leaf}
use Rattle.ordered_map.proofs.Enters.{full, room, rising, fewer, entered, l}
use Rattle.ordered_map.proofs.enter.enter.Goals as goal

pub returns-in_err-place : goal.returns-in_err-place
returns-in_err-place g c = rw c.from_residual.ensures (refl, inr (full c.requires.0 c.in_err-place.was))

pub offset_bounds-nodes-place : goal.offset_bounds-nodes-place
offset_bounds-nodes-place g c =
    let h : c.in_ok-place.place < length c.args.nodes.now = (room c.requires.0 c.in_ok-place.was).within in
    search rules

pub bounds-nodes-place : goal.bounds-nodes-place
bounds-nodes-place g c = (room c.requires.0 c.in_ok-place.was).within

pub offset_bounds-nodes-place-2 : goal.offset_bounds-nodes-place-2
offset_bounds-nodes-place-2 g c =
    let h : c.in_ok-place.place < length c.args.nodes.now = (room c.requires.0 c.in_ok-place.was).within in
    search rules

pub bounds-nodes-place-2 : goal.bounds-nodes-place-2
bounds-nodes-place-2 g c = (room c.requires.0 c.in_ok-place.was).within

pub rise-root-requires : goal.rise-root-requires
rise-root-requires g c =
    let m = room c.requires.0 c.in_ok-place.was in
    let d = c.in-Err.ensures.1 in
    ((l g.K.Key.lawful c.args.value m d).frames, node c.in_ok-place.place c.args.key c.args.value leaf leaf, 0, rising g.K.Key.lawful c.args.value m d)

pub overflow_add-result : goal.overflow_add-result
overflow_add-result g c =
    let m = room c.requires.0 c.in_ok-place.was in
    let a = fewer g.K.Key.lawful c.args.value m c.in-Err.ensures.1 in
    let b = m.rep.small in
    let h = c.requires.1 in
    record { fits = omega arith }

pub returns : goal.returns
returns g c =
    let m = room c.requires.0 c.in_ok-place.was in
    let d = c.in-Err.ensures.1 in
    entered g.K.Key.lawful c.args.value m d c.requires.1 c.index-nodes-place.is
    (c.rise-root.ensures _ _ _ (rising g.K.Key.lawful c.args.value m d))
