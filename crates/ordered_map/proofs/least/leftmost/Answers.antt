use Rattle.std.proofs.Common.{arith, rules}
use Rattle.ordered_map.proofs.Paths.{upward_more, upward_room}
use Rattle.ordered_map.proofs.Leasts.{left_turn}
use Rattle.ordered_map.proofs.least.leftmost.Goals as goal

pub bounds-nodes-at : goal.bounds-nodes-at
bounds-nodes-at g c = (left_turn c.requires.1 (c.loop-left.invariant c.requires.0 c.requires.1)).0

pub offset_bounds-nodes-at : goal.offset_bounds-nodes-at
offset_bounds-nodes-at g c =
    let h = (left_turn c.requires.1 (c.loop-left.invariant c.requires.0 c.requires.1)).0 in
    search rules

pub returns-in_default : goal.returns-in_default
returns-in_default g c t s = ((left_turn s (c.loop-left.invariant t s)).1 _ c.index-nodes-at.is).0 c.in_default.is

pub push-requires : goal.push-requires
push-requires g c =
    let h = upward_room c.loop-left.path (((left_turn c.requires.1 (c.loop-left.invariant c.requires.0 c.requires.1)).1 _ c.index-nodes-at.is).1 _ c.in-Some.is).0 in
    search rules

pub loop-left-smaller : goal.loop-left-smaller
loop-left-smaller g c =
    let h = upward_room c.loop-left.path (((left_turn c.requires.1 (c.loop-left.invariant c.requires.0 c.requires.1)).1 _ c.index-nodes-at.is).1 _ c.in-Some.is).0 in
    omega (arith, c.push.ensures.len)

pub loop-left-preserved : goal.loop-left-preserved
loop-left-preserved g c t s =
    rw (upward_more c.loop-left.path c.push.new.self c.push.ensures.items) (((left_turn s (c.loop-left.invariant t s)).1 _ c.index-nodes-at.is).1 _ c.in-Some.is).1
