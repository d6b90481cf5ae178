use Rattle.std.proofs.Common.{◌<◌, length, ◌∙◌, arith, rules}
use Rattle.ordered_map.proofs.Lookups.{start, turn, ended, more_steps, sound_steps, sound_find}
use Rattle.ordered_map.proofs.search.seek.Goals as goal

pub loop-at-init : goal.loop-at-init
loop-at-init g c = start c.requires.1 _

pub offset_bounds-nodes-place : goal.offset_bounds-nodes-place
offset_bounds-nodes-place g c =
    let h : c.in-Some.place < length c.args.nodes.now = (turn c.loop-at.invariant c.in-Some.is).0 in
    search rules

pub bounds-nodes-place : goal.bounds-nodes-place
bounds-nodes-place g c = (turn c.loop-at.invariant c.in-Some.is).0

pub overflow_add-count : goal.overflow_add-count
overflow_add-count g c =
    let h = sound_steps c.requires.1 c.args.key.now in
    let m = more_steps c.loop-at.invariant in
    search rules

pub loop-at-smaller-in-Less : goal.loop-at-smaller-in-Less
loop-at-smaller-in-Less g c =
    let h = sound_steps c.requires.1 c.args.key.now in
    let m = more_steps ((turn c.loop-at.invariant c.in-Some.is).1 _ _ c.index-nodes-place.is c.in-Less.ensures) in
    omega arith

pub loop-at-preserved-in-Less : goal.loop-at-preserved-in-Less
loop-at-preserved-in-Less g c = (turn c.loop-at.invariant c.in-Some.is).1 _ _ c.index-nodes-place.is c.in-Less.ensures

pub returns-in-Equal : goal.returns-in-Equal
returns-in-Equal g c =
    let m = (turn c.loop-at.invariant c.in-Some.is).1 _ _ c.index-nodes-place.is c.in-Equal.ensures in
    record { value = m.0 ∙ sound_find g.K.Key.lawful c.requires.1 _; count = m.1 }

pub loop-at-smaller : goal.loop-at-smaller
loop-at-smaller g c =
    let h = sound_steps c.requires.1 c.args.key.now in
    let m = more_steps ((turn c.loop-at.invariant c.in-Some.is).1 _ _ c.index-nodes-place.is c.in-Greater.ensures) in
    omega arith

pub loop-at-preserved : goal.loop-at-preserved
loop-at-preserved g c = (turn c.loop-at.invariant c.in-Some.is).1 _ _ c.index-nodes-place.is c.in-Greater.ensures

pub returns : goal.returns
returns g c =
    let m = ended c.loop-at.invariant c.in_default.is in
    record { value = m.0 ∙ sound_find g.K.Key.lawful c.requires.1 _; count = m.1 }
