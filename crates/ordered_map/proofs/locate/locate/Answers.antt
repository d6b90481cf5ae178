use Rattle.std.proofs.Common.{◌<◌, length, sym, ap, ◌∙◌, arith, rules}
use Rattle.ordered_map.specs.Tree.{top}
use Rattle.ordered_map.proofs.Lookups.{rep_tree}
use Rattle.ordered_map.proofs.Paths.{upward_more, upward_room}
use Rattle.ordered_map.proofs.Falls.{ground, fall, falls_none, land, landed_absent}
use Rattle.ordered_map.proofs.locate.locate.Goals.{in-Less, in-Greater}
use Rattle.ordered_map.proofs.locate.locate.Goals as goal

pub loop-at-init : goal.loop-at-init
loop-at-init g c =
    let s = c.requires.1 in
    rw c.new-path.ensures (falls_none (s.2.rooted ∙ ap top (sym (rep_tree _ _ _ _ s.0 s.1 s.2))))

pub bounds-nodes-place : goal.bounds-nodes-place
bounds-nodes-place g c = (fall g.K.Key.lawful c.in-Some.is (ground c.requires.1) c.loop-at.invariant).0

pub offset_bounds-nodes-place : goal.offset_bounds-nodes-place
offset_bounds-nodes-place g c =
    let h : c.in-Some.place < length c.args.nodes.now = (fall g.K.Key.lawful c.in-Some.is (ground c.requires.1) c.loop-at.invariant).0 in
    search rules

pub push-requires : goal.push-requires
push-requires g c =
    let h = upward_room c.loop-at.path (fall g.K.Key.lawful c.in-Some.is (ground c.requires.1) c.loop-at.invariant).1 in
    search rules

pub returns-in-Equal : goal.returns-in-Equal
returns-in-Equal g c = (fall g.K.Key.lawful c.in-Some.is (ground c.requires.1) c.loop-at.invariant).2 _ _ c.index-nodes-place.is c.in-Equal.ensures

pub loop-at-smaller : goal.loop-at-smaller
loop-at-smaller g c =
    let h = upward_room c.loop-at.path (fall g.K.Key.lawful c.in-Some.is (ground c.requires.1) c.loop-at.invariant).1 in
    omega (arith, c.push.ensures.len)

pub loop-at-preserved : goal.loop-at-preserved
loop-at-preserved g c =
    let more = upward_more c.loop-at.path c.push.new.self c.push.ensures.items in
    let fell = (fall g.K.Key.lawful c.in-Some.is (ground c.requires.1) c.loop-at.invariant).2 in
    elim c.match-compare.branch [
      | in-Less w ↦ rw (more, c.pick-at.ensures, w.left-is) (fell _ _ c.index-nodes-place.is w.in-Less.ensures)
      | in-Greater w ↦ rw (more, c.pick-at.ensures, w.left-is) (fell _ _ c.index-nodes-place.is w.in-Greater.ensures)
    ]

pub returns : goal.returns
returns g c =
    let l = land c.loop-at.invariant c.in_default.is in
    (landed_absent l, l)
