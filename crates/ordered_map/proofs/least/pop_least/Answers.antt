use Rattle.std.proofs.Common.{◌+◌, ◌<◌, length, rules}
use Rattle.ordered_map.specs.Tree.{height}
use Rattle.ordered_map.proofs.Leasts.{least_in, least_rising, popped}
use Rattle.ordered_map.proofs.least.pop_least.Goals as goal

pub offset_bounds-nodes-place : goal.offset_bounds-nodes-place
offset_bounds-nodes-place g c =
    let h : c.leftmost-path.result.1 < length c.args.nodes.now = least_in c.requires.1 (c.leftmost-path.ensures c.requires.0 c.requires.1) in
    search rules

pub bounds-nodes-place : goal.bounds-nodes-place
bounds-nodes-place g c = least_in c.requires.1 (c.leftmost-path.ensures c.requires.0 c.requires.1)

pub rise-rest-requires : goal.rise-rest-requires
rise-rest-requires g c =
    let l = c.leftmost-path.ensures c.requires.0 c.requires.1 in
    (l.frames, l.right, height l.right + 1, least_rising c.requires.1 l c.index-nodes-place.is)

pub returns : goal.returns
returns g c t s =
    let l = c.leftmost-path.ensures t s in
    popped s l (c.rise-rest.ensures _ _ _ (least_rising s l c.index-nodes-place.is))
