use Rattle.std.proofs.Common.{◌<◌, length, refl, rules}
use Rattle.ordered_map.specs.Tree.{node, height}
use Rattle.ordered_map.proofs.Takes.{f, standing, rising, freed_in, freed_still, taken}
use Rattle.ordered_map.proofs.take.take_out.Goals as goal

pub excise-child-requires : goal.excise-child-requires
excise-child-requires g c =
    let d = c.in-Ok.ensures.1 in
    let h = f c.requires.0 d in
    (c.args.key.now, h.value, h.left, h.right, standing c.requires.0 d)

pub rise-root-requires : goal.rise-root-requires
rise-root-requires g c =
    let d = c.in-Ok.ensures.1 in
    let e = c.excise-child.ensures _ _ _ _ (standing c.requires.0 d) in
    let h = f c.requires.0 d in
    (h.frames, e.tree, height (node c.in-Ok.place c.args.key.now h.value h.left h.right), rising c.requires.0 d e)

pub bounds-nodes-freed : goal.bounds-nodes-freed
bounds-nodes-freed g c =
    let d = c.in-Ok.ensures.1 in
    let e = c.excise-child.ensures _ _ _ _ (standing c.requires.0 d) in
    freed_still c.requires.0 d e (c.rise-root.ensures _ _ _ (rising c.requires.0 d e))

pub offset_bounds-nodes-freed : goal.offset_bounds-nodes-freed
offset_bounds-nodes-freed g c =
    let d = c.in-Ok.ensures.1 in
    let e = c.excise-child.ensures _ _ _ _ (standing c.requires.0 d) in
    let h : c.excise-child.result.1 < length c.args.nodes.now = freed_in c.requires.0 d e in
    search rules

pub bounds-nodes-freed-in-Ok : goal.bounds-nodes-freed-in-Ok
bounds-nodes-freed-in-Ok g c =
    let d = c.in-Ok.ensures.1 in
    let e = c.excise-child.ensures _ _ _ _ (standing c.requires.0 d) in
    freed_still c.requires.0 d e (c.rise-root.ensures _ _ _ (rising c.requires.0 d e))

pub returns : goal.returns
returns g c =
    let d = c.in-Ok.ensures.1 in
    let e = c.excise-child.ensures _ _ _ _ (standing c.requires.0 d) in
    taken c.requires.0 d e c.requires.1 (c.rise-root.ensures _ _ _ (rising c.requires.0 d e)) _ refl
