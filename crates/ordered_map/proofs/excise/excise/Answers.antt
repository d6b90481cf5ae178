use Rattle.std.proofs.Common.{◌<◌, length, arith, rules}
use Rattle.ordered_map.proofs.Excises.{here_in, excised_leaf, right_stands, least_in, place_in, mend_it, excised_node}
use Rattle.ordered_map.proofs.excise.excise.Goals as goal

pub offset_bounds-nodes-place : goal.offset_bounds-nodes-place
offset_bounds-nodes-place g c =
    let h : c.args.place < length c.args.nodes.now = here_in c.requires.4 in
    search rules

pub bounds-nodes-place : goal.bounds-nodes-place
bounds-nodes-place g c = here_in c.requires.4

pub returns-in_default : goal.returns-in_default
returns-in_default g c k v l r s = excised_leaf s c.index-nodes-place.is c.in_default.is

pub pop_least-least-requires : goal.pop_least-least-requires
pop_least-least-requires g c = (c.requires.3, right_stands c.requires.4 c.index-nodes-place.is c.in-Some.is)

pub bounds-nodes-least : goal.bounds-nodes-least
bounds-nodes-least g c =
    let s = right_stands c.requires.4 c.index-nodes-place.is c.in-Some.is in
    least_in c.requires.4 c.index-nodes-place.is c.in-Some.is (c.pop_least-least.ensures _ s)

pub offset_bounds-nodes-least : goal.offset_bounds-nodes-least
offset_bounds-nodes-least g c =
    let s = right_stands c.requires.4 c.index-nodes-place.is c.in-Some.is in
    let i = least_in c.requires.4 c.index-nodes-place.is c.in-Some.is (c.pop_least-least.ensures _ s) in
    let h : c.pop_least-least.result.0 < length c.args.nodes.now = omega (arith, (c.pop_least-least.ensures _ s).long) in
    search rules

pub bounds-nodes-place-2 : goal.bounds-nodes-place-2
bounds-nodes-place-2 g c =
    let s = right_stands c.requires.4 c.index-nodes-place.is c.in-Some.is in
    place_in c.requires.4 c.index-nodes-place.is c.in-Some.is (c.pop_least-least.ensures _ s)

pub offset_bounds-nodes-place-2 : goal.offset_bounds-nodes-place-2
offset_bounds-nodes-place-2 g c =
    let h : c.args.place < length c.args.nodes.now = here_in c.requires.4 in
    search rules

pub mend-top-requires : goal.mend-top-requires
mend-top-requires g c =
    let s = right_stands c.requires.4 c.index-nodes-place.is c.in-Some.is in
    let o = c.pop_least-least.ensures _ s in
    mend_it c.requires.4 c.index-nodes-place.is c.in-Some.is o c.index-nodes-least.is

pub returns : goal.returns
returns g c k v l r t =
    let s = right_stands t c.index-nodes-place.is c.in-Some.is in
    let o = c.pop_least-least.ensures _ s in
    excised_node t c.index-nodes-place.is c.in-Some.is o c.index-nodes-least.is
    (c.mend-top.ensures (mend_it t c.index-nodes-place.is c.in-Some.is o c.index-nodes-least.is))
