use Rattle.std.proofs.Common.{◌-◌, length}
use Rattle.ordered_map.specs.Table.{tree_of}
use Rattle.ordered_map.specs.Path.{Falling, upward}
use Rattle.ordered_map.proofs.locate.locate.Given as goal

abbrev pub invariant-loop-at : goal.invariant-loop-at
invariant-loop-at g l = Falling g.K.Key.cmp (tree_of l.nodes l.fn.root) l.key (upward l.path) l.at

abbrev pub decreases-loop-at : goal.decreases-loop-at
decreases-loop-at g l = 14 - length l.path.items
